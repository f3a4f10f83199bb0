use Rattle.std.proofs.Common.{◌≡◌, true, sym, ap, subst, ◌∙◌}
use Rattle.std.specs.List.{All}
use Rattle.std.specs.FinSet as set
use Rattle.std.proofs.lemmas.Result.{IfOk-weaker}
use Rattle.table_place.specs.Place.{is_place, root}
use Rattle.plain_counts.specs.Levels.{Lists}
use Rattle.plain_spaces.specs.Copies.{used_copies}
use Rattle.plain_spaces.proofs.Copied.{listed_places, noted_at}
use Rattle.plain_spaces.proofs.copy.copied_tables.Goals as goal

pub note_copies-requires-clause-places : goal.note_copies-requires-clause-places
note_copies-requires-clause-places c =
    subst (All (λ p. is_place c.args.levels p ≡ true)) (sym c.deref.ensures.value)
    (listed_places c.args.levels c.args.space c.args.tables.now c.in_ok-places.places.items c.in_ok-places.ensures.same c.requires.places)

pub returns : goal.returns
returns c = IfOk-weaker c.list.result _ _ (λ copies lists st ok at. subst (λ s. Lists s copies.items)
    (c.in_ok-note_copies.ensures
    ∙ (λ i. set.union ((c.in_ok-insert.ensures.ok ∙ ap (λ s. set.insert s (root c.args.levels c.args.new)) c.new-copies.ensures) i) (set.from_list (used_copies c.args.levels c.args.new c.args.cells.now (c.deref.ensures.value i))))
    ∙ noted_at st ok c.args.levels c.args.space c.args.new c.args.cells.now c.args.tables.now at c.in_ok-places.places.items c.in_ok-places.ensures.same) lists) c.list.ensures
