use Rattle.std.proofs.Common.{◌++◌, ◌∷◌, [], sym, ap, subst, ◌∙◌}
use Rattle.std.specs.List.{All}
use Rattle.std.proofs.lemmas.List.Elements.{All-push}
use Rattle.page_runs.specs.declared.change.Effect.TheVariants.{Unmap}
use Rattle.page_runs.specs.Changes.{IsChange, after_changes}
use Rattle.space_cells.specs.Moving.{HaveMoved}
use Rattle.space_cells.proofs.Moved.{none_moved}
use Rattle.space_cells.proofs.moving.changes_of_move.Goals as goal

pub add_moved-requires-clause-left : goal.add_moved-requires-clause-left
add_moved-requires-clause-left c =
    let r = c.args.relocation in
    subst (λ cs. HaveMoved r 0 c.args.marks.now (after_changes c.args.marks.now cs))
    (sym (c.in_ok-push.ensures.items ∙ ap (λ l. l ++ record { first = r.first; count = r.old; effect = Unmap } ∷ []) c.new-changes.ensures.items))
    (none_moved c.args.marks.now r c.requires)

pub returns-clause-fits : goal.returns-clause-fits
returns-clause-fits c =
    subst (All IsChange) (sym c.in_ok-push-2.ensures.items) (All-push IsChange _ _ c.in_ok-add_moved.ensures.fits c.added.ensures.fits)
