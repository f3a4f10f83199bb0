use Rattle.std.proofs.Common.{sym, ap, take, get_or, ◌∙◌}
use Rattle.table_place.specs.declared.Place.{Place}
use Rattle.std.specs.FinSet as set
use Rattle.std.proofs.lemmas.List.{take_more}
use Rattle.page_map.proofs.Places.{place_total, place_exact}
use Rattle.page_map.proofs.Evaluate.{union_empty}
use Rattle.plain_counts.proofs.Missing.{put_more}
use Rattle.plain_counts.proofs.tables.Tables.insert_some.Goals as goal

pub loop-place-init : goal.loop-place-init
loop-place-init c = sym (union_empty place_total place_exact c.args.self.now)

pub loop-place-preserved : goal.loop-place-preserved
loop-place-preserved c =
    let none : Place = record { space = 0; level = 0; prefix = 0 } in
    let here = get_or c.args.places.now c.loop-place.place-index none in
    c.in_ok-insert.ensures.ok
    ∙ ap (λ s. set.insert s here) c.loop-place.invariant
    ∙ sym (put_more place_total place_exact c.args.self.now (take c.loop-place.place-index c.args.places.now) here)
    ∙ ap (λ ps. set.union c.args.self.now (set.from_list ps)) (sym (take_more c.args.places.now c.loop-place.place-index none c.loop-place-test.true))
