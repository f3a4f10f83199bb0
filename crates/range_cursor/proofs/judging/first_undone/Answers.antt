use Rattle.std.proofs.Common.{sym, ◌∙◌}
use Rattle.page_map.specs.Mapping.{is_right_within}
use Rattle.page_map.specs.State.{space_at}
use Rattle.txn_plan.proofs.Judging.{passed, stopped}
use Rattle.range_cursor.proofs.judging.first_undone.Goals as goal

pub loop-place-preserved : goal.loop-place-preserved
loop-place-preserved c space st asked shown =
    c.loop-place.invariant space st asked shown
    ∙ passed (is_right_within c.args.levels c.args.shelf.now c.args.range.first c.args.range.count) c.args.ops.now _ c.loop-place.place _ (space_at st space) c.loop-place-test.true c.split_at.ensures.front (c.in_default.ensures space st asked shown)

pub returns-in-Some : goal.returns-in-Some
returns-in-Some c space st asked shown =
    sym (c.loop-place.invariant space st asked shown
    ∙ stopped (is_right_within c.args.levels c.args.shelf.now c.args.range.first c.args.range.count) c.args.ops.now _ c.loop-place.place _ (space_at st space) c.in-Some.why c.loop-place-test.true c.split_at.ensures.front (c.in-Some.ensures space st asked shown))
