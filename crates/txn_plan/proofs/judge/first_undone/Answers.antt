use Rattle.std.proofs.Common.{sym, ◌∙◌}
use Rattle.page_map.specs.Mapping.{is_right_within}
use Rattle.txn_plan.proofs.Judging.{passed, stopped}
use Rattle.txn_plan.proofs.judge.first_undone.Goals as goal

pub loop-place-preserved : goal.loop-place-preserved
loop-place-preserved c =
    c.loop-place.invariant
    ∙ passed (is_right_within c.args.levels c.args.shelf.now c.args.range.first c.args.range.count) c.args.ops.now _ c.loop-place.place _ c.args.cells.now c.loop-place-test.true c.split_at.ensures.front c.in_default.ensures

pub returns-in-Some : goal.returns-in-Some
returns-in-Some c =
    sym (c.loop-place.invariant
    ∙ stopped (is_right_within c.args.levels c.args.shelf.now c.args.range.first c.args.range.count) c.args.ops.now _ c.loop-place.place _ c.args.cells.now c.in-Some.why c.loop-place-test.true c.split_at.ensures.front c.in-Some.ensures)
