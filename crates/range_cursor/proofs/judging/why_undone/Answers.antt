use Rattle.std.proofs.Common.{sym, ◌∙◌}
use Rattle.page_map.specs.Mapping.{after_ops}
use Rattle.page_map.specs.State.{space_at}
use Rattle.range_cursor.proofs.Undone.{right_part, by_right, by_wrong}
use Rattle.range_cursor.proofs.judging.why_undone.Goals as goal

pub returns-then-is_right_within : goal.returns-then-is_right_within
returns-then-is_right_within c space st asked shown =
    let right = sym c.is_right_within.ensures ∙ c.if-is_right_within.true in
    by_right c.args.levels c.args.shelf.now c.args.range.first c.args.range.count c.args.op.now (after_ops c.args.done.now (space_at st space)) c.refused_after.result right
    (c.refused_after.ensures space st (right_part c.args.levels c.args.shelf.now c.args.range.first c.args.range.count c.args.op.now space c.args.held.now.rows right asked) shown)

pub returns-else-is_right_within : goal.returns-else-is_right_within
returns-else-is_right_within c space st asked shown =
    by_wrong c.args.levels c.args.shelf.now c.args.range.first c.args.range.count c.args.op.now (after_ops c.args.done.now (space_at st space)) (sym c.is_right_within.ensures ∙ c.if-is_right_within.false)
