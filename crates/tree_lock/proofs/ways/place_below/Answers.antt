use Rattle.std.proofs.Common.{arith}
use Rattle.tree_lock.proofs.Meeting.{placed_or, not_above, prefix_small}
use Rattle.tree_lock.proofs.ways.place_below.Goals as goal

pub overflow_mul-result : goal.overflow_mul-result
overflow_mul-result c =
    let at = placed_or c.args.levels c.requires.levels c.args.place c.requires.table (not_above c.args.levels c.requires.levels c.args.place c.if-place-levels.false) in
    let small = prefix_small c.args.levels c.args.place at in omega arith

pub overflow_add-result : goal.overflow_add-result
overflow_add-result c =
    let at = placed_or c.args.levels c.requires.levels c.args.place c.requires.table (not_above c.args.levels c.requires.levels c.args.place c.if-place-levels.false) in
    let small = prefix_small c.args.levels c.args.place at in let index = c.from.ensures in omega arith
