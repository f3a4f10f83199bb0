use Rattle.std.specs.Prelude.{◌+◌, ◌-◌}
use Rattle.std.proofs.Common.{arith}
use Rattle.table_place.proofs.Spans.{span_pos}
use Rattle.cursor_apply.proofs.towers.low_of.Goals as goal

pub nonzero_rem-page : goal.nonzero_rem-page
nonzero_rem-page c = let some = span_pos (c.loop-level.level + 1 - 1) in let is = c.entry_pages.ensures.value in omega arith
