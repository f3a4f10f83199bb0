use Rattle.std.proofs.Common.{◌≡◌, ◌-◌}
use Rattle.row_table.specs.Passes.{view_of, kit_of, table_of}
use Rattle.cursor_detach.specs.Detaching.{Cutting}
use Rattle.cursor_detach.proofs.detaching.detach.Given as goal

-- the rows that are still to come are in front
abbrev pub invariant-loop-passed : goal.invariant-loop-passed
invariant-loop-passed g l = record {
  table : table_of l.pass ≡ table_of l.fn.pass;
  same : kit_of l.pass ≡ kit_of l.fn.pass;
  room : l.held.room ≡ l.fn.held.room;
  now : Cutting l.levels (l.count - l.passed) (view_of l.fn.pass) l.fn.held.rows l.fn.kit (view_of l.pass) l.held.rows l.kit;
}
