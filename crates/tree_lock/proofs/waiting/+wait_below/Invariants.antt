use Rattle.std.proofs.Common.{◌≡◌}
use Rattle.row_table.specs.Passes.{view_of, kit_of, table_of}
use Rattle.tree_lock.proofs.Going.{Walked}
use Rattle.tree_lock.proofs.waiting.+wait_below.Given as goal

abbrev pub decreases-wait_below : goal.decreases-wait_below
decreases-wait_below g l = l.at.place.level

abbrev pub invariant-loop-index : goal.invariant-loop-index
invariant-loop-index g l = record {
  table : table_of l.pass ≡ table_of l.fn.pass;
  kit : kit_of l.pass ≡ kit_of l.fn.pass;
  room : l.held.room ≡ l.fn.held.room;
  walked : Walked l.levels l.zone l.at (view_of l.fn.pass) l.fn.held.rows (view_of l.pass) l.held.rows l.index;
}
