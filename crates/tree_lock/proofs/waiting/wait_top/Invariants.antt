use Rattle.std.proofs.Common.{◌≡◌, ◌≤◌}
use Rattle.row_table.specs.Passes.{view_of, kit_of, table_of}
use Rattle.tree_lock.specs.Waits.{IsStill}
use Rattle.tree_lock.proofs.waiting.wait_top.Given as goal

abbrev pub invariant-loop : goal.invariant-loop
invariant-loop g l = record {
  table : table_of l.pass ≡ table_of l.fn.pass;
  kit : kit_of l.pass ≡ kit_of l.fn.pass;
  still : IsStill (view_of l.fn.pass) (view_of l.pass);
  rises : (view_of l.fn.pass).epoch ≤ (view_of l.pass).epoch;
}
