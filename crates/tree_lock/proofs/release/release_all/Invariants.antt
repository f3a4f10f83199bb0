use Rattle.std.proofs.Common.{◌≡◌}
use Rattle.row_table.specs.Passes.{view_of, kit_of, table_of}
use Rattle.tree_lock.proofs.Emptying.{Releasing}
use Rattle.tree_lock.proofs.release.release_all.Given as goal

abbrev pub invariant-loop-released : goal.invariant-loop-released
invariant-loop-released g l = record {
  table : table_of l.pass ≡ table_of l.fn.pass;
  same : kit_of l.pass ≡ kit_of l.fn.pass;
  room : l.held.room ≡ l.fn.held.room;
  now : Releasing g.P.Plan.meaning (view_of l.fn.pass) (view_of l.pass) l.fn.held.rows l.held.rows l.released;
}
