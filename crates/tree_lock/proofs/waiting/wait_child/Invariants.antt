use Rattle.std.proofs.Common.{◌≡◌, List}
use Rattle.row_table.specs.declared.view.Finding.{Finding}
use Rattle.row_table.specs.Passes.{view_of, kit_of, table_of}
use Rattle.tree_lock.specs.Waits.{has_found}
use Rattle.tree_lock.proofs.waiting.wait_child.Given as goal

abbrev pub invariant-loop : goal.invariant-loop
invariant-loop g l = record {
  table : table_of l.pass ≡ table_of l.fn.pass;
  kit : kit_of l.pass ≡ kit_of l.fn.pass;
  rows : l.held.rows ≡ l.fn.held.rows;
  room : l.held.room ≡ l.fn.held.room;
  found : (more : List Finding) × (view_of l.pass ≡ has_found (view_of l.fn.pass) more);
}
