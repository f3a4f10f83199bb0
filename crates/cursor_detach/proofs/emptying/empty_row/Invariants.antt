use Rattle.std.proofs.Common.{◌≡◌}
use Rattle.row_table.specs.Passes.{view_of, kit_of, table_of}
use Rattle.cursor_detach.specs.Cutting.{Emptying}
use Rattle.cursor_detach.proofs.emptying.empty_row.Given as goal

abbrev pub invariant-loop-index : goal.invariant-loop-index
invariant-loop-index g l = record {
  table : table_of l.pass ≡ table_of l.fn.pass;
  same : kit_of l.pass ≡ kit_of l.fn.pass;
  so_far : Emptying l.row l.index (view_of l.fn.pass) l.cells (view_of l.pass);
}
