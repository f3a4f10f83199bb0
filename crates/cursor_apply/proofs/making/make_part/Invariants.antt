use Rattle.std.proofs.Common.{◌≡◌}
use Rattle.row_table.specs.Passes.{view_of, kit_of, table_of}
use Rattle.cursor_apply.specs.Changing.{Passing}
use Rattle.cursor_apply.proofs.making.make_part.Given as goal

abbrev pub invariant-loop-index : goal.invariant-loop-index
invariant-loop-index g l = record {
  table : table_of l.pass ≡ table_of l.fn.pass;
  same : kit_of l.pass ≡ kit_of l.fn.pass;
  passing : Passing l.change.making l.change.first l.place l.row l.fn.part.from l.index (view_of l.fn.pass) l.fn.cells (view_of l.pass) l.cells;
}
