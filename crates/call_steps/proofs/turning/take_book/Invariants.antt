use Rattle.std.proofs.Common.{◌≡◌, ℕ, Option}
use Rattle.row_table.specs.Passes.{view_of, kit_of, table_of}
use Rattle.call_steps.proofs.Waited.{tried}
use Rattle.call_steps.proofs.turning.take_book.Given as goal

abbrev pub invariant-loop : goal.invariant-loop
invariant-loop g l = record {
  table : table_of l.pass ≡ table_of l.fn.pass;
  kit : kit_of l.pass ≡ kit_of l.fn.pass;
  since : (n : Option ℕ) × (view_of l.pass ≡ tried (view_of l.fn.pass) n);
}
