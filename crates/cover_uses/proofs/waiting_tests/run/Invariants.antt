use Rattle.std.proofs.Common.{◌≡◌, []}
use Rattle.row_table.specs.Close.{IsIdle}
use Rattle.row_table.specs.Passes.{view_of, table_of}
use Rattle.cover_uses.proofs.waiting_tests.run.Given as goal

abbrev pub invariant-loop : goal.invariant-loop
invariant-loop g l = (table_of l.pass ≡ table_of l.fn.pass) × IsIdle (view_of l.pass) × (l.held.rows ≡ []) × (l.held.room ≡ l.fn.held.room)
