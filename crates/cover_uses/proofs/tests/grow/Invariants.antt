use Rattle.std.proofs.Common.{◌≡◌, []}
use Rattle.row_table.specs.Close.{IsIdle}
use Rattle.row_table.specs.Passes.{view_of, IsPassOf}
use Rattle.cover_uses.proofs.tests.grow.Given as goal

abbrev pub invariant-loop : goal.invariant-loop
invariant-loop l = IsPassOf l.iron l.pass × IsIdle (view_of l.pass) × (l.held.rows ≡ []) × (l.held.room ≡ l.fn.held.room)
