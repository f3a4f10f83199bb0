use Rattle.row_table.specs.Passes.{view_of, IsPassOf}
use Rattle.row_table.specs.Close.{IsIdle}
use Rattle.reuse_uses.proofs.tests.descend_often.Given as goal

abbrev pub invariant-loop : goal.invariant-loop
invariant-loop l = IsPassOf l.fn.iron l.pass × IsIdle (view_of l.pass)
