use Rattle.std.proofs.Common.{true, [], ◌∷◌}
use Rattle.row_table.specs.Passes.{view_of, IsPassOf}
use Rattle.reuse_uses.specs.Kept.{HasRoot}
use Rattle.reuse_uses.proofs.tests.once.Given as goal

abbrev pub invariant-loop : goal.invariant-loop
invariant-loop g l = IsPassOf l.fn.iron l.pass × HasRoot (view_of l.pass) 0 (1 ∷ []) [] [] true
