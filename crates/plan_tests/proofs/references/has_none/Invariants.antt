use Rattle.plan_tests.proofs.None.{NoneBelow}
use Rattle.plan_tests.proofs.references.has_none.Given as goal

-- the cells before this one have none
abbrev pub invariant-loop-index : goal.invariant-loop-index
invariant-loop-index l = NoneBelow l.index l.cells
