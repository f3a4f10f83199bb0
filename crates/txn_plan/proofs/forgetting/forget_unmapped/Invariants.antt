use Rattle.std.proofs.Common.{take}
use Rattle.txn_plan.specs.Forgetting.{Forgets}
use Rattle.txn_plan.proofs.forgetting.forget_unmapped.Given as goal

abbrev pub invariant-loop-op : goal.invariant-loop-op
invariant-loop-op l = Forgets (take l.op-index l.ops) l.space l.initial.fronts l.fronts
