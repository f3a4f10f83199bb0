use Rattle.std.proofs.Common.{take_all, subst, refl, arith}
use Rattle.txn_plan.specs.Forgetting.{Forgets}
use Rattle.txn_plan.proofs.Unmapping.{nothing_forgotten, forgotten_more}
use Rattle.txn_plan.proofs.forgetting.forget_unmapped.Goals as goal

pub loop-op-init : goal.loop-op-init
loop-op-init c = nothing_forgotten _ c.args.space c.args.fronts.now (λ page. refl)

pub loop-op-preserved : goal.loop-op-preserved
loop-op-preserved c = forgotten_more c.args.ops.now c.loop-op.op-index _ c.args.space _ _ _ c.loop-op-test.true c.loop-op.invariant c.forget_by.ensures

pub returns : goal.returns
returns c = subst (λ os. Forgets os c.args.space c.args.fronts.now c.loop-op.fronts) (take_all c.loop-op.op-index c.args.ops.now (omega (arith, c.loop-op-test.false))) c.loop-op.invariant
