use Rattle.std.proofs.Common.{sym, subst}
use Rattle.corten_base.specs.declared.calls.Call.{Call}
use Rattle.range_cursor.specs.Plans.{PlansFor}
use Rattle.range_cursor.proofs.operating.plan_ops.Goals as goal

pub returns-in-Unmap-clause-plans : goal.returns-in-Unmap-clause-plans
returns-in-Unmap-clause-plans c here = subst (λ (x : Call). PlansFor c.args.levels c.args.needed x c.args.held.now.rows c.args.kit.now c.plan_unmap.new.held.rows c.plan_unmap.new.kit) (sym c.in-Unmap.is) c.plan_unmap.ensures.plans

pub returns-in-Protect-clause-plans : goal.returns-in-Protect-clause-plans
returns-in-Protect-clause-plans c here = subst (λ (x : Call). PlansFor c.args.levels c.args.needed x c.args.held.now.rows c.args.kit.now c.plan_protect.new.held.rows c.plan_protect.new.kit) (sym c.in-Protect.is) c.plan_protect.ensures.plans
