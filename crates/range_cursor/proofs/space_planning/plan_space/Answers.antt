use Rattle.std.proofs.Common.{sym, subst}
use Rattle.corten_base.specs.declared.calls.Call.{Call}
use Rattle.range_cursor.specs.Plans.{PlansFor}
use Rattle.range_cursor.proofs.space_planning.plan_space.Goals as goal

pub returns-in-Spawn-clause-plans : goal.returns-in-Spawn-clause-plans
returns-in-Spawn-clause-plans c here = subst (λ (x : Call). PlansFor c.args.levels c.args.needed x c.args.held.now.rows c.args.kit.now c.args.held.now.rows c.plan_spawn.new.kit) (sym c.in-Spawn.is) c.plan_spawn.ensures.plans

pub returns-in-Fork-clause-plans : goal.returns-in-Fork-clause-plans
returns-in-Fork-clause-plans c here = subst (λ (x : Call). PlansFor c.args.levels c.args.needed x c.args.held.now.rows c.args.kit.now c.plan_fork.new.held.rows c.plan_fork.new.kit) (sym c.in-Fork.is) c.plan_fork.ensures.plans

pub returns-in-Exit-clause-plans : goal.returns-in-Exit-clause-plans
returns-in-Exit-clause-plans c here = subst (λ (x : Call). PlansFor c.args.levels c.args.needed x c.args.held.now.rows c.args.kit.now c.plan_exit.new.held.rows c.plan_exit.new.kit) (sym c.in-Exit.is) c.plan_exit.ensures.plans
