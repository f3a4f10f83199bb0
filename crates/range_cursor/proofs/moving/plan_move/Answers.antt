use Rattle.std.proofs.Common.{sym, subst}
use Rattle.corten_base.specs.declared.calls.Call.{Call}
use Rattle.range_cursor.specs.Plans.{PlansFor}
use Rattle.range_cursor.proofs.moving.plan_move.Goals as goal

pub returns-in-SwapOut-clause-plans : goal.returns-in-SwapOut-clause-plans
returns-in-SwapOut-clause-plans c moves = subst (λ (x : Call). PlansFor c.args.levels c.args.needed x c.args.held.now.rows c.args.kit.now c.plan_out.new.held.rows c.plan_out.new.kit) (sym c.in-SwapOut.is) c.plan_out.ensures.plans

pub returns-in-SwapIn-clause-plans : goal.returns-in-SwapIn-clause-plans
returns-in-SwapIn-clause-plans c moves = subst (λ (x : Call). PlansFor c.args.levels c.args.needed x c.args.held.now.rows c.args.kit.now c.plan_in.new.held.rows c.plan_in.new.kit) (sym c.in-SwapIn.is) c.plan_in.ensures.plans
