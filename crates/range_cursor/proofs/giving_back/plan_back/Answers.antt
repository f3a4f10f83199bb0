use Rattle.std.proofs.Common.{sym, subst}
use Rattle.corten_base.specs.declared.calls.Call.{Call}
use Rattle.range_cursor.specs.Plans.{PlansFor}
use Rattle.range_cursor.proofs.giving_back.plan_back.Goals as goal

pub returns-in-DontNeed-clause-plans : goal.returns-in-DontNeed-clause-plans
returns-in-DontNeed-clause-plans c here = subst (λ (x : Call). PlansFor c.args.levels c.args.needed x c.args.held.now.rows c.args.kit.now c.plan_dontneed.new.held.rows c.plan_dontneed.new.kit) (sym c.in-DontNeed.is) c.plan_dontneed.ensures.plans
