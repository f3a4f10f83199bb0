use Rattle.std.proofs.Common.{sym, subst}
use Rattle.corten_base.specs.declared.calls.Call.{Call}
use Rattle.range_cursor.specs.Plans.{PlansBy}
use Rattle.range_cursor.proofs.mapping.plan_map.Goals as goal

pub returns-clause-plans : goal.returns-clause-plans
returns-clause-plans c here =
    subst (λ (x : Call). PlansBy c.args.thread c.args.shelf.now c.args.levels c.args.needed x c.args.held.now.rows c.args.kit.now c.plan_mapping.new.held.rows c.plan_mapping.new.kit)
    (sym c.in-Map.is) c.plan_mapping.ensures.plans
