use Rattle.std.specs.Prelude.{ℕ, List}
use Rattle.std.proofs.Common.{sym, subst}
use Rattle.corten_base.specs.declared.calls.Call.{Call}
use Rattle.range_cursor.specs.Plans.{PlansBy}
use Rattle.range_cursor.proofs.remapping.plan_remap.Goals as goal

pub returns-in-Remap-clause-plans : goal.returns-in-Remap-clause-plans
returns-in-Remap-clause-plans c here =
    subst (λ (x : Call). (files : List (List ℕ)) → PlansBy c.args.thread files c.args.levels c.args.needed x c.args.held.now.rows c.args.kit.now c.plan_resize.new.held.rows c.plan_resize.new.kit)
    (sym c.in-Remap.is) c.plan_resize.ensures.plans
