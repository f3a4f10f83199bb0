use Rattle.std.proofs.Common.{sym, subst, ap, ◌∙◌}
use Rattle.corten_base.specs.declared.calls.Call.{Call}
use Rattle.corten_base.specs.declared.calls.Call.TheVariants as call
use Rattle.range_cursor.specs.Plans.{PlansOn}
use Rattle.range_cursor.proofs.transaction.plan_txn.Goals as goal

pub returns-in-Txn-clause-plans : goal.returns-in-Txn-clause-plans
returns-in-Txn-clause-plans c here =
    subst (λ (x : Call). PlansOn c.args.shelf.now c.args.levels c.args.needed x c.args.held.now.rows c.args.kit.now c.plan_within.new.held.rows c.plan_within.new.kit) (ap (call.Txn c.in-Txn.space c.in-Txn.at c.in-Txn.len) c.ops.ensures.value ∙ sym c.in-Txn.is) c.plan_within.ensures.plans
