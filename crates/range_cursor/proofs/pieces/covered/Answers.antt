use Rattle.std.proofs.Common.{sym, ◌∙◌}
use Rattle.std.specs.Option.{option_or}
use Rattle.txn_plan.proofs.Covering.{one_more}
use Rattle.range_cursor.proofs.pieces.covered.Goals as goal

pub loop-op-preserved : goal.loop-op-preserved
loop-op-preserved c =
    c.or-last.ensures ∙ (λ i. option_or (c.covered_by.ensures i) (c.loop-op.invariant i)) ∙ sym (one_more c.args.ops.now c.loop-op.op-index _ c.loop-op-test.true c.args.page)
