use Rattle.std.proofs.Common.{arith}
use Rattle.txn_plan.proofs.Covering.{same_more}
use Rattle.range_cursor.proofs.pieces.next_edge.Goals as goal

pub loop-op-preserved : goal.loop-op-preserved
loop-op-preserved c = record {
  behind = c.nearer-edge.ensures.behind;
  before = omega (arith, c.nearer-edge.ensures.before, c.loop-op.invariant.before);
  same = λ q low high. same_more c.args.ops.now c.loop-op.op-index _ c.loop-op-test.true c.args.page q _ _ c.first_page.ensures.page c.page_count.ensures.count (c.nearer-edge.ensures.same q low high)
      (c.loop-op.invariant.same q low (omega (arith, high, c.nearer-edge.ensures.before)));
}
