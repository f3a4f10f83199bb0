use Rattle.std.proofs.Common.{sym, arith}
use Rattle.plain_counts.proofs.Least.{least_none}
use Rattle.txn_plan.proofs.Leasts.{passes, none_more, first_found}
use Rattle.txn_plan.proofs.pieces.least_after.Goals as goal

pub loop-next-preserved : goal.loop-next-preserved
loop-next-preserved c = record {
  low = omega (arith, c.loop-next.invariant.low, c.next_edge-edge.ensures.behind);
  high = c.next_edge-edge.ensures.before;
  none = none_more c.args.ops.now c.args.cells.now c.args.present c.args.first c.loop-next.next c.next_edge-edge.result c.loop-next.invariant.none c.in_default.ensures;
}

pub returns-in-Some : goal.returns-in-Some
returns-in-Some c =
    first_found c.args.ops.now c.args.cells.now c.args.present c.args.first c.loop-next.next c.next_edge-edge.result c.args.end c.in-Some.page c.loop-next.invariant.low c.next_edge-edge.ensures.before
    c.loop-next.invariant.none c.in-Some.ensures

pub returns : goal.returns
returns c =
    sym (least_none (passes c.args.ops.now c.args.cells.now c.args.present) c.args.first _ (λ k low high. c.loop-next.invariant.none k low (omega (arith, low, high, c.loop-next-test.false, c.loop-next.invariant.high))))
