use Rattle.std.specs.Prelude.{◌-◌}
use Rattle.std.proofs.Common.{sym, arith}
use Rattle.page_map.specs.State.{space_at}
use Rattle.plain_counts.proofs.Least.{least_none}
use Rattle.txn_plan.proofs.Leasts.{passes, none_more, first_found}
use Rattle.range_cursor.proofs.Undone.{asked_part}
use Rattle.range_cursor.proofs.pieces.least_after.Goals as goal

pub loop-next-preserved : goal.loop-next-preserved
loop-next-preserved c = record {
  low = omega (arith, c.loop-next.invariant.low, c.next_edge-edge.ensures.behind);
  high = c.next_edge-edge.ensures.before;
  none = λ space st asked shown.
      none_more c.args.ops.now (space_at st space) c.args.present c.args.first c.loop-next.next c.next_edge-edge.result (c.loop-next.invariant.none space st asked shown)
      (c.in_default.ensures space st
      (asked_part space c.args.held.now.rows c.args.first (c.args.end - c.args.first) c.loop-next.next (c.next_edge-edge.result - c.loop-next.next) c.loop-next.invariant.low (omega (arith, c.loop-next.invariant.low, c.next_edge-edge.ensures.behind, c.next_edge-edge.ensures.before)) asked) shown);
}

pub returns-in-Some : goal.returns-in-Some
returns-in-Some c space st asked shown =
    first_found c.args.ops.now (space_at st space) c.args.present c.args.first c.loop-next.next c.next_edge-edge.result c.args.end c.in-Some.page c.loop-next.invariant.low c.next_edge-edge.ensures.before
    (c.loop-next.invariant.none space st asked shown)
    (c.in-Some.ensures space st
    (asked_part space c.args.held.now.rows c.args.first (c.args.end - c.args.first) c.loop-next.next (c.next_edge-edge.result - c.loop-next.next) c.loop-next.invariant.low (omega (arith, c.loop-next.invariant.low, c.next_edge-edge.ensures.behind, c.next_edge-edge.ensures.before)) asked) shown)

pub returns : goal.returns
returns c space st asked shown =
    sym (least_none (passes c.args.ops.now (space_at st space) c.args.present) c.args.first _ (λ k low high. c.loop-next.invariant.none space st asked shown k low (omega (arith, low, high, c.loop-next-test.false, c.loop-next.invariant.high))))
