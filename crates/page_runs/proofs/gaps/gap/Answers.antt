use Rattle.std.proofs.Common.{◌+◌, ◌≤◌, ◌<◌, Some, sym, arith}
use Rattle.page_runs.specs.Spans.{marks}
use Rattle.page_runs.proofs.Behind.{ended_behind, none_from, taken_behind, taken_up}
use Rattle.page_runs.proofs.Least.{is_gap, is_no_gap}
use Rattle.page_runs.proofs.gaps.gap.Goals as goal

pub returns-then-saturating_sub-count : goal.returns-then-saturating_sub-count
returns-then-saturating_sub-count c =
    let at = c.in-Some.ensures.some in
    let room : c.loop-run.start + c.args.count ≤ c.in-Some.run'.first = omega (arith, c.if-saturating_sub-count.true, c.saturating_sub.ensures, c.requires.some) in
    sym (is_gap (marks c.args.spans.now) c.args.first c.args.end c.args.count c.loop-run.start c.loop-run.invariant.low (omega (arith, room, at.before)) c.loop-run.invariant.taken
    (λ page low high. none_from c.args.spans.now c.requires.runs c.loop-run.start c.loop-run.next c.in-Some.run'.first c.loop-run.invariant.ended at.none page low (omega (arith, high, room))))

pub overflow_add-next : goal.overflow_add-next
overflow_add-next c = omega (arith, (c.requires.runs.whole c.in-Some.run'.first _ c.in-Some.ensures.some.there).pages)

pub returns-then-next-end : goal.returns-then-next-end
returns-then-next-end c =
    let at = c.in-Some.ensures.some in
    let near : c.in-Some.run'.first < c.loop-run.start + c.args.count = omega (arith, c.if-saturating_sub-count.false, c.saturating_sub.ensures, c.requires.some) in
    sym (is_no_gap (marks c.args.spans.now) c.args.first c.args.end c.args.count (c.in-Some.run'.first + c.in-Some.run'.count) (omega (arith, c.if-next-end.true, c.requires.some))
    (taken_behind c.args.spans.now c.requires.runs c.loop-run.next c.args.end c.in-Some.run' at c.args.first c.loop-run.start c.args.count c.loop-run.invariant.taken near c.requires.some))

pub loop-run-smaller : goal.loop-run-smaller
loop-run-smaller c =
    let at = c.in-Some.ensures.some in
    omega (arith, at.from, at.before, (c.requires.runs.whole c.in-Some.run'.first _ at.there).some)

pub loop-run-preserved : goal.loop-run-preserved
loop-run-preserved c =
    let at = c.in-Some.ensures.some in
    let near : c.in-Some.run'.first < c.loop-run.start + c.args.count = omega (arith, c.if-saturating_sub-count.false, c.saturating_sub.ensures, c.requires.some) in
    let later : c.in-Some.run'.first + c.in-Some.run'.count ≤ c.max-start.result = omega (arith, c.max-start.ensures) in
    record {
      low = omega (arith, c.max-start.ensures, c.loop-run.invariant.low);
      high = omega (arith, c.max-start.ensures, c.loop-run.invariant.high, c.if-next-end.false);
      next = later;
      ended = ended_behind c.args.spans.now c.requires.runs c.max-start.result c.in-Some.run'.first c.in-Some.run'.count (Some c.in-Some.run'.mark) at.there later;
      taken = taken_up c.args.spans.now c.requires.runs c.loop-run.next c.args.end c.in-Some.run' at c.args.first c.loop-run.start c.args.count c.loop-run.invariant.taken near c.requires.some c.max-start.result (omega (arith, c.max-start.ensures));
    }

pub returns-then-end-start : goal.returns-then-end-start
returns-then-end-start c =
    let room : c.loop-run.start + c.args.count ≤ c.args.end = omega (arith, c.if-end-start.true, c.loop-run.invariant.high) in
    sym (is_gap (marks c.args.spans.now) c.args.first c.args.end c.args.count c.loop-run.start c.loop-run.invariant.low room c.loop-run.invariant.taken
    (λ page low high. none_from c.args.spans.now c.requires.runs c.loop-run.start c.loop-run.next c.args.end c.loop-run.invariant.ended c.in_default.ensures.none page low (omega (arith, high, room))))

pub returns-else-end-start : goal.returns-else-end-start
returns-else-end-start c =
    sym (is_no_gap (marks c.args.spans.now) c.args.first c.args.end c.args.count c.loop-run.start (omega (arith, c.if-end-start.false, c.loop-run.invariant.high)) c.loop-run.invariant.taken)
