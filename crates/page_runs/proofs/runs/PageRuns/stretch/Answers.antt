use Rattle.std.proofs.Common.{sym, arith, ◌∙◌}
use mathlib.Core.Bool.{true≢false}
use Rattle.page_runs.proofs.Stretch.{one_more, stops_before, stops_at}
use Rattle.page_runs.proofs.runs.PageRuns.stretch.Goals as goal
use Rattle.page_runs.proofs.runs.PageRuns.stretch.Goals.{then-first-count-via-then-first-count, then-first-count-via-else-first-count+then-not-continues}

pub returns-then-first-count : goal.returns-then-first-count
returns-then-first-count c =
    let so_far = c.loop-next.invariant in
    elim c.then-first-count.branch [
      | then-first-count-via-then-first-count w ↦
          stops_before c.args.self.now c.args.first c.args.end c.in-Some.run'.mark c.loop-next.count c.in-Some-part.next so_far.some so_far.within so_far.go c.in-Some-part.ensures.some w.if-first-count.true
      | then-first-count-via-else-first-count+then-not-continues w ↦
          stops_at c.args.self.now c.args.first c.args.end c.in-Some.run'.mark c.loop-next.count c.in-Some-part.next so_far.some so_far.within so_far.go c.in-Some-part.ensures.some w.if-first-count.false
          (λ same. true≢false (sym (w.continues.ensures.1 same) ∙ w.if-not-continues.true))
    ]

pub loop-next-preserved : goal.loop-next-preserved
loop-next-preserved c =
    let so_far = c.loop-next.invariant in
    let part = c.in-Some-part.ensures.some in
    record {
      some = omega (arith, so_far.some);
      within = omega (arith, part.within, c.if-first-count.false);
      go = one_more c.args.self.now c.args.first c.args.end c.in-Some.run'.mark c.loop-next.count c.in-Some-part.next so_far.go part c.if-first-count.false (c.continues.ensures.0 c.if-not-continues.false);
    }
