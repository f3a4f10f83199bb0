use Rattle.std.proofs.Common.{sym, arith}
use mathlib.Core.Logic.{inl, inr}
use Rattle.std.proofs.lemmas.Bool.{cases_lt}
use Rattle.page_runs.proofs.Least.{is_hole, is_no_hole, is_no_hole_at_all}
use Rattle.page_runs.proofs.runs.PageRuns.hole.Goals as goal

pub returns-then-next-run : goal.returns-then-next-run
returns-then-next-run c =
    let part = c.in-Some.ensures.some in
    sym (is_hole c.args.self.now c.args.first c.args.end c.loop-run.next c.loop-run.invariant.low (omega (arith, c.if-next-run.true, part.some, part.within)) c.loop-run.invariant.full
    (part.none_before c.loop-run.next (omega arith) c.if-next-run.true))

pub loop-run-preserved : goal.loop-run-preserved
loop-run-preserved c =
    let part = c.in-Some.ensures.some in
    record {
      low = omega (arith, part.from, c.loop-run.invariant.low);
      high = part.within;
      full = λ page low high. elim (cases_lt page c.loop-run.next) [
        | inl before ↦ c.loop-run.invariant.full page low before
        | inr after ↦ is_no_hole c.args.self.now c.loop-run.next c.args.end c.in-Some.run' part page (omega (arith, after, c.if-next-run.false)) high
      ];
    }

pub returns-then-next-end : goal.returns-then-next-end
returns-then-next-end c =
    sym (is_hole c.args.self.now c.args.first c.args.end c.loop-run.next c.loop-run.invariant.low c.if-next-end.true c.loop-run.invariant.full
    (c.in_default.ensures.none c.loop-run.next (omega arith) c.if-next-end.true))

pub returns-else-next-end : goal.returns-else-next-end
returns-else-next-end c =
    sym (is_no_hole_at_all c.args.self.now c.args.first c.args.end c.requires (λ page low high. c.loop-run.invariant.full page low (omega (arith, high, c.if-next-end.false))))
