use Rattle.std.proofs.Common.{sym, ◌∙◌, subst}
use mathlib.Core.Bool.{true≢false}
use Rattle.page_runs.specs.Spans.{marks}
use Rattle.page_runs.proofs.Backward.{GoUpTo, one_back, other_back}
use Rattle.page_runs.proofs.starts.start.Goals as goal

pub returns-then-not-continues : goal.returns-then-not-continues
returns-then-not-continues c =
    other_back (marks c.args.spans.now) c.args.low c.args.page c.loop-start.start c.loop-start.mark c.loop-start.invariant c.loop-start-test.true c.in-Some-run_with.run' c.in-Some-run_with.ensures.some
    (λ same. true≢false (sym (c.continues.ensures.1 same) ∙ c.if-not-continues.true))

pub loop-start-preserved : goal.loop-start-preserved
loop-start-preserved c =
    subst (GoUpTo (marks c.args.spans.now) c.args.low c.args.page c.max-start.result) (sym c.after-mark.ensures)
    (one_back (marks c.args.spans.now) c.args.low c.args.page c.loop-start.start c.loop-start.mark c.loop-start.invariant c.loop-start-test.true c.in-Some-run_with.run' c.in-Some-run_with.ensures.some
    c.max-start.result c.max-start.ensures (c.continues.ensures.0 c.if-not-continues.false))
