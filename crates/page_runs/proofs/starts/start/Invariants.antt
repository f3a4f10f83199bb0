use Rattle.page_runs.specs.Spans.{marks}
use Rattle.page_runs.proofs.Backward.{GoUpTo}
use Rattle.page_runs.proofs.starts.start.Given as goal

abbrev pub invariant-loop-start : goal.invariant-loop-start
invariant-loop-start l = GoUpTo (marks l.spans) l.low l.page l.start l.mark

abbrev pub decreases-loop-start : goal.decreases-loop-start
decreases-loop-start l = l.start
