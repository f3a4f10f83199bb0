use Rattle.std.proofs.Common.{◌≡◌, ◌-◌, ◌≤◌}
use Rattle.page_runs.specs.Spans.{AreRuns, marks}
use Rattle.page_runs.proofs.edges.tidy.Given as goal

abbrev pub invariant-loop-at : goal.invariant-loop-at
invariant-loop-at l = record { high : l.next ≤ l.end; runs : AreRuns l.spans; same : marks l.spans ≡ marks l.initial.spans }

abbrev pub decreases-loop-at : goal.decreases-loop-at
decreases-loop-at l = l.end - l.next
