use Rattle.std.proofs.Common.{◌-◌, ◌≤◌}
use Rattle.page_runs.specs.Spans.{marks, EndBy}
use Rattle.page_runs.proofs.Least.{AreTaken}
use Rattle.page_runs.proofs.gaps.gap.Given as goal

-- no page before `start` will do, and the runs before `next` end before it
abbrev pub invariant-loop-run : goal.invariant-loop-run
invariant-loop-run l = record {
  low : l.first ≤ l.start;
  high : l.start ≤ l.end;
  next : l.next ≤ l.start;
  ended : EndBy l.start l.next l.spans;
  taken : AreTaken (marks l.spans) l.first l.end l.count l.start;
}

abbrev pub decreases-loop-run : goal.decreases-loop-run
decreases-loop-run l = l.end - l.next
