use Rattle.std.proofs.Common.{◌-◌, ◌≤◌}
use Rattle.page_runs.specs.Spans.{HaveNone}
use Rattle.page_runs.proofs.spans.first_marked.Given as goal

-- no run with marks starts before `next`
abbrev pub invariant-loop-at : goal.invariant-loop-at
invariant-loop-at l = record { low : l.first ≤ l.next; high : l.next ≤ l.end; none : HaveNone l.spans l.first l.next }

abbrev pub decreases-loop-at : goal.decreases-loop-at
decreases-loop-at l = l.end - l.next
