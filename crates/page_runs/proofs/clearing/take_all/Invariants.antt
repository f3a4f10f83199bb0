use Rattle.std.proofs.Common.{◌-◌, ◌≤◌}
use Rattle.page_runs.specs.Spans.{Changes}
use Rattle.page_runs.specs.Changes.{no_run}
use Rattle.page_runs.proofs.clearing.take_all.Given as goal

-- none starts in the range before `next`
abbrev pub invariant-loop-at : goal.invariant-loop-at
invariant-loop-at l = record { low : l.first ≤ l.next; high : l.next ≤ l.end; changes : Changes no_run l.first l.next l.initial.spans l.spans }

abbrev pub decreases-loop-at : goal.decreases-loop-at
decreases-loop-at l = l.end - l.next
