use Rattle.std.proofs.Common.{◌+◌, ◌-◌, ◌≤◌}
use Rattle.page_runs.specs.Spans.{Changes}
use Rattle.page_runs.specs.Changes.{painted}
use Rattle.page_runs.proofs.painting.paint.Given as goal

-- what starts before `next` has changed
abbrev pub invariant-loop-at : goal.invariant-loop-at
invariant-loop-at l = record { low : l.change.first ≤ l.next; high : l.next ≤ l.change.first + l.change.count; changes : Changes (painted l.change) l.change.first l.next l.initial.spans l.spans }

abbrev pub decreases-loop-at : goal.decreases-loop-at
decreases-loop-at l = l.end - l.next
