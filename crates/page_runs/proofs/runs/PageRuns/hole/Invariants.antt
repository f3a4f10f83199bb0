use Rattle.std.proofs.Common.{◌-◌, ◌≤◌}
use Rattle.page_runs.proofs.Least.{IsFullUpTo}
use Rattle.page_runs.proofs.runs.PageRuns.hole.Given as goal

-- the pages before `next` have marks
abbrev pub invariant-loop-run : goal.invariant-loop-run
invariant-loop-run l = record { low : l.first ≤ l.next; high : l.next ≤ l.end; full : IsFullUpTo l.self l.first l.end l.next }

abbrev pub decreases-loop-run : goal.decreases-loop-run
decreases-loop-run l = l.end - l.next
