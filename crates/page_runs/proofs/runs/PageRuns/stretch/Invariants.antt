use Rattle.std.proofs.Common.{◌+◌, ◌-◌, ◌<◌, ◌≤◌}
use Rattle.page_runs.proofs.Stretch.{GoFrom}
use Rattle.page_runs.proofs.runs.PageRuns.stretch.Given as goal

abbrev pub invariant-loop-next : goal.invariant-loop-next
invariant-loop-next l = record { some : 0 < l.count; within : l.first + l.count ≤ l.end; go : GoFrom l.self l.first l.end l.run.mark l.count }

abbrev pub decreases-loop-next : goal.decreases-loop-next
decreases-loop-next l = l.end - (l.first + l.count)
