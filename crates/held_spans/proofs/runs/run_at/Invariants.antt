use Rattle.std.proofs.Common.{◌-◌, ◌+◌, ◌≤◌}
use Rattle.held_spans.proofs.Ongoing.{Grown}
use Rattle.held_spans.proofs.runs.run_at.Given as goal

abbrev pub invariant-loop-run : goal.invariant-loop-run
invariant-loop-run l = record { some : 1 ≤ l.run.count; fits : l.page + l.run.count ≤ l.end; grown : Grown l.held.rows l.page l.end l.run }

abbrev pub decreases-loop-run : goal.decreases-loop-run
decreases-loop-run l = l.end - l.page - l.run.count
