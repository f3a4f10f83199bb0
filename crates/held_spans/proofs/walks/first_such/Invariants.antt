use Rattle.std.proofs.Common.{◌-◌, ◌≤◌}
use Rattle.held_spans.proofs.Passed.{Passed}
use Rattle.held_spans.proofs.walks.first_such.Given as goal

abbrev pub invariant-loop-page : goal.invariant-loop-page
invariant-loop-page l = record { from : l.first ≤ l.page; to : l.page ≤ l.end; passed : Passed l.held.rows l.first l.count l.mapped l.page }

abbrev pub decreases-loop-page : goal.decreases-loop-page
decreases-loop-page l = l.end - l.page
