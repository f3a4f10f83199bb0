use Rattle.std.proofs.Common.{◌-◌, ◌≤◌}
use Rattle.held_spans.proofs.Piling.{Listed}
use Rattle.held_spans.proofs.pieces.list_moved.Given as goal

abbrev pub invariant-loop-page : goal.invariant-loop-page
invariant-loop-page l = record { from : l.range.first ≤ l.page; to : l.page ≤ l.end; listed : Listed l.held.rows l.range l.page l.pieces.items }

abbrev pub decreases-loop-page : goal.decreases-loop-page
decreases-loop-page l = l.end - l.page
