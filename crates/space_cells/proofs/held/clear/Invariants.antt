use Rattle.std.proofs.Common.{◌-◌, ◌≤◌}
use Rattle.space_cells.specs.Held.{Clears}
use Rattle.space_cells.proofs.held.clear.Given as goal

-- no page before `next` is held
abbrev pub invariant-loop-page : goal.invariant-loop-page
invariant-loop-page l = record { low : l.first ≤ l.next; high : l.next ≤ l.end; clears : Clears l.first l.next l.initial.pages l.pages }

abbrev pub decreases-loop-page : goal.decreases-loop-page
decreases-loop-page l = l.end - l.next
