use Rattle.std.proofs.Common.{◌≡◌, ◌-◌, ◌≤◌, ◌++◌}
use Rattle.space_cells.specs.Held.{numbers_held}
use Rattle.space_cells.proofs.held.numbers.Given as goal

-- the numbers so far, and those from `next` on
abbrev pub invariant-loop-page : goal.invariant-loop-page
invariant-loop-page l = record { high : l.next ≤ l.end; numbers : l.numbers.items ++ numbers_held l.pages l.next (l.end - l.next) ≡ numbers_held l.pages l.first (l.end - l.first) }

abbrev pub decreases-loop-page : goal.decreases-loop-page
decreases-loop-page l = l.end - l.next
