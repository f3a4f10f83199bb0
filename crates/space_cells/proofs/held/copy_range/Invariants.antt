use Rattle.std.proofs.Common.{◌+◌, ◌-◌}
use Rattle.space_cells.proofs.Copying.{Copies}
use Rattle.space_cells.proofs.held.copy_range.Given as goal

-- the held pages before `next` have copies
abbrev pub invariant-loop-page : goal.invariant-loop-page
invariant-loop-page l = Copies l.first l.count l.to l.next l.initial.pages l.pages

abbrev pub decreases-loop-page : goal.decreases-loop-page
decreases-loop-page l = l.first + l.count - l.next
