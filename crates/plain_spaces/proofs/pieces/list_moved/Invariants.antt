use Rattle.std.proofs.Common.{◌+◌, ◌-◌}
use Rattle.plain_spaces.proofs.Listed.{IsListed}
use Rattle.plain_spaces.proofs.pieces.list_moved.Given as goal

-- the pieces of the old pages before `next` are listed
abbrev pub invariant-loop-next : goal.invariant-loop-next
invariant-loop-next l = IsListed l.cells l.relocation l.pieces.items l.next

abbrev pub decreases-loop-next : goal.decreases-loop-next
decreases-loop-next l = l.relocation.first + l.relocation.old - l.next
