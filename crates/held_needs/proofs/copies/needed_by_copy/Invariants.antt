use Rattle.std.proofs.Common.{◌≤◌, length, drop}
use Rattle.held_needs.proofs.Copied.{Noted}
use Rattle.held_needs.proofs.copies.needed_by_copy.Given as goal

-- what is noted of the rows from here on
abbrev pub invariant-loop-at : goal.invariant-loop-at
invariant-loop-at l = record {
  within : l.at ≤ length l.rows;
  noted : Noted (drop l.at l.rows) l.next l.used;
}

abbrev pub decreases-loop-at : goal.decreases-loop-at
decreases-loop-at l = l.at
