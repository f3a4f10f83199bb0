use Rattle.std.proofs.Common.{ℕ, ◌≤◌, ◌<◌, length, get_or}
use Rattle.tree_lock.specs.Order.{IsBefore}
use Rattle.tree_lock.specs.declared.held.HeldRow.{HeldRow}
use Rattle.tree_lock.proofs.held.rank.Given as goal

-- the rows from here on have positions behind this one
abbrev pub invariant-loop-at : goal.invariant-loop-at
invariant-loop-at g l = record {
  within : l.at ≤ length l.rows;
  after : (k : ℕ) (d : HeldRow g.row.R.Denot) → l.at ≤ k → k < length l.rows → IsBefore l.place (get_or l.rows k d).place;
}

abbrev pub decreases-loop-at : goal.decreases-loop-at
decreases-loop-at g l = l.at
