use Rattle.std.proofs.Common.{◌≡◌, ℕ, ◌<◌, ◌≤◌, length}
use Rattle.std.specs.Prelude.{slice_index_or}
use Rattle.machine_plan.specs.HeldRows.{Row}
use Rattle.cursor_apply.proofs.linking.row_at.Given as goal

-- none of the rows that were seen is at the position
abbrev pub invariant-loop-at : goal.invariant-loop-at
invariant-loop-at l = record {
  within : l.at ≤ length l.rows;
  none : (k : ℕ) (d : Row) → l.at ≤ k → k < length l.rows → ¬ ((slice_index_or l.rows k d).place ≡ l.place);
}

abbrev pub decreases-loop-at : goal.decreases-loop-at
decreases-loop-at l = l.at
