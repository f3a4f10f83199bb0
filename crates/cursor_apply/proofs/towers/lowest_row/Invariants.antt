use Rattle.std.proofs.Common.{◌≡◌, ℕ, ◌<◌, ◌≤◌, length}
use Rattle.std.specs.Prelude.{false, slice_index_or}
use Rattle.table_place.specs.Place.{has_page}
use Rattle.machine_plan.specs.HeldRows.{Row}
use Rattle.cursor_apply.proofs.towers.lowest_row.Given as goal

-- none of the rows that were seen has the page
abbrev pub invariant-loop-at : goal.invariant-loop-at
invariant-loop-at l = record {
  within : l.at ≤ length l.rows;
  none : (k : ℕ) (d : Row) → l.at ≤ k → k < length l.rows → has_page (slice_index_or l.rows k d).place l.space l.page ≡ false;
}

abbrev pub decreases-loop-at : goal.decreases-loop-at
decreases-loop-at l = l.at
