use Rattle.std.specs.Prelude.{ℕ, ◌<◌, slice_index_or}
use Rattle.machine_plan.specs.HeldRows.{Row}
use Rattle.cursor_apply.specs.Putting.{IsLeafOf}
use Rattle.cursor_apply.proofs.putting.leaf_row.Given as goal

-- none of the rows that were seen has the page
abbrev pub invariant-loop-at : goal.invariant-loop-at
invariant-loop-at l = (k : ℕ) (d : Row) → k < l.at → ¬ IsLeafOf (slice_index_or l.held.rows k d) l.page
