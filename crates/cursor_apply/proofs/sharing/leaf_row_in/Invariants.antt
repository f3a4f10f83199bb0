use Rattle.std.specs.Prelude.{◌≡◌, ℕ, ◌<◌, slice_index_or}
use Rattle.machine_plan.specs.HeldRows.{Row}
use Rattle.cursor_apply.specs.Sharing.{leaf_place}
use Rattle.cursor_apply.proofs.sharing.leaf_row_in.Given as goal

-- none of the rows that were seen has the page
abbrev pub invariant-loop-at : goal.invariant-loop-at
invariant-loop-at l = (k : ℕ) (d : Row) → k < l.at → ¬ ((slice_index_or l.held.rows k d).place ≡ leaf_place l.space l.page)
