use Rattle.std.proofs.Common.{ℕ, ◌<◌, ◌≤◌, slice_index_or}
use Rattle.machine_plan.specs.HeldRows.{Row, IsAt}
use Rattle.held_spans.proofs.near.found_from.Given as goal

-- none of the rows that were seen has an entry for the page that is no link
abbrev pub invariant-loop-place : goal.invariant-loop-place
invariant-loop-place l = (k : ℕ) (d : Row) → l.from ≤ k → k < l.place → ¬ IsAt (slice_index_or l.rows k d) l.page
