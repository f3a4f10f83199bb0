use Rattle.std.proofs.Common.{◌≡◌, ℕ, ◌<◌, slice_index_or}
use Rattle.machine_plan.specs.HeldRows.{Row, IsAt}
use Rattle.held_spans.proofs.spans.span_at.Given as goal

-- none of the rows that were seen has an entry for the page that is no link
abbrev pub invariant-loop-row : goal.invariant-loop-row
invariant-loop-row l = (l.row-items ≡ l.held.rows) × ((k : ℕ) (d : Row) → k < l.row-index → ¬ IsAt (slice_index_or l.row-items k d) l.page)
