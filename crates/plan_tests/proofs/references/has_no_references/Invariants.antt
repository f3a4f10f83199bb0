use Rattle.std.specs.Prelude.{ℕ, ◌<◌, slice_index_or}
use Rattle.machine_plan.specs.HeldRows.{Row}
use Rattle.plan_tests.specs.References.{HasNone}
use Rattle.plan_tests.proofs.references.has_no_references.Given as goal

-- the rows before this one have none
abbrev pub invariant-loop-row : goal.invariant-loop-row
invariant-loop-row l = (k : ℕ) (d : Row) → k < l.row-index → HasNone (slice_index_or l.held.rows k d).content
