use Rattle.std.proofs.Common.{◌≡◌, ℕ, ◌+◌, take, drop}
use Rattle.machine_plan.specs.HeldRows.{AreAsked, RowsShown}
use Rattle.page_map.specs.Mapping.{after_ops, is_right_within, undone}
use Rattle.page_map.specs.State.{State, space_at}
use Rattle.range_cursor.proofs.judging.first_undone.Given as goal

-- the operations before this one are made
abbrev pub invariant-loop-place : goal.invariant-loop-place
invariant-loop-place l =
    (space : ℕ) (st : State) → AreAsked space l.held.rows l.range.first l.range.count → RowsShown st l.held.rows
    → undone (is_right_within l.levels l.shelf l.range.first l.range.count) 1 l.ops (space_at st space)
    ≡ undone (is_right_within l.levels l.shelf l.range.first l.range.count) (l.place + 1) (drop l.place l.ops) (after_ops (take l.place l.ops) (space_at st space))
