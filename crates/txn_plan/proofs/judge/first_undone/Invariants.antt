use Rattle.std.proofs.Common.{◌≡◌, ◌+◌, take, drop}
use Rattle.page_map.specs.Mapping.{after_ops, is_right_within, undone}
use Rattle.txn_plan.proofs.judge.first_undone.Given as goal

-- the operations before this one are made
abbrev pub invariant-loop-place : goal.invariant-loop-place
invariant-loop-place l =
    undone (is_right_within l.levels l.shelf l.range.first l.range.count) 1 l.ops l.cells
    ≡ undone (is_right_within l.levels l.shelf l.range.first l.range.count) (l.place + 1) (drop l.place l.ops) (after_ops (take l.place l.ops) l.cells)
