use Rattle.std.proofs.Common.{◌≡◌, ℕ, ◌<◌, ◌≤◌, take}
use Rattle.txn_plan.specs.Covers.{covered}
use Rattle.range_cursor.proofs.pieces.next_edge.Given as goal

-- none of the operations before this one begins or ends before the edge
abbrev pub invariant-loop-op : goal.invariant-loop-op
invariant-loop-op l = record {
  behind : l.page < l.edge;
  before : l.edge ≤ l.end;
  same : (q : ℕ) → l.page ≤ q → q < l.edge → covered (take l.op-index l.ops) q ≡ covered (take l.op-index l.ops) l.page;
}
