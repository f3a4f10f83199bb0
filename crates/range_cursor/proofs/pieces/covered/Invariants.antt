use Rattle.std.proofs.Common.{◌≡◌, take}
use Rattle.txn_plan.specs.Covers.{covered}
use Rattle.range_cursor.proofs.pieces.covered.Given as goal

-- what the operations before this one settle
abbrev pub invariant-loop-op : goal.invariant-loop-op
invariant-loop-op l = l.last ≡ covered (take l.op-index l.ops) l.page
