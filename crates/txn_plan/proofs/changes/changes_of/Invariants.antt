use Rattle.std.proofs.Common.{◌≡◌, take}
use Rattle.std.specs.Prelude.{map}
use Rattle.txn_plan.specs.Changes.{change_of}
use Rattle.txn_plan.proofs.changes.changes_of.Given as goal

-- those of the operations before this one are there
abbrev pub invariant-loop-op : goal.invariant-loop-op
invariant-loop-op l = l.changes.items ≡ map change_of (take l.op-index l.ops)
