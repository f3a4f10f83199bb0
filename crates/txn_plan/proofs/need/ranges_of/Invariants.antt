use Rattle.std.proofs.Common.{◌≡◌, take}
use Rattle.std.specs.Prelude.{map}
use Rattle.txn_plan.specs.Needs.{range_of}
use Rattle.txn_plan.proofs.need.ranges_of.Given as goal

-- those of the operations before this one are there
abbrev pub invariant-loop-op : goal.invariant-loop-op
invariant-loop-op l = l.ranges.items ≡ map range_of (take l.op-index l.ops)
