use Rattle.std.proofs.Common.{◌≡◌, ◌++◌, ◌-◌, length}
use Rattle.mm_script.specs.CallLine.{ops_words, AreOps}
use Rattle.mm_script.proofs.ops.next_ops.Given as goal

-- the words so far are those of the operations
abbrev pub invariant-loop-ops : goal.invariant-loop-ops
invariant-loop-ops l = record {
  passed : l.fn.words ≡ ops_words l.ops ++ l.words;
  are_ops : AreOps l.ops;
}

abbrev pub decreases-loop-ops : goal.decreases-loop-ops
decreases-loop-ops l = 17 - length l.ops
