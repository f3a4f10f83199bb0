use Rattle.std.proofs.Common.{◌≡◌, ◌++◌, take}
use Rattle.mm_script.specs.CallLine.{more_ops_words, spaced}
use Rattle.mm_script.proofs.printing_ops.push_more_ops.Given as goal

abbrev pub invariant-loop-op : goal.invariant-loop-op
invariant-loop-op l = l.out.items ≡ l.fn.out.items ++ spaced (more_ops_words (take l.op-index l.ops))
