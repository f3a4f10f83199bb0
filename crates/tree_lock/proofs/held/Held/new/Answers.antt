use Rattle.std.proofs.Common.{arith}
use Rattle.tree_lock.proofs.Rows.{empty_list}
use Rattle.tree_lock.proofs.held.Held.new.Goals as goal

pub invariant_of-result : goal.invariant_of-result
invariant_of-result g c = empty_list _ _ c.in_ok-with_capacity.ensures.items (let exact = c.in_ok-with_capacity.ensures.exact in omega arith)
