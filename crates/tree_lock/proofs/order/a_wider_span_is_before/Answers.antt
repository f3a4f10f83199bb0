use Rattle.tree_lock.proofs.Positions.{around_before}
use Rattle.tree_lock.proofs.order.a_wider_span_is_before.Goals as goal

pub returns : goal.returns
returns c = around_before
