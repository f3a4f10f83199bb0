use Rattle.tree_lock.proofs.Positions.{before_or_after}
use Rattle.tree_lock.proofs.order.positions_are_in_one_order.Goals as goal

pub returns-clause-total : goal.returns-clause-total
returns-clause-total c = before_or_after
