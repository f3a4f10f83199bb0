use Rattle.tree_lock.proofs.Positions.{before_child}
use Rattle.tree_lock.proofs.order.a_table_is_before_its_children.Goals as goal

pub returns-clause-tables : goal.returns-clause-tables
returns-clause-tables c = before_child
