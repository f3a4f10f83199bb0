use Rattle.tree_lock.proofs.Positions.{spelled_table}
use Rattle.tree_lock.proofs.order.each_table_has_a_spelled_position.Goals as goal

pub returns-clause-tables : goal.returns-clause-tables
returns-clause-tables c = spelled_table
