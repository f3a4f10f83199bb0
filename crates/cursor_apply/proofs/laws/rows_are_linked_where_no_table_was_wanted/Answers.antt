use Rattle.cursor_apply.proofs.Begun.{linked_here}
use Rattle.cursor_apply.proofs.laws.rows_are_linked_where_no_table_was_wanted.Goals as goal

pub returns : goal.returns
returns g c = linked_here
