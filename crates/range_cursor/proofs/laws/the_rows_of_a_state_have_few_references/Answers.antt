use Rattle.range_cursor.proofs.Few.{rows_have_few}
use Rattle.range_cursor.proofs.laws.the_rows_of_a_state_have_few_references.Goals as goal

pub returns : goal.returns
returns c = rows_have_few
