use Rattle.row_table.proofs.StartWords.{starts_true}
use Rattle.row_table.proofs.start_laws.a_table_starts_with_an_empty_space.Goals as goal

pub returns : goal.returns
returns c k is = starts_true k is
