use Rattle.row_table.proofs.Reused.{epochs_true}
use Rattle.row_table.proofs.reuse_laws.an_epoch_word_is_odd_while_its_pass_is_inside.Goals as goal

pub returns : goal.returns
returns g c k first s holds = epochs_true g.P.Plan.meaning k first s holds
