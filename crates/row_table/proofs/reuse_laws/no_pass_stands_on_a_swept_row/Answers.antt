use Rattle.row_table.proofs.Reused.{none_read}
use Rattle.row_table.proofs.reuse_laws.no_pass_stands_on_a_swept_row.Goals as goal

pub returns : goal.returns
returns g c k first s holds = none_read g.P.Plan.meaning k first s holds g.P.Plan.lawful
