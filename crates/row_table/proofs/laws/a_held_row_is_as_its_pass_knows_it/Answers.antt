use Rattle.row_table.proofs.Holding.{rows_true, rows_shown}
use Rattle.row_table.proofs.laws.a_held_row_is_as_its_pass_knows_it.Goals as goal

pub returns-clause-shown : goal.returns-clause-shown
returns-clause-shown g c k first s holds = rows_shown g.P.Plan.meaning k first s holds

pub returns-clause-rows : goal.returns-clause-rows
returns-clause-rows g c k first s holds = rows_true g.P.Plan.meaning k first s holds
