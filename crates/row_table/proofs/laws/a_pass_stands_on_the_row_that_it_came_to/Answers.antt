use Rattle.row_table.proofs.Standing.{stand_true}
use Rattle.row_table.proofs.laws.a_pass_stands_on_the_row_that_it_came_to.Goals as goal

pub returns : goal.returns
returns g c k first s holds = stand_true g.P.Plan.meaning k first s holds
