use Rattle.tree_lock.proofs.LinkedPasses.{lists_are_covers}
use Rattle.tree_lock.proofs.cover_laws.the_list_of_a_cover_has_its_rows.Goals as goal

pub returns : goal.returns
returns g c k first s holds = lists_are_covers g.P.Plan.meaning k first s holds
