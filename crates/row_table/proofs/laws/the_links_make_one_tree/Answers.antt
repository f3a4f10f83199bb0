use Rattle.row_table.proofs.Tree.{is_tree}
use Rattle.row_table.proofs.laws.the_links_make_one_tree.Goals as goal

pub returns : goal.returns
returns g c k first s holds = is_tree g.P.Plan.meaning k first s holds
