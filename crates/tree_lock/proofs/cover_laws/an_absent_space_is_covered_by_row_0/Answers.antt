use Rattle.tree_lock.proofs.LinkedTops.{absent_cover}
use Rattle.tree_lock.proofs.LinkedPasses.{link_tree}
use Rattle.tree_lock.proofs.cover_laws.an_absent_space_is_covered_by_row_0.Goals as goal

pub returns : goal.returns
returns g c k first s holds zone space page is_zone has absent row = absent_cover s.words (link_tree g.P.Plan.meaning k first s holds) zone space page is_zone has absent row
