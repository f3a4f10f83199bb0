use Rattle.tree_lock.proofs.LinkedTops.{one_top_alone}
use Rattle.tree_lock.proofs.LinkedPasses.{link_tree}
use Rattle.tree_lock.proofs.cover_laws.a_zone_of_pages_has_one_top.Goals as goal

pub returns : goal.returns
returns g c k first s holds space page count strict is_zone = one_top_alone s.words (link_tree g.P.Plan.meaning k first s holds) space page count strict is_zone
