use Rattle.tree_lock.proofs.LinkedPasses.{covers_are_apart}
use Rattle.tree_lock.proofs.cover_laws.two_passes_cover_no_common_page.Goals as goal

pub returns : goal.returns
returns g c k first s holds = covers_are_apart g.P.Plan.meaning k first s holds
