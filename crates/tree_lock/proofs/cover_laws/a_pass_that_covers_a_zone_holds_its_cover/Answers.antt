use Rattle.tree_lock.proofs.LinkedPasses.{shown_are_held}
use Rattle.tree_lock.proofs.cover_laws.a_pass_that_covers_a_zone_holds_its_cover.Goals as goal

pub returns : goal.returns
returns g c k first s holds = shown_are_held g.P.Plan.meaning k first s holds
