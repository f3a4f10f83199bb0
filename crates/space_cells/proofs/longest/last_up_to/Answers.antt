use Rattle.space_cells.proofs.LongestRuns.{last_held}
use Rattle.space_cells.proofs.longest.last_up_to.Goals as goal

pub returns-in-Some-clause-some : goal.returns-in-Some-clause-some
returns-in-Some-clause-some c = last_held _ _ _ _ _ _ (c.range.ensures.in_range tt) c.in-Some.ensures.steps
