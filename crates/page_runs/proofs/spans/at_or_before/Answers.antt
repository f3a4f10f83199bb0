use Rattle.page_runs.proofs.Found.{last_up_to}
use Rattle.page_runs.proofs.spans.at_or_before.Goals as goal

pub returns-in-Some-clause-some : goal.returns-in-Some-clause-some
returns-in-Some-clause-some c = last_up_to _ _ _ _ _ _ (c.range.ensures.in_range tt) c.in-Some.ensures.steps
