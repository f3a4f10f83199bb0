use Rattle.call_steps.proofs.Law.{gives_detach}
use Rattle.call_steps.proofs.laws.what_a_plan_leaves_may_be_detached.Goals as goal

pub returns : goal.returns
returns c = gives_detach
