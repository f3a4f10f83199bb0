use Rattle.call_steps.proofs.Law.{gives_follow}
use Rattle.call_steps.proofs.laws.a_call_may_be_given.Goals as goal

pub returns : goal.returns
returns c = gives_follow
