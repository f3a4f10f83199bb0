use Rattle.call_steps.proofs.Law.{gives_release}
use Rattle.call_steps.proofs.laws.an_applied_call_may_be_released.Goals as goal

pub returns : goal.returns
returns c = gives_release
