use Rattle.call_steps.proofs.Law.{gives_plan}
use Rattle.call_steps.proofs.laws.what_a_turn_finds_may_be_planned.Goals as goal

pub returns : goal.returns
returns c = gives_plan
