use Rattle.machine_plan.proofs.Wanting.{wants_take}
use Rattle.machine_plan.proofs.laws.the_wants_of_a_call_tell_what_it_takes.Goals as goal

pub returns : goal.returns
returns c = wants_take
