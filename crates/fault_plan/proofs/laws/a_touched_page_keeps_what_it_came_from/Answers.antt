use Rattle.fault_plan.proofs.Accesses.{same_origin}
use Rattle.fault_plan.proofs.laws.a_touched_page_keeps_what_it_came_from.Goals as goal

pub returns : goal.returns
returns c = same_origin
