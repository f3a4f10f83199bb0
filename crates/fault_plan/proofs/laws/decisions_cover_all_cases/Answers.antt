use Rattle.fault_plan.proofs.Cover.{covers}
use Rattle.fault_plan.proofs.laws.decisions_cover_all_cases.Goals as goal

pub returns : goal.returns
returns c = covers
