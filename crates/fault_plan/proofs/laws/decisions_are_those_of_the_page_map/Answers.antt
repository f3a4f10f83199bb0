use Rattle.fault_plan.proofs.Accesses.{same_refusal, same_takes}
use Rattle.fault_plan.proofs.laws.decisions_are_those_of_the_page_map.Goals as goal

pub returns-clause-refused : goal.returns-clause-refused
returns-clause-refused c st = same_refusal st.files

pub returns-clause-taken : goal.returns-clause-taken
returns-clause-taken c = same_takes
