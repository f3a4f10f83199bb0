use Rattle.mm_script.proofs.FirstFault.{one_first_fault, fault_refuses}
use Rattle.mm_script.proofs.laws.a_text_has_one_first_fault.Goals as goal

pub returns : goal.returns
returns c = record { one = one_first_fault; none = fault_refuses }
