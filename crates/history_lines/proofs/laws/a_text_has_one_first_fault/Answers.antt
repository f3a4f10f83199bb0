use Rattle.history_lines.proofs.OneHistory.{one_first_fault, fault_refuses}
use Rattle.history_lines.proofs.laws.a_text_has_one_first_fault.Goals as goal

pub returns : goal.returns
returns c = record { one = one_first_fault; none = fault_refuses }
