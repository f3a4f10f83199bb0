use Rattle.image_text.proofs.OneImage.{one_first_fault, fault_refuses}
use Rattle.image_text.proofs.laws.a_text_has_one_first_fault.Goals as goal

pub returns : goal.returns
returns c = record { one = one_first_fault; none = λ bytes n image fault. fault_refuses bytes n image fault }
