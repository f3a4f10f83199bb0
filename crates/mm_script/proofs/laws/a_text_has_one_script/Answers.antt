use Rattle.mm_script.proofs.OneScript.{one_script}
use Rattle.mm_script.proofs.laws.a_text_has_one_script.Goals as goal

pub returns : goal.returns
returns c = one_script
