use Rattle.mm_script.proofs.OneCall.{call_line_injective}
use Rattle.mm_script.proofs.laws.a_line_has_one_call.Goals as goal

pub returns : goal.returns
returns c = call_line_injective
