use Rattle.mm_script.proofs.OneCall.{one_call}
use Rattle.mm_script.proofs.laws.words_begin_with_one_call.Goals as goal

pub returns : goal.returns
returns c = λ a b x y ha hb ends_a ends_b same. let one = one_call a b x y ha hb ends_a ends_b same in (one.calls, one.rest)
