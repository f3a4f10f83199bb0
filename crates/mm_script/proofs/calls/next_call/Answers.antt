use Rattle.std.proofs.Common.{sym, ◌∙◌}
use Rattle.mm_script.proofs.CallForms.{no_name}
use Rattle.mm_script.proofs.calls.next_call.Goals as goal

pub returns-in_default-call_name-clause-none : goal.returns-in_default-call_name-clause-none
returns-in_default-call_name-clause-none c = λ call rest is_call ends are.
    no_name c.in-Some.word.now c.next_word.new.self c.in_default-call_name.ensures.none call rest is_call (sym c.in-Some.ensures.word ∙ are)
