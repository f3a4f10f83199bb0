use Rattle.std.proofs.Common.{◌∷◌, ◌++◌, ap, ◌∙◌}
use Rattle.text_words.specs.Spelling.{number}
use Rattle.mm_script.specs.CallLine.{call_words}
use Rattle.history_lines.proofs.OneEntry.{no_call_behind, no_equals, no_entry_behind, none_read}
use Rattle.history_lines.proofs.entries.next_entry.Goals as goal

pub returns-in_default-2-clause-none : goal.returns-in_default-2-clause-none
returns-in_default-2-clause-none c =
    no_call_behind c.in-Some.thread c.args.words.now c.next_within.new.words c.in-Some.ensures.found.1 (none_read c.in_ok-call.field-0 _ c.in_default-2.not-Some c.in_ok-call.ensures.none)

pub returns-in_default-next_name-clause-none : goal.returns-in_default-next_name-clause-none
returns-in_default-next_name-clause-none c =
    let thread = c.in-Some.ensures.found in
    let call = rw c.in-Some-2.is at c.in_ok-call.ensures.found in
    no_equals c.in-Some.thread c.in-Some-2.call c.args.words.now c.next_call.new.words call.0 call.1 (thread.1 ∙ ap (λ ws. number c.in-Some.thread ∷ ws) call.2) c.in_default-next_name.ensures.none

pub returns-in_default-3-clause-none : goal.returns-in_default-3-clause-none
returns-in_default-3-clause-none c =
    let thread = c.in-Some.ensures.found in
    let call = rw c.in-Some-2.is at c.in_ok-call.ensures.found in
    no_entry_behind c.in-Some.thread c.in-Some-2.call c.args.words.now c.next_name.new.words call.0
    (thread.1 ∙ ap (λ ws. number c.in-Some.thread ∷ ws) (call.2 ∙ ap (λ ws. call_words c.in-Some-2.call ++ ws) c.in-Some-next_name.ensures.found))
    (none_read c.in_ok-reply.field-0 _ c.in_default-3.not-Some c.in_ok-reply.ensures.none)
