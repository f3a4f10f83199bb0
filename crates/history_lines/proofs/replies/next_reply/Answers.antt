use Rattle.std.proofs.Common.{◌∙◌, sym}
use Rattle.history_lines.proofs.Names.{no_reply}
use Rattle.history_lines.proofs.replies.next_reply.Goals as goal

pub returns-in_default-reply_name-clause-none : goal.returns-in_default-reply_name-clause-none
returns-in_default-reply_name-clause-none c = λ reply rest is_reply are.
    no_reply c.in-Some.word.now c.next_word.new.self c.in_default-reply_name.ensures.none reply rest is_reply (sym c.in-Some.ensures.word ∙ are)
