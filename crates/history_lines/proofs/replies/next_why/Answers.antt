use Rattle.std.proofs.Common.{◌∙◌, sym}
use Rattle.history_lines.proofs.Names.{no_why}
use Rattle.history_lines.proofs.replies.next_why.Goals as goal

pub returns-in_default-reply_name-clause-none : goal.returns-in_default-reply_name-clause-none
returns-in_default-reply_name-clause-none c = λ reason rest is_why are.
    no_why c.in-Some.word.now c.next_word.new.self c.in_default-reply_name.ensures.none reason rest is_why (sym c.in-Some.ensures.word ∙ are)
