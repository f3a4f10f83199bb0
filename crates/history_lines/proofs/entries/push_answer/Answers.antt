-- The thread, the call and the reply, with spaces and `=` between them, are the line.
use Rattle.std.proofs.Common.{[], ◌∷◌, ◌++◌, ap, ◌∙◌}
use Rattle.text_words.specs.Spelling.{number}
use Rattle.text_words.specs.Layout.{joined}
use Rattle.mm_script.specs.CallLine.{call_words}
use Rattle.mm_script.proofs.OneCall.{call_words_some}
use Rattle.mm_script.proofs.OpLines.{on_ok_from}
use Rattle.history_lines.specs.Replies.{reply_words}
use Rattle.history_lines.proofs.Names.{reply_words_some}
use Rattle.history_lines.proofs.OneEntry.{answer_written}
use Rattle.history_lines.proofs.entries.push_answer.Goals as goal

pub returns : goal.returns
returns c =
    let call = call_words c.args.call.now in
    let reply = reply_words c.args.reply.now in
    let first = c.in_ok-push_number.ensures.ok ∙ ap (λ n. c.args.out.now.items ++ number n) c.from.ensures in
    let second = c.in_ok-push.ensures.items ∙ ap (λ t. t ++ 32 ∷ []) first in
    let third = c.in_ok-push_call.ensures.ok ∙ ap (λ t. t ++ joined call) second in
    let fourth = c.in_ok-extend_from_slice.ensures.items ∙ ap (λ t. t ++ (32 ∷ 61 ∷ 32 ∷ [])) third in
    on_ok_from _ _ c.push_reply.result _ _
    (λ is. is ∙ ap (λ t. t ++ joined reply) fourth ∙ answer_written c.args.out.now.items (number c.args.thread) call reply (call_words_some c.args.call.now) (reply_words_some c.args.reply.now))
    c.push_reply.ensures.ok
