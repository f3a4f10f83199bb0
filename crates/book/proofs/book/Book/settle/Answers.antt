use Rattle.std.proofs.Common.{sym, ap, ◌∙◌}
use Rattle.book.specs.Plain.{plain_reply}
use Rattle.book.proofs.Ending.{may_enter, kept_so, commits_so}
use Rattle.book.proofs.Plainly.{may_give, settles, answered}
use Rattle.book.proofs.book.Book.settle.Goals as goal

pub give_all_back-requires : goal.give_all_back-requires
give_all_back-requires c = may_give _ _ c.self.view_is c.args.thread c.args.call c.args.kit.now c.self.invariant.book c.requires.sum c.requires.filled c.requires.accepted c.requires.plain

pub enter-ticket-requires : goal.enter-ticket-requires
enter-ticket-requires c =
    may_enter _ _ c.self.view_is c.args.thread c.args.call c.args.kit.now c.give_all_back.new.kit _ _ _ c.self.invariant c.requires.sum c.requires.filled c.requires.accepted c.requires.room (c.give_all_back.ensures.lists c.requires.filled.room)

pub invariant_of-self : goal.invariant_of-self
invariant_of-self c =
    kept_so _ _ c.self.view_is c.args.thread c.args.call c.args.kit.now c.give_all_back.new.kit _ _ _ _ c.plain_reply-reply.result c.plain_reply-again.result _ _ _ c.self.invariant c.requires.sum c.requires.filled c.requires.accepted
    (answered _ _ c.self.view_is c.args.thread c.args.call c.args.kit.now c.self.invariant.book c.requires.sum c.requires.filled c.requires.accepted c.requires.plain _ (c.plain_reply-reply.ensures ∙ ap (plain_reply c.args.call) c.as_slice.ensures.value))
    (settles _ _ c.self.view_is c.args.thread c.args.call c.args.kit.now c.self.invariant.book c.requires.sum c.requires.filled c.requires.accepted c.requires.plain _ _ _ c.give_all_back.ensures)
    c.enter-ticket.ensures.enters _ _ c.requires.thread c.requires.room c.enter-ticket.ensures.places c.enter-ticket.ensures.room

pub returns-clause-commits : goal.returns-clause-commits
returns-clause-commits c =
    commits_so _ _ c.self.view_is c.args.thread c.args.call c.args.kit.now c.give_all_back.new.kit _ _ _ _ c.plain_reply-reply.result c.plain_reply-again.result _ _ _ c.self.invariant c.requires.sum c.requires.filled c.requires.accepted
    (answered _ _ c.self.view_is c.args.thread c.args.call c.args.kit.now c.self.invariant.book c.requires.sum c.requires.filled c.requires.accepted c.requires.plain _ (c.plain_reply-reply.ensures ∙ ap (plain_reply c.args.call) c.as_slice.ensures.value))
    (settles _ _ c.self.view_is c.args.thread c.args.call c.args.kit.now c.self.invariant.book c.requires.sum c.requires.filled c.requires.accepted c.requires.plain _ _ _ c.give_all_back.ensures)
    c.enter-ticket.ensures.enters
    (c.plain_reply-reply.ensures ∙ ap (plain_reply c.args.call) c.as_slice.ensures.value ∙ sym (c.plain_reply-again.ensures ∙ ap (plain_reply c.args.call) c.as_slice-2.ensures.value))
