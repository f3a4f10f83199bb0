use Rattle.std.proofs.Common.{sym, ap, ◌∙◌}
use Rattle.machine_plan.specs.Books.{BookData, state_of}
use Rattle.page_map.specs.Effect.{answer}
use Rattle.book.proofs.AccessOf.{access_of}
use Rattle.book.proofs.Ending.{may_enter, kept_so, commits_so}
use Rattle.book.proofs.book.Book.touch.Goals as goal

pub access-reply-requires : goal.access-reply-requires
access-reply-requires c = (_, c.args.thread, access_of _ _ c.self.view_is c.args.thread c.args.call c.args.kit.now c.self.invariant.book c.requires.sum c.requires.filled c.requires.accepted c.requires.access)

pub enter-ticket-requires : goal.enter-ticket-requires
enter-ticket-requires c =
    let m = access_of _ _ c.self.view_is c.args.thread c.args.call c.args.kit.now c.self.invariant.book c.requires.sum c.requires.filled c.requires.accepted c.requires.access in
    may_enter _ _ c.self.view_is c.args.thread c.args.call c.args.kit.now c.access-reply.new.kit _ _ _ c.self.invariant c.requires.sum c.requires.filled c.requires.accepted c.requires.room (c.access-reply.ensures.settles _ c.args.thread m).lists

pub invariant_of-self : goal.invariant_of-self
invariant_of-self c =
    let m = access_of _ _ c.self.view_is c.args.thread c.args.call c.args.kit.now c.self.invariant.book c.requires.sum c.requires.filled c.requires.accepted c.requires.access in
    kept_so _ _ c.self.view_is c.args.thread c.args.call c.args.kit.now c.access-reply.new.kit _ _ _ _ c.access-reply.result.0 c.access-reply.result.1 _ _ _ c.self.invariant c.requires.sum c.requires.filled c.requires.accepted
    ((c.access-reply.ensures.answers _ c.args.thread m).0 ∙ ap (λ (x : BookData). answer (state_of x) c.args.thread c.args.call) c.self.view_is)
    (c.access-reply.ensures.settles _ c.args.thread m)
    c.enter-ticket.ensures.enters _ _ c.requires.thread c.requires.room c.enter-ticket.ensures.places c.enter-ticket.ensures.room

pub returns-clause-commits : goal.returns-clause-commits
returns-clause-commits c =
    let m = access_of _ _ c.self.view_is c.args.thread c.args.call c.args.kit.now c.self.invariant.book c.requires.sum c.requires.filled c.requires.accepted c.requires.access in
    let answers = c.access-reply.ensures.answers _ c.args.thread m in
    commits_so _ _ c.self.view_is c.args.thread c.args.call c.args.kit.now c.access-reply.new.kit _ _ _ _ c.access-reply.result.0 c.access-reply.result.1 _ _ _ c.self.invariant c.requires.sum c.requires.filled c.requires.accepted
    (answers.0 ∙ ap (λ (x : BookData). answer (state_of x) c.args.thread c.args.call) c.self.view_is)
    (c.access-reply.ensures.settles _ c.args.thread m)
    c.enter-ticket.ensures.enters
    (answers.0 ∙ sym answers.1)
