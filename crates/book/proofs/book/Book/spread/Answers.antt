use Rattle.std.proofs.Common.{refl, ap, ◌∙◌}
use Rattle.std.specs.Prelude.{slice_get}
use Rattle.std.specs.Option.{option_map_or}
use Rattle.corten_base.specs.declared.calls.Reply.TheVariants as reply
use Rattle.book.specs.Sharing.{copy_in}
use Rattle.book.proofs.Ending.{may_enter, kept_so, commits_so}
use Rattle.book.proofs.Spreading.{may_share, settles, answered}
use Rattle.book.proofs.book.Book.spread.Goals as goal

pub share_all-requires : goal.share_all-requires
share_all-requires c = may_share _ _ c.self.view_is c.args.thread c.args.call c.args.kit.now c.self.invariant.book c.requires.sum c.requires.filled c.requires.accepted c.requires.fork

pub enter-ticket-requires : goal.enter-ticket-requires
enter-ticket-requires c =
    may_enter _ _ c.self.view_is c.args.thread c.args.call c.args.kit.now c.share_all.new.kit _ _ _ c.self.invariant c.requires.sum c.requires.filled c.requires.accepted c.requires.room c.share_all.ensures.lists

pub invariant_of-self : goal.invariant_of-self
invariant_of-self c =
    kept_so _ _ c.self.view_is c.args.thread c.args.call c.args.kit.now c.share_all.new.kit _ _ _ _ (reply.Space c.copied_into-space.result) (reply.Space c.copied_into-space.result) _ _ _ c.self.invariant c.requires.sum c.requires.filled c.requires.accepted
    (answered _ _ c.self.view_is c.args.thread c.args.call c.args.kit.now c.self.invariant.book c.requires.sum c.requires.filled c.requires.accepted c.requires.fork _ (c.copied_into-space.ensures ∙ ap (λ changes. option_map_or copy_in (slice_get changes 0) 0) c.as_slice.ensures.value))
    (settles _ _ c.self.view_is c.args.thread c.args.call c.args.kit.now c.self.invariant.book c.requires.sum c.requires.filled c.requires.accepted c.requires.fork _ _ _ c.share_all.ensures)
    c.enter-ticket.ensures.enters _ _ c.requires.thread c.requires.room c.enter-ticket.ensures.places c.enter-ticket.ensures.room

pub returns-clause-commits : goal.returns-clause-commits
returns-clause-commits c =
    commits_so _ _ c.self.view_is c.args.thread c.args.call c.args.kit.now c.share_all.new.kit _ _ _ _ (reply.Space c.copied_into-space.result) (reply.Space c.copied_into-space.result) _ _ _ c.self.invariant c.requires.sum c.requires.filled c.requires.accepted
    (answered _ _ c.self.view_is c.args.thread c.args.call c.args.kit.now c.self.invariant.book c.requires.sum c.requires.filled c.requires.accepted c.requires.fork _ (c.copied_into-space.ensures ∙ ap (λ changes. option_map_or copy_in (slice_get changes 0) 0) c.as_slice.ensures.value))
    (settles _ _ c.self.view_is c.args.thread c.args.call c.args.kit.now c.self.invariant.book c.requires.sum c.requires.filled c.requires.accepted c.requires.fork _ _ _ c.share_all.ensures)
    c.enter-ticket.ensures.enters
    refl
