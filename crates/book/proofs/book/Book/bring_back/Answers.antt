use Rattle.std.proofs.Common.{refl, arith}
use Rattle.corten_base.specs.declared.calls.Reply.TheVariants as reply
use Rattle.book.proofs.Ending.{may_enter, kept_so, commits_so}
use Rattle.book.proofs.Relocated.{may_come_in, settles_back, answered_back, few_in}
use Rattle.book.proofs.book.Book.bring_back.Goals as goal

pub come_in-requires : goal.come_in-requires
come_in-requires c = may_come_in _ _ c.self.view_is c.args.thread c.args.call c.args.kit.now c.self.invariant.book c.requires.sum c.requires.filled c.requires.accepted c.requires.back

pub overflow_cast-moved : goal.overflow_cast-moved
overflow_cast-moved c = let few = few_in _ _ c.self.view_is c.args.thread c.args.call c.args.kit.now c.self.invariant.book c.requires.sum c.requires.filled c.requires.accepted c.requires.back _ _ _ c.come_in.ensures in omega (arith, few, c.len-moved.ensures)

pub enter-ticket-requires : goal.enter-ticket-requires
enter-ticket-requires c =
    may_enter _ _ c.self.view_is c.args.thread c.args.call c.args.kit.now c.come_in.new.kit _ _ _ c.self.invariant c.requires.sum c.requires.filled c.requires.accepted c.requires.room c.come_in.ensures.lists

pub invariant_of-self : goal.invariant_of-self
invariant_of-self c =
    kept_so _ _ c.self.view_is c.args.thread c.args.call c.args.kit.now c.come_in.new.kit _ _ _ _ (reply.Moved c.len-moved.result) (reply.Moved c.len-moved.result) _ _ _ c.self.invariant c.requires.sum c.requires.filled c.requires.accepted
    (answered_back _ _ c.self.view_is c.args.thread c.args.call c.args.kit.now c.self.invariant.book c.requires.sum c.requires.filled c.requires.accepted c.requires.back _ _ _ c.come_in.ensures c.len-moved.result (omega (arith, c.len-moved.ensures)))
    (settles_back _ _ c.self.view_is c.args.thread c.args.call c.args.kit.now c.self.invariant.book c.requires.sum c.requires.filled c.requires.accepted c.requires.back _ _ _ c.come_in.ensures)
    c.enter-ticket.ensures.enters _ _ c.requires.thread c.requires.room c.enter-ticket.ensures.places c.enter-ticket.ensures.room

pub returns-clause-commits : goal.returns-clause-commits
returns-clause-commits c =
    commits_so _ _ c.self.view_is c.args.thread c.args.call c.args.kit.now c.come_in.new.kit _ _ _ _ (reply.Moved c.len-moved.result) (reply.Moved c.len-moved.result) _ _ _ c.self.invariant c.requires.sum c.requires.filled c.requires.accepted
    (answered_back _ _ c.self.view_is c.args.thread c.args.call c.args.kit.now c.self.invariant.book c.requires.sum c.requires.filled c.requires.accepted c.requires.back _ _ _ c.come_in.ensures c.len-moved.result (omega (arith, c.len-moved.ensures)))
    (settles_back _ _ c.self.view_is c.args.thread c.args.call c.args.kit.now c.self.invariant.book c.requires.sum c.requires.filled c.requires.accepted c.requires.back _ _ _ c.come_in.ensures)
    c.enter-ticket.ensures.enters
    refl
