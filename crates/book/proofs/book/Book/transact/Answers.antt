use Rattle.std.proofs.Common.{refl}
use Rattle.corten_base.specs.declared.calls.Reply.TheVariants as reply
use Rattle.book.proofs.Ending.{may_enter, kept_so, commits_so}
use Rattle.book.proofs.Transacted.{may_give_back, txn_settles, txn_done}
use Rattle.book.proofs.book.Book.transact.Goals as goal

pub give_remade_back-requires : goal.give_remade_back-requires
give_remade_back-requires c = may_give_back _ _ c.self.view_is c.args.thread c.args.call c.args.kit.now c.self.invariant.book c.requires.sum c.requires.filled c.requires.accepted c.requires.kind

pub enter-ticket-requires : goal.enter-ticket-requires
enter-ticket-requires c =
    may_enter _ _ c.self.view_is c.args.thread c.args.call c.args.kit.now c.give_remade_back.new.kit _ _ _ c.self.invariant c.requires.sum c.requires.filled c.requires.accepted c.requires.room (c.give_remade_back.ensures.lists c.requires.filled.room)

pub invariant_of-self : goal.invariant_of-self
invariant_of-self c =
    kept_so _ _ c.self.view_is c.args.thread c.args.call c.args.kit.now c.give_remade_back.new.kit _ _ _ _ reply.Done reply.Done _ _ _ c.self.invariant c.requires.sum c.requires.filled c.requires.accepted
    (txn_done _ c.args.thread c.args.call c.requires.kind)
    (txn_settles _ _ c.self.view_is c.args.thread c.args.call c.args.kit.now c.self.invariant.book c.requires.sum c.requires.filled c.requires.accepted c.requires.kind _ _ _ c.give_remade_back.ensures)
    c.enter-ticket.ensures.enters _ _ c.requires.thread c.requires.room c.enter-ticket.ensures.places c.enter-ticket.ensures.room

pub returns-clause-commits : goal.returns-clause-commits
returns-clause-commits c =
    commits_so _ _ c.self.view_is c.args.thread c.args.call c.args.kit.now c.give_remade_back.new.kit _ _ _ _ reply.Done reply.Done _ _ _ c.self.invariant c.requires.sum c.requires.filled c.requires.accepted
    (txn_done _ c.args.thread c.args.call c.requires.kind)
    (txn_settles _ _ c.self.view_is c.args.thread c.args.call c.args.kit.now c.self.invariant.book c.requires.sum c.requires.filled c.requires.accepted c.requires.kind _ _ _ c.give_remade_back.ensures)
    c.enter-ticket.ensures.enters refl
