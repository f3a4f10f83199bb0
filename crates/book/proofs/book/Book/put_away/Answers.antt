use Rattle.std.proofs.Common.{refl, arith}
use Rattle.corten_base.specs.declared.calls.Reply.TheVariants as reply
use Rattle.book.proofs.Ending.{may_enter, kept_so, commits_so}
use Rattle.book.proofs.Relocated.{may_go_out, settles_away, answered_away, few_out}
use Rattle.book.proofs.book.Book.put_away.Goals as goal

pub go_out-requires : goal.go_out-requires
go_out-requires c = may_go_out _ _ c.self.view_is c.args.thread c.args.call c.args.kit.now c.self.invariant.book c.requires.sum c.requires.filled c.requires.accepted c.requires.out

pub overflow_cast-moved : goal.overflow_cast-moved
overflow_cast-moved c = let few = few_out _ _ c.self.view_is c.args.thread c.args.call c.args.kit.now c.self.invariant.book c.requires.sum c.requires.filled c.requires.accepted c.requires.out _ _ _ c.go_out.ensures in omega (arith, few, c.len-moved.ensures)

pub enter-ticket-requires : goal.enter-ticket-requires
enter-ticket-requires c =
    may_enter _ _ c.self.view_is c.args.thread c.args.call c.args.kit.now c.go_out.new.kit _ _ _ c.self.invariant c.requires.sum c.requires.filled c.requires.accepted c.requires.room c.go_out.ensures.lists

pub invariant_of-self : goal.invariant_of-self
invariant_of-self c =
    kept_so _ _ c.self.view_is c.args.thread c.args.call c.args.kit.now c.go_out.new.kit _ _ _ _ (reply.Moved c.len-moved.result) (reply.Moved c.len-moved.result) _ _ _ c.self.invariant c.requires.sum c.requires.filled c.requires.accepted
    (answered_away _ _ c.self.view_is c.args.thread c.args.call c.args.kit.now c.self.invariant.book c.requires.sum c.requires.filled c.requires.accepted c.requires.out _ _ _ c.go_out.ensures c.len-moved.result (omega (arith, c.len-moved.ensures)))
    (settles_away _ _ c.self.view_is c.args.thread c.args.call c.args.kit.now c.self.invariant.book c.requires.sum c.requires.filled c.requires.accepted c.requires.out _ _ _ c.go_out.ensures)
    c.enter-ticket.ensures.enters _ _ c.requires.thread c.requires.room c.enter-ticket.ensures.places c.enter-ticket.ensures.room

pub returns-clause-commits : goal.returns-clause-commits
returns-clause-commits c =
    commits_so _ _ c.self.view_is c.args.thread c.args.call c.args.kit.now c.go_out.new.kit _ _ _ _ (reply.Moved c.len-moved.result) (reply.Moved c.len-moved.result) _ _ _ c.self.invariant c.requires.sum c.requires.filled c.requires.accepted
    (answered_away _ _ c.self.view_is c.args.thread c.args.call c.args.kit.now c.self.invariant.book c.requires.sum c.requires.filled c.requires.accepted c.requires.out _ _ _ c.go_out.ensures c.len-moved.result (omega (arith, c.len-moved.ensures)))
    (settles_away _ _ c.self.view_is c.args.thread c.args.call c.args.kit.now c.self.invariant.book c.requires.sum c.requires.filled c.requires.accepted c.requires.out _ _ _ c.go_out.ensures)
    c.enter-ticket.ensures.enters
    refl
