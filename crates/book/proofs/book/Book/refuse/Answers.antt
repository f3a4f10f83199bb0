use Rattle.std.proofs.Common.{◌≡◌, ◌++◌, ◌∷◌, [], length, ap}
use Rattle.row_layout.specs.Limbo.{LimboList}
use Rattle.page_map.proofs.Replies.{refusal_refuses}
use Rattle.machine_plan.specs.Books.{state_of}
use Rattle.book.proofs.Entering.{refuses_so, entry_of, few_in_limbo}
use Rattle.book.proofs.book.Book.refuse.Goals as goal

pub told-again-requires : goal.told-again-requires
told-again-requires c = refusal_refuses (state_of c.args.self.now) c.args.thread (length c.args.self.now.limbo) c.args.call c.args.reply c.requires.refused

pub forget_blockers-requires-clause-few : goal.forget_blockers-requires-clause-few
forget_blockers-requires-clause-few c = few_in_limbo _ _ c.self.view_is c.self.invariant.book c.requires.sum

pub invariant_of-self : goal.invariant_of-self
invariant_of-self c =
    let pushed : c.push.new.self.items ≡ c.self.inside.journal.items ++ entry_of c.args.thread c.args.call c.args.reply ∷ [] = rw c.unwrap.ensures at c.push.ensures.items in
    (refuses_so _ _ c.self.view_is c.args.thread c.args.call c.args.reply c.self.inside.aside _ _ _ _ c.push.new.self.items _ pushed (ap (λ (l : LimboList). l.list) c.forget_blockers.ensures) c.requires.thread c.self.invariant c.push.ensures.capacity (ap (λ (l : LimboList). l.room) c.forget_blockers.ensures) c.requires.sum c.requires.room c.requires.refused).0

pub returns-clause-state : goal.returns-clause-state
returns-clause-state c =
    let pushed : c.push.new.self.items ≡ c.self.inside.journal.items ++ entry_of c.args.thread c.args.call c.args.reply ∷ [] = rw c.unwrap.ensures at c.push.ensures.items in
    (refuses_so _ _ c.self.view_is c.args.thread c.args.call c.args.reply c.self.inside.aside _ _ _ _ c.push.new.self.items _ pushed (ap (λ (l : LimboList). l.list) c.forget_blockers.ensures) c.requires.thread c.self.invariant c.push.ensures.capacity (ap (λ (l : LimboList). l.room) c.forget_blockers.ensures) c.requires.sum c.requires.room c.requires.refused).1
