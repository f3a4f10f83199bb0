use Rattle.std.proofs.Common.{◌<◌, sym, subst, ◌∙◌, arith}
use Rattle.corten_base.specs.declared.calls.Reply.{Reply}
use Rattle.page_map.specs.History.{limbo_of}
use Rattle.book.proofs.Ending.{accepted_shows}
use Rattle.book.proofs.Plainly.{refused_commits}
use Rattle.book.proofs.Refusing.{shown_blocked}
use Rattle.book.proofs.book.Book.commit.Goals as goal

pub returns-in-Some-clause-commits : goal.returns-in-Some-clause-commits
returns-in-Some-clause-commits c = refused_commits c.args.self.now _ c.args.thread c.args.call c.args.kit.now c.in-Some.reply _ c.refuse.ensures.book c.refuse.ensures.state (sym c.refusal.ensures ∙ c.in-Some.is) c.requires.filled c.refuse.ensures.reply

pub returns-in-Some-clause-blocked : goal.returns-in-Some-clause-blocked
returns-in-Some-clause-blocked c shown =
    shown_blocked _ _ c.self.view_is c.self.invariant.book c.requires.sum c.args.thread c.args.call c.args.kit.now c.requires.filled c.requires.swept c.in-Some.reply (sym c.refusal.ensures ∙ c.in-Some.is) (subst (λ (r : Reply). 0 < limbo_of r) c.refuse.ensures.reply shown)

pub returns-in-None-clause-blocked : goal.returns-in-None-clause-blocked
returns-in-None-clause-blocked c shown = absurd (omega (arith, shown, accepted_shows c.args.self.now _ c.args.thread c.args.call _ c.accept.result.reply _ (sym c.refusal.ensures ∙ c.in-None.is) c.accept.ensures.commits))
