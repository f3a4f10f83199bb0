use Rattle.shares.proofs.Unused.{least_unused-none, least_unused-least, AreCounted-taken}
use Rattle.shares.proofs.Shares.take.Goals as goal

pub returns-in_err-number-clause-least : goal.returns-in_err-number-clause-least
returns-in_err-number-clause-least c =
    let none = c.in_err-number.ensures.taken in
    rw (c.from_residual.ensures, ← c.self.view_is, least_unused-none _ _ c.self.invariant none)

pub invariant_of-self-2 : goal.invariant_of-self-2
invariant_of-self-2 c =
    let taken = c.in_ok-number.ensures in
    rw taken.after (AreCounted-taken _ _ c.self.invariant c.in_ok-number.number taken.taken)

pub returns-clause-least : goal.returns-clause-least
returns-clause-least c =
    let taken = c.in_ok-number.ensures in
    rw (← c.self.view_is, least_unused-least _ _ c.self.invariant c.in_ok-number.number taken.taken)
