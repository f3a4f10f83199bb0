use Rattle.row_uses.proofs.Visits.{stands_below}
use Rattle.row_uses.proofs.uses.go_down.Goals as goal

pub returns-in-Some-clause-stands : goal.returns-in-Some-clause-stands
returns-in-Some-clause-stands g c = let l = c.look-word.ensures.looks in stands_below _ _ _ _ _ _ l.0 c.requires.stands l.1 c.in-Some.ensures.0 c.in-Some.ensures.1
