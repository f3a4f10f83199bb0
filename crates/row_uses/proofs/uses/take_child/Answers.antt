use Rattle.row_uses.proofs.Visits.{took_child, missed_child}
use Rattle.row_uses.proofs.uses.take_child.Goals as goal

pub returns-in-Got-clause-takes : goal.returns-in-Got-clause-takes
returns-in-Got-clause-takes g c l = let t = c.in-Got.ensures.grabs in took_child _ _ c.args.row t.0 c.in-Got.content t.1 t.2 l

pub returns-in-Held-clause-takes : goal.returns-in-Held-clause-takes
returns-in-Held-clause-takes g c l = let t = c.in-Held.ensures.grabs in missed_child _ _ c.args.row t.1 (record { 0 = c.in-Held.holder }) t.2 t.3 t.4 l
