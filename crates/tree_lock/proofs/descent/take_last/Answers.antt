use Rattle.tree_lock.proofs.Toppings.{got_last, missed_last, busy_last, fits_on}
use Rattle.tree_lock.proofs.descent.take_last.Goals as goal

pub returns-in-None-clause-takes : goal.returns-in-None-clause-takes
returns-in-None-clause-takes g c zone z pages over below = let t = c.in-Got.ensures.grabs in
    got_last c.args.levels zone _ _ _ c.args.at c.args.index c.in-Got.content c.requires.levels c.requires.stands t.0 t.2 c.in-None.ensures.looks z pages over c.requires.inside below

pub returns-in-Held-clause-takes : goal.returns-in-Held-clause-takes
returns-in-Held-clause-takes g c zone z pages over below = let t = c.in-Held.ensures.grabs in
    (busy_last c.args.levels _ _ c.args.at c.in-Held.seat t.1 c.requires.stands t.3 t.4, missed_last c.args.levels zone _ _ c.args.at c.args.index _ t.1 c.requires.stands c.requires.saw t.2 t.4 z pages over c.requires.inside below)

pub returns-in-Stale-clause-takes : goal.returns-in-Stale-clause-takes
returns-in-Stale-clause-takes g c zone z pages over below = let t = c.in-Stale.ensures.grabs in
    (pages, missed_last c.args.levels zone _ _ c.args.at c.args.index _ t.1 c.requires.stands c.requires.saw t.2 t.4 z pages over c.requires.inside below)

pub release-requires-clause-fits : goal.release-requires-clause-fits
release-requires-clause-fits g c κs within = let t = c.in-Got.ensures.grabs in
    fits_on c.args.levels g.P.Plan.meaning _ _ _ c.args.at c.in-Some.next c.args.index c.in-Got.content t.0 t.2 c.in-Some.ensures.looks
