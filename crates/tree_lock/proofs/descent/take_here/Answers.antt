use Rattle.tree_lock.proofs.Toppings.{got_here, missed_here, busy_here, stale_pages}
use Rattle.tree_lock.proofs.descent.take_here.Goals as goal

pub returns-in-Got-clause-takes : goal.returns-in-Got-clause-takes
returns-in-Got-clause-takes g c zone z over way = let t = c.in-Got.ensures.grabs in
    got_here c.args.levels zone _ _ _ c.args.at c.args.way c.in-Got.content c.requires.levels c.requires.stands t.0 t.2 c.look_there.ensures.shows z over c.requires.here way

pub returns-in-Held-clause-takes : goal.returns-in-Held-clause-takes
returns-in-Held-clause-takes g c zone z over way = let t = c.in-Held.ensures.grabs in
    (busy_here c.args.levels _ _ _ c.args.at c.args.way c.in-Held.seat t.1 c.requires.stands t.3 t.4 c.look_there-in-Held.ensures.shows, missed_here c.args.levels zone _ _ _ c.args.at c.args.way _ t.1 c.requires.stands t.2 t.4 c.look_there-in-Held.ensures.shows z over c.requires.here way)

pub returns-in-Stale-clause-takes : goal.returns-in-Stale-clause-takes
returns-in-Stale-clause-takes g c zone z over way = let t = c.in-Stale.ensures.grabs in
    (stale_pages c.args.levels zone _ c.args.at.row c.args.at.place over t.3, missed_here c.args.levels zone _ _ _ c.args.at c.args.way _ t.1 c.requires.stands t.2 t.4 c.look_there-in-Stale.ensures.shows z over c.requires.here way)
