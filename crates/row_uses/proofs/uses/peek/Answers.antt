use Rattle.row_uses.proofs.Visits.{got_it, fits_it, stands_again, stands_still, peeked, peeked_held, peeked_stale}
use Rattle.row_uses.specs.Tally.{tally}
use Rattle.row_uses.proofs.uses.peek.Goals as goal

pub release-requires-clause-fits : goal.release-requires-clause-fits
release-requires-clause-fits c κs = let t = c.in-Got.ensures.grabs in
    fits_it tally (got_it _ _ c.args.row t.0.place t.0.generation t.0.words c.in-Got.found t.2)

pub returns-in-Got-clause-stands : goal.returns-in-Got-clause-stands
returns-in-Got-clause-stands c = let t = c.in-Got.ensures.grabs in
    stands_again _ _ _ c.args.row t.0.place t.0.generation t.0.words c.in-Got.found c.requires.stands t.2 c.release.ensures.releases

pub returns-in-Got-clause-peeks : goal.returns-in-Got-clause-peeks
returns-in-Got-clause-peeks c at = let t = c.in-Got.ensures.grabs in peeked _ _ _ c.args.row t.0 c.in-Got.found at t.1 t.2 c.release.ensures.releases

pub returns-in-Held-clause-stands : goal.returns-in-Held-clause-stands
returns-in-Held-clause-stands c = let t = c.in-Held.ensures.grabs in stands_still _ _ c.args.row _ t.1 c.requires.stands t.4

pub returns-in-Stale-clause-stands : goal.returns-in-Stale-clause-stands
returns-in-Stale-clause-stands c = let t = c.in-Stale.ensures.grabs in stands_still _ _ c.args.row _ t.1 c.requires.stands t.4

pub returns-in-Held-clause-peeks : goal.returns-in-Held-clause-peeks
returns-in-Held-clause-peeks c at = let t = c.in-Held.ensures.grabs in peeked_held _ _ c.args.row c.in-Held.holder t.1 at t.2 t.3 t.4

pub returns-in-Stale-clause-peeks : goal.returns-in-Stale-clause-peeks
returns-in-Stale-clause-peeks c at = let t = c.in-Stale.ensures.grabs in peeked_stale _ _ c.args.row t.1 at t.2 t.3 t.4
