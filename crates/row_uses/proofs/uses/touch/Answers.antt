use Rattle.std.proofs.Common.{◌≡◌, ◌∙◌, sym}
use Rattle.row_uses.proofs.Visits.{has_got, fits_it, another, noted_got, noted_missed}
use Rattle.row_uses.proofs.uses.touch.Goals as goal

pub release-requires-clause-fits : goal.release-requires-clause-fits
release-requires-clause-fits g c κs within = let t = c.in-Got.ensures.grabs in
    fits_it g.P.Plan.meaning (has_got _ _ _ c.args.row t.0.place t.0.generation t.0.words c.in-Got.content t.2 c.leave.ensures.leaves)

pub returns-in-Held-clause-other : goal.returns-in-Held-clause-other
returns-in-Held-clause-other g c = λ s e z. let same : c.in-Held.holder ≡ s = cc in another c.requires.stands c.in-Held.ensures.grabs.3 (same ∙ z)

pub returns-in-Got-clause-touched : goal.returns-in-Got-clause-touched
returns-in-Got-clause-touched g c at = let t = c.in-Got.ensures.grabs in (sym at.same_row, noted_got _ _ _ _ c.args.row t.0 c.in-Got.content at t.2 c.leave.ensures.leaves c.release.ensures.releases)

pub returns-in-Held-clause-touched : goal.returns-in-Held-clause-touched
returns-in-Held-clause-touched g c at = let t = c.in-Held.ensures.grabs in noted_missed _ _ _ c.args.row _ t.1 at t.2 t.4 c.leave.ensures.leaves

pub returns-in-Stale-clause-touched : goal.returns-in-Stale-clause-touched
returns-in-Stale-clause-touched g c at = let t = c.in-Stale.ensures.grabs in noted_missed _ _ _ c.args.row _ t.1 at t.2 t.4 c.leave.ensures.leaves
