use Rattle.std.proofs.Common.{◌∙◌}
use Rattle.reuse_uses.proofs.Roots.{may_release_root, idle_after}
use Rattle.reuse_uses.proofs.tests.use_often.Goals as goal

pub loop-init : goal.loop-init
loop-init g c = let e = c.in_ok-pass.ensures in (e.0, e.1)

pub release-requires-clause-linked : goal.release-requires-clause-linked
release-requires-clause-linked g c κs = (may_release_root _ c.loop.invariant.1).0

pub release-requires-clause-fits : goal.release-requires-clause-fits
release-requires-clause-fits g c κs = (may_release_root _ c.loop.invariant.1).1 _ c.in-Ok.ensures

pub returns : goal.returns
returns g c = (c.release.ensures.table ∙ c.loop.invariant.0, idle_after _ _ c.loop.invariant.1 c.release.ensures.releases)
