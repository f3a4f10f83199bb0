use Rattle.std.proofs.Common.{refl, arith}
use Rattle.page_runs.proofs.Crowded.{stays_mapped, stays_protected, stays_unmapped}
use Rattle.page_runs.proofs.crowds.Crowd.without.Goals as goal

pub returns-in-Map-clause-after : goal.returns-in-Map-clause-after
returns-in-Map-clause-after c m none = stays_mapped m c.args.change c.args.self none _ c.in-Map.is

pub returns-in-Unmap-clause-after : goal.returns-in-Unmap-clause-after
returns-in-Unmap-clause-after c m none = stays_unmapped m c.args.change c.args.self none _ refl refl (omega (arith, c.min.ensures)) (omega (arith, c.min.ensures, c.saturating_sub-in-Unmap.ensures, c.saturating_sub.ensures)) c.in-Unmap.is

pub returns-in-Protect-clause-after : goal.returns-in-Protect-clause-after
returns-in-Protect-clause-after c m none = stays_protected m c.args.change c.args.self none _ c.in-Protect.is
