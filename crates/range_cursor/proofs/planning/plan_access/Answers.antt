use Rattle.std.proofs.Common.{sym, ◌∙◌}
use Rattle.range_cursor.proofs.Planned.{access_is, reach_levels, plans}
use Rattle.range_cursor.proofs.planning.plan_access.Goals as goal

pub returns-in-Some-clause-plans : goal.returns-in-Some-clause-plans
returns-in-Some-clause-plans c some b may needs =
    let is = sym c.in-Some.is ∙ c.access_by.ensures in
    plans b c.args.thread c.args.call.now c.in-Some.access c.args.needed c.args.levels c.fill.ensures.reach (access_is c.args.thread c.args.levels c.args.call.now c.in-Some.access is) (reach_levels c.args.thread c.args.levels c.args.call.now c.in-Some.access is) c.requires.served
    c.args.shelf.now c.args.held.now.rows c.fill.new.held.rows c.args.kit.now c.fill.new.kit may needs c.fill.ensures.plans
