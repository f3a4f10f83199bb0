use Rattle.tree_lock.proofs.Covering.{spelled_over, holds_top, fresh_top, stage_top, covers_zone, in_the_tree, may_release, barred_emptied, off_emptied}
use Rattle.tree_lock.proofs.attempt.take_all.Goals as goal

pub insert-requires-clause-spelled : goal.insert-requires-clause-spelled
insert-requires-clause-spelled g c = spelled_over c.args.levels _ _ _ c.requires.got.over

pub take_below-requires-clause-stage : goal.take_below-requires-clause-stage
take_below-requires-clause-stage g c κs within = (c.requires.got.only, stage_top c.args.levels _ _ c.args.top c.requires.got _ _ c.requires.zone c.requires.outside c.requires.empty c.insert.ensures.inserted)

pub take_below-requires-clause-at : goal.take_below-requires-clause-at
take_below-requires-clause-at g c κs within = holds_top c.args.levels _ _ c.args.top c.requires.got

pub take_below-requires-clause-fresh : goal.take_below-requires-clause-fresh
take_below-requires-clause-fresh g c κs within = fresh_top c.args.levels _ _ c.args.top c.requires.got

pub release_all-requires-clause-exact : goal.release_all-requires-clause-exact
release_all-requires-clause-exact g c κs within = let first = stage_top c.args.levels _ _ c.args.top c.requires.got _ _ c.requires.zone c.requires.outside c.requires.empty c.insert.ensures.inserted in
    (c.in-Some.ensures.stage c.requires.got.only first).list.exact

pub release_all-requires-clause-each : goal.release_all-requires-clause-each
release_all-requires-clause-each g c κs within = let first = stage_top c.args.levels _ _ c.args.top c.requires.got _ _ c.requires.zone c.requires.outside c.requires.empty c.insert.ensures.inserted in
    let last = c.in-Some.ensures.stage c.requires.got.only first in may_release c.args.levels g.P.Plan.meaning _ _ last.list (in_the_tree c.args.levels _ _ _ _ last)

pub returns-in-None-clause-takes : goal.returns-in-None-clause-takes
returns-in-None-clause-takes g c =
    let e = c.in-None.ensures in
    let first = stage_top c.args.levels _ _ c.args.top c.requires.got _ _ c.requires.zone c.requires.outside c.requires.empty c.insert.ensures.inserted in
    let last = e.stage c.requires.got.only first in
    record { same = e.kept; outside = last.outside; epoch = e.epoch; listed = last.list; covers = covers_zone c.args.levels _ _ c.args.top c.requires.got _ _ last e.takes; in_tree = in_the_tree c.args.levels _ _ _ _ last }

pub returns-in-Some-clause-takes : goal.returns-in-Some-clause-takes
returns-in-Some-clause-takes g c =
    let e = c.in-Some.ensures in
    let first = stage_top c.args.levels _ _ c.args.top c.requires.got _ _ c.requires.zone c.requires.outside c.requires.empty c.insert.ensures.inserted in
    let last = e.stage c.requires.got.only first in
    (off_emptied c.args.levels _ _ _ e.kept last.outside e.epoch c.release_all.ensures.releases, barred_emptied c.args.levels _ _ _ c.in-Some.taken e.takes c.release_all.ensures.releases, c.release_all.ensures.empty.0)
