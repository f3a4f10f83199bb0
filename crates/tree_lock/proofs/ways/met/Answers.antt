use Rattle.tree_lock.proofs.Meeting.{not_above, prefix_small, pages_small, met_placed, met_root, met_inside, met_all, met_whole}
use Rattle.tree_lock.proofs.ways.met.Goals as goal

pub returns-else-place-levels-clause-inside : goal.returns-else-place-levels-clause-inside
returns-else-place-levels-clause-inside c = met_whole c.args.levels c.requires.levels _ _ _ c.in-Space.is c.requires.met (not_above c.args.levels c.requires.levels c.args.place c.if-place-levels.false)

pub met_by_pages-requires-clause-few : goal.met_by_pages-requires-clause-few
met_by_pages-requires-clause-few c = pages_small c.args.levels c.requires.levels _ _ _ _ _ c.in-Pages.is c.requires.zone

pub met_by_pages-requires-clause-prefix : goal.met_by_pages-requires-clause-prefix
met_by_pages-requires-clause-prefix c = prefix_small c.args.levels c.args.place (met_placed c.args.levels c.requires.levels _ c.args.place c.requires.met c.if-place-levels-2.false)

pub returns-then-place-levels-2-clause-inside : goal.returns-then-place-levels-2-clause-inside
returns-then-place-levels-2-clause-inside c = met_root c.args.levels c.requires.levels _ c.args.place _ _ _ _ _ _ c.in-Pages.is c.requires.zone c.requires.met c.if-place-levels-2.true c.met_by_space-then-place-levels-2.ensures.0 c.met_by_space-then-place-levels-2.ensures.1

pub returns-else-place-levels-2-clause-inside : goal.returns-else-place-levels-2-clause-inside
returns-else-place-levels-2-clause-inside c = met_inside c.args.levels c.requires.levels _ _ _ _ _ _ _ _ c.in-Pages.is c.requires.zone c.requires.met (not_above c.args.levels c.requires.levels c.args.place c.if-place-levels-2.false) c.met_by_pages.ensures

pub returns-else-place-levels-2-clause-all : goal.returns-else-place-levels-2-clause-all
returns-else-place-levels-2-clause-all c = met_all c.args.levels c.requires.levels _ _ _ _ _ _ _ _ c.in-Pages.is c.requires.met (not_above c.args.levels c.requires.levels c.args.place c.if-place-levels-2.false) c.met_by_pages.ensures
