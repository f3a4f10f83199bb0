use Rattle.row_table.specs.Passes.{view_of}
use Rattle.tree_lock.proofs.Retries.{list_since, there_since, at_since, fresh_since, levels_since}
use Rattle.tree_lock.proofs.waiting.wait_child.Goals as goal

pub take_child-requires-clause-list : goal.take_child-requires-clause-list
take_child-requires-clause-list g c κs within = let i = c.loop.invariant in list_since _ (view_of c.loop.pass) i.found.0 i.found.1 _ c.loop.held.rows i.rows c.requires.list

pub take_child-requires-clause-there : goal.take_child-requires-clause-there
take_child-requires-clause-there g c κs within = let i = c.loop.invariant in there_since _ (view_of c.loop.pass) i.found.0 i.found.1 c.requires.there

pub take_child-requires-clause-at : goal.take_child-requires-clause-at
take_child-requires-clause-at g c κs within = let i = c.loop.invariant in at_since _ (view_of c.loop.pass) i.found.0 i.found.1 c.args.at.row c.args.at.place c.requires.at

pub take_child-requires-clause-fresh : goal.take_child-requires-clause-fresh
take_child-requires-clause-fresh g c κs within = let i = c.loop.invariant in fresh_since _ (view_of c.loop.pass) i.found.0 i.found.1 c.args.levels c.args.at.place c.args.index c.requires.fresh

pub take_child-requires-clause-levels : goal.take_child-requires-clause-levels
take_child-requires-clause-levels g c κs within = let i = c.loop.invariant in levels_since _ (view_of c.loop.pass) i.found.0 i.found.1 c.args.levels c.requires.levels
