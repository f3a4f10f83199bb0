use Rattle.row_table.specs.Passes.{view_of}
use Rattle.tree_lock.proofs.Looking.{looks_none, looks_link, may_be_below}
use Rattle.tree_lock.proofs.descent.go_on.Goals as goal

pub place_below-requires-clause-child : goal.place_below-requires-clause-child
place_below-requires-clause-child g c = may_be_below c.args.levels _ (view_of c.look-word.new.self) c.args.at c.args.index c.look-word.result c.requires.levels c.requires.stand c.look-word.ensures.looks c.in-Some.ensures.0

pub returns-in-Some-clause-looks : goal.returns-in-Some-clause-looks
returns-in-Some-clause-looks g c = looks_link c.args.levels _ _ c.args.at _ c.args.index c.look-word.result c.requires.levels c.requires.stand c.look-word.ensures.looks c.in-Some.ensures.0 c.in-Some.ensures.1 c.place_below.ensures c.in-Some.ensures.2

pub returns-in-None-clause-looks : goal.returns-in-None-clause-looks
returns-in-None-clause-looks g c = looks_none c.args.levels _ _ c.args.at c.args.index c.look-word.result c.requires.levels c.requires.stand c.look-word.ensures.looks c.in-None.ensures
