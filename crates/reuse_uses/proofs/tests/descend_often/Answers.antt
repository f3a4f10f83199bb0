use Rattle.reuse_uses.proofs.tests.descend_often.Goals as goal

pub loop-init : goal.loop-init
loop-init c = (c.requires.table, c.requires.idle)

pub look_down-requires-clause-table : goal.look_down-requires-clause-table
look_down-requires-clause-table c = c.loop.invariant.0

pub look_down-requires-clause-idle : goal.look_down-requires-clause-idle
look_down-requires-clause-idle c = c.loop.invariant.1

pub loop-preserved : goal.loop-preserved
loop-preserved c = let e = c.in_ok-pass.ensures in (e.0, e.1)

pub returns : goal.returns
returns c = c.loop.invariant
