use Rattle.plain_spaces.proofs.Listed.{start_listed, step_listed}
use Rattle.plain_spaces.proofs.pieces.list_moved.Goals as goal

pub loop-next-init : goal.loop-next-init
loop-next-init c = start_listed c.args.cells.now c.args.relocation c.requires.movable c.args.pieces.now.items c.requires.none

pub loop-next-preserved : goal.loop-next-preserved
loop-next-preserved c =
    step_listed c.args.cells.now c.args.relocation c.requires.movable c.loop-next.pieces.items c.loop-next.next c.loop-next.invariant c.stretch-count.result c.loop-next-test.true c.stretch-count.ensures
    c.joined.result c.joined.ensures c.push.new.self.items c.in_ok-push.ensures.items
