use Rattle.std.proofs.Common.{arith}
use Rattle.plain_spaces.specs.Swapping.{passes}
use Rattle.plain_spaces.proofs.Keys.{keys_few}
use Rattle.plain_spaces.proofs.swap.Move.lacking.Goals as goal

pub returns-then-count-free-clause-none : goal.returns-then-count-free-clause-none
returns-then-count-free-clause-none c =
    omega (arith, c.if-count-free.true, c.from-free.ensures, c.free.ensures, keys_few (passes c.args.self c.args.counts.now) c.args.cells.now c.args.first c.args.count)
