use Rattle.std.proofs.Common.{arith}
use Rattle.page_runs.proofs.Crowded.{no_longer}
use Rattle.page_runs.proofs.crowds.Crowd.start.Goals as goal

pub returns-then-self-count-clause-none : goal.returns-then-self-count-clause-none
returns-then-self-count-clause-none c m none start low high =
    no_longer m c.args.self.first c.args.self.end c.args.self.count c.args.count c.if-self-count.true none start (omega (arith, low, c.if-self-first.true)) (omega (arith, low, high, c.max.ensures))
