use Rattle.corten_base.specs.Bytes.{zeros}
use Rattle.frame_pool.proofs.Pool.take.Goals as goal

pub returns-clause-taken : goal.returns-clause-taken
unfolding zeros
returns-clause-taken c = rw (← c.self.view_is) c.in_ok-page.ensures.taken
