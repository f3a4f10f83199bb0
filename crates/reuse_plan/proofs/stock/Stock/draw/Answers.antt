use Rattle.reuse_plan.proofs.Stocked.{stocked_without}
use Rattle.reuse_plan.proofs.stock.Stock.draw.Goals as goal

pub invariant_of-self-2 : goal.invariant_of-self-2
invariant_of-self-2 c = stocked_without c.self.inside.rows c.self.inside.free c.take.new.self c.in_ok-row.row c.self.inside.limbo c.self.invariant c.in_ok-row.ensures.after
