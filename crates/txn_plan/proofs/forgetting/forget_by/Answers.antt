use Rattle.std.proofs.Common.{ap}
use Rattle.std.specs.Prelude.{◌||◌, false}
use Rattle.txn_plan.specs.Forgetting.{unmaps}
use Rattle.txn_plan.proofs.Unmapping.{nothing_forgotten, one_forgotten}
use Rattle.txn_plan.proofs.forgetting.forget_by.Goals as goal

pub returns-in-Map : goal.returns-in-Map
returns-in-Map c = nothing_forgotten _ c.args.space c.args.fronts.now (λ page. ap (λ o. unmaps page o || false) c.in-Map.is)

pub returns-in-Unmap : goal.returns-in-Unmap
returns-in-Unmap c = one_forgotten c.args.op.now c.in-Unmap.at c.in-Unmap.len c.args.space _ _ _ _ c.in-Unmap.is c.first_page.ensures.page c.page_count.ensures.count c.forget.ensures.here c.forget.ensures.others

pub returns-in-Protect : goal.returns-in-Protect
returns-in-Protect c = nothing_forgotten _ c.args.space c.args.fronts.now (λ page. ap (λ o. unmaps page o || false) c.in-Protect.is)
