use Rattle.std.proofs.Common.{[], sym, ap}
use Rattle.page_map.proofs.Growth.{all_stay}
use Rattle.mm_model.specs.Operations.{given_up_by}
use Rattle.mm_model.proofs.operating.give_up.Goals as goal

pub returns-in-Map : goal.returns-in-Map
returns-in-Map c = sym (all_stay (given_up_by c.args.levels c.args.space c.args.op.now) (λ p. ap (λ o. given_up_by c.args.levels c.args.space o p) c.in-Map.is) [] c.args.tables.now)

pub returns-in-Protect : goal.returns-in-Protect
returns-in-Protect c = sym (all_stay (given_up_by c.args.levels c.args.space c.args.op.now) (λ p. ap (λ o. given_up_by c.args.levels c.args.space o p) c.in-Protect.is) [] c.args.tables.now)
