use Rattle.std.proofs.Common.{◌≡◌, subst}
use Rattle.page_map.specs.State.{State, is_present}
use Rattle.range_cursor.specs.Reach.{KnowsRoot}
use Rattle.mm_txn.specs.Machines.{model_of}
use Rattle.mm_txn.specs.Txns.{txn_of}
use Rattle.mm_txn.proofs.Ending.{has_origin}
use Rattle.mm_txn.proofs.Telling.{told_none, told_some}
use Rattle.mm_txn.proofs.txn.Txn.look.Goals as goal

pub returns-then-not-is_present : goal.returns-then-not-is_present
unfolding txn_of model_of
returns-then-not-is_present c b is learns =
    let first = has_origin c.args.self.now.machine.now.iron in let page = c.requires.page in
    told_none (txn_of c.args.self.now).held c.requires.is_open _ _ c.args.self.now.machine.now.fit first.0 first.1 page.0 page.1 b is learns c.args.page c.is_present.result
    (subst (λ n. (st : State) → KnowsRoot st n c.args.self.now.kit.1.rows → c.is_present.result ≡ is_present st n) c.number.ensures.value c.is_present.ensures) c.if-not-is_present.true

pub returns : goal.returns
unfolding txn_of model_of
returns c b is learns =
    let first = has_origin c.args.self.now.machine.now.iron in let page = c.requires.page in
    told_some (txn_of c.args.self.now).held c.requires.is_open _ _ c.args.self.now.machine.now.fit first.0 first.1 page.0 page.1 b is learns c.args.page c.is_present.result c.query.result
    (subst (λ n. (st : State) → KnowsRoot st n c.args.self.now.kit.1.rows → c.is_present.result ≡ is_present st n) c.number.ensures.value c.is_present.ensures) c.if-not-is_present.false c.query.ensures page.2 page.3
