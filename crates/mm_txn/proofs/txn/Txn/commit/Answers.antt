use Rattle.std.proofs.Common.{◌∙◌}
use Rattle.row_table.specs.Passes.{view_of, iron_model}
use Rattle.mm_txn.specs.Machines.{model_of}
use Rattle.mm_txn.specs.Txns.{txn_of}
use Rattle.mm_txn.proofs.Committed.{covers, finished}
use Rattle.mm_txn.proofs.txn.Txn.commit.Goals as goal

pub answer_transaction-outcome-requires-clause-covered : goal.answer_transaction-outcome-requires-clause-covered
unfolding txn_of model_of iron_model
answer_transaction-outcome-requires-clause-covered g c = covers (txn_of c.args.self) c.requires c.args.self.machine.now.iron.sizes

pub put_kit-requires-after_bounds : goal.put_kit-requires-after_bounds
unfolding txn_of
put_kit-requires-after_bounds g c κs = c.answer_transaction-outcome.ensures.same ∙ c.requires.no_kit

pub returns : goal.returns
unfolding txn_of
returns g c =
    let a = c.answer_transaction-outcome.ensures in
    let f = c.forget_plan.ensures in
    finished (txn_of c.args.self) c.requires c.answer_transaction-outcome.new.pass c.put_kit.new.self c.forget_plan.new.kit c.answer_transaction-outcome.new.held c.concluded.result
    a.table a.list f.room f.ungranted f.idle f.unplanned a.idle a.pass (c.concluded.ensures _ _ _ _ a.outcome) c.put_kit.ensures.kit c.put_kit.ensures.same
