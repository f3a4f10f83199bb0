use Rattle.cursor_apply.proofs.TxnSteps.{txn_steps}
use Rattle.cursor_apply.proofs.transacting.the_changes_of_a_transaction_lead_to_its_state.Goals as goal

pub returns : goal.returns
returns c = txn_steps
