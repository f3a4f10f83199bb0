-- What a commit answers.
--     txn_call      the call that its entry has
--     Concludes      the pass has seen its own entry, or a full journal
--     IsFinished      the pass is given back, and knows the answer
use Rattle.std.specs.Prelude.{ℕ, Result, Ok, Err}
use Rattle.corten_base.specs.declared.calls.Call.{Call}
use Rattle.corten_base.specs.declared.calls.Call.TheVariants as call
use Rattle.book.specs.declared.commit.Answered.{Answered}
use Rattle.row_table.specs.Passes.{view_of}
use Rattle.call_steps.specs.Ready.{View}
use Rattle.call_steps.specs.Given.{IsSamePass, HasAnswered, IsFull}
use Rattle.mm_txn.specs.declared.committing.Stopped.{Stopped}
use Rattle.mm_txn.specs.declared.committing.Stopped.TheVariants as stopped
use Rattle.mm_txn.specs.Machines.{MachinePass}
use Rattle.mm_txn.specs.Txns.{TxnModel}
use Rattle.mm_txn.specs.Beginning.{IsBack}

abbrev pub txn_call : TxnModel → Call
txn_call t = call.Txn t.held.space t.held.at t.held.len t.ops

-- seen grows, by entries that end with its own at the place of the ticket, and mine by that place alone
abbrev pub Concludes : ℕ → Call → View → View → Result Answered Stopped → Type 0
Concludes thread c v w (Ok answered) = HasAnswered thread c v w answered
Concludes thread c v w (Err stopped.JournalFull) = IsFull v w
Concludes thread c v w (Err stopped.Worn) = ⊥

pub record IsFinished (t : TxnModel) (p : MachinePass) (outcome : Result Answered Stopped) : Type 0 where
  pub back : IsBack t.held.machine p
  pub same : IsSamePass (view_of t.held.pass) (view_of p)
  pub answer : Concludes (view_of t.held.pass).number (txn_call t) (view_of t.held.pass) (view_of p) outcome
