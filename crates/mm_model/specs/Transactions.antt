-- Transactions that nothing refuses.
--     MayCommit      whether operations may be made in a space
--     AreLackedByAll      a list of the missing tables that the ranges of operations cut
--     after_commit      the state after them
use Rattle.std.specs.Prelude.{ℕ, List}
use Rattle.std.specs.List.{flat_map}
use Rattle.std.specs.FinMap as map
use Rattle.std.specs.FinSet as set
use Rattle.corten_base.specs.declared.calls.Call.TheVariants as call
use Rattle.corten_base.specs.declared.calls.TxnOp.{TxnOp}
use Rattle.table_place.specs.declared.Place.{Place}
use Rattle.page_map.specs.Effect.{cut_by_op}
use Rattle.page_map.specs.Mapping.{after_ops}
use Rattle.page_map.specs.State.{State, space_at}
use Rattle.page_map.specs.Tables.{missing}
use Rattle.plain_counts.specs.Levels.{Lists}
use Rattle.mm_model.specs.Steps.{PassesBeside}

-- nothing refuses the transaction, in some range, whichever thread makes it
pub record MayCommit (st : State) (space : ℕ) (ops : List TxnOp) : Type 0 where
  pub at : ℕ
  pub len : ℕ
  pub limbo : ℕ
  pub passes : PassesBeside limbo st (call.Txn space at len ops)

abbrev pub AreLackedByAll : State → ℕ → List TxnOp → List Place → Type 0
AreLackedByAll st space ops places = Lists (missing (flat_map (cut_by_op st space) ops) st.tables) places

abbrev pub after_commit : State → ℕ → List TxnOp → State
after_commit st space ops = record st {
  spaces = map.insert st.spaces space (after_ops ops (space_at st space));
  tables = set.union st.tables (set.from_list (flat_map (cut_by_op st space) ops));
}
