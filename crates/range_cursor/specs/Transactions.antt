-- What held rows tell of the operations of a transaction, each judged on what those before it leave.
--     is_txn      whether a call is a transaction
--     AnswersAfter      the least page of a range that has a cell after operations, or the least that has none
--     AnswersFresh      the same of a range that has to be empty
--     AnswersRefused      why an operation is refused after others
--     AnswersWhy      the same of one that has to keep to a range
--     AnswersFirst      the first operation that is refused
--     AnswersUndone      the refusal of a transaction for it
use Rattle.std.specs.Prelude.{◌≡◌, ℕ, Bool, true, false, cond, List, is_some, Option, None}
use Rattle.std.specs.Option.{option_map}
use Rattle.std.specs.FinMap.{get}
use Rattle.corten_base.specs.declared.calls.Call.{Call}
use Rattle.corten_base.specs.declared.calls.Call.TheVariants as call
use Rattle.corten_base.specs.declared.calls.Reply.{Reply}
use Rattle.corten_base.specs.declared.calls.Reply.TheVariants as reply
use Rattle.corten_base.specs.declared.calls.TxnOp.{TxnOp}
use Rattle.corten_base.specs.declared.calls.Why.{Why}
use Rattle.page_map.specs.Change.{least}
use Rattle.page_map.specs.Mapping.{op_first, op_pages, after_ops, is_right_within, refused_op, why_undone, undone}
use Rattle.page_map.specs.State.{State, space_at}
use Rattle.machine_plan.specs.HeldRows.{Row, RowsShown, AreAsked}
use Rattle.txn_plan.specs.Covers.{is_as}

abbrev pub is_txn : Call → Bool
is_txn (call.Txn space at len ops) = true
is_txn _ = false

-- They are asked of rows whose state is known later.
abbrev pub AnswersAfter : List Row → List TxnOp → Bool → ℕ → ℕ → Option ℕ → Type 0
AnswersAfter rows done present first count answer = (space : ℕ) (st : State) → AreAsked space rows first count → RowsShown st rows
    → answer ≡ least first count (λ page. is_as present (is_some (get (after_ops done (space_at st space)) page)))

abbrev pub AnswersFresh : List Row → List TxnOp → Bool → ℕ → ℕ → Option ℕ → Type 0
AnswersFresh rows done fresh first count answer = (space : ℕ) (st : State) → AreAsked space rows first count → RowsShown st rows
    → answer ≡ cond fresh (least first count (λ page. is_some (get (after_ops done (space_at st space)) page))) None

abbrev pub AnswersRefused : List Row → List TxnOp → TxnOp → Option Why → Type 0
AnswersRefused rows done o answer = (space : ℕ) (st : State) → AreAsked space rows (op_first o) (op_pages o) → RowsShown st rows → answer ≡ refused_op o (after_ops done (space_at st space))

abbrev pub AnswersWhy : List Row → ℕ → List (List ℕ) → ℕ → ℕ → List TxnOp → TxnOp → Option Why → Type 0
AnswersWhy rows levels files first count done o answer = (space : ℕ) (st : State) → AreAsked space rows first count → RowsShown st rows
    → answer ≡ why_undone (is_right_within levels files first count) o (after_ops done (space_at st space))

abbrev pub AnswersFirst : List Row → ℕ → List (List ℕ) → ℕ → ℕ → List TxnOp → Option (ℕ × Why) → Type 0
AnswersFirst rows levels files first count ops answer = (space : ℕ) (st : State) → AreAsked space rows first count → RowsShown st rows
    → answer ≡ undone (is_right_within levels files first count) 1 ops (space_at st space)

abbrev pub AnswersUndone : List Row → ℕ → List (List ℕ) → ℕ → ℕ → List TxnOp → Option Reply → Type 0
AnswersUndone rows levels files first count ops answer = (space : ℕ) (st : State) → AreAsked space rows first count → RowsShown st rows
    → answer ≡ option_map (λ (u : ℕ × Why). reply.Undone u.0 u.1) (undone (is_right_within levels files first count) 1 ops (space_at st space))
