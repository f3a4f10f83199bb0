-- A call that is one mapping operation: its steps, and what the machine keeps.
use Rattle.std.proofs.Common.{◌≡◌, ℕ, ◌+◌, ◌≤◌, Bool, true, false, List, [], ◌∷◌, Bor, refl, sym, ap, subst, ◌∙◌, arith}
use mathlib.Core.Bool.{true≢false}
use Rattle.std.specs.Prelude.{Option, Some, None, Result, IfOk, IfSome, is_some}
use Rattle.std.specs.declared.alloc.AllocError.{AllocError}
use Rattle.std.specs.Option.{option_copied, unwrap_or}
use Rattle.std.specs.FinMap as fin
use Rattle.std.specs.FinMap.{get}
use Rattle.corten_base.specs.declared.calls.Call.{Call}
use Rattle.corten_base.specs.declared.calls.Reply.{Reply}
use Rattle.corten_base.specs.declared.calls.Reply.TheVariants as reply
use Rattle.corten_base.specs.declared.calls.TxnOp.{TxnOp}
use Rattle.corten_base.specs.declared.calls.Why.{Why}
use Rattle.page_map.specs.Mapping.{is_right, refused_op, after_op}
use Rattle.page_map.specs.State.{State, AddressSpace, IsConsistent, levels, linked}
use Rattle.page_map.specs.Step.{refusal, step, reply_why}
use Rattle.page_map.specs.Tables.{Tables, need}
use Rattle.page_map.proofs.Steps.{accepted, refused}
use Rattle.page_map.proofs.StepKeeps.{step_keeps}
use Rattle.plain_counts.specs.declared.counts.Counts.{Counts}
use Rattle.plain_counts.specs.Counts.{Follow}
use Rattle.txn_plan.specs.Forgetting.{Forgets}
use Rattle.plain_spaces.specs.Wants.{refusal_of}
use Rattle.plain_spaces.specs.declared.access.Stop.{Stop}
use Rattle.plain_spaces.specs.declared.access.Stop.TheVariants.{Refused, NoMemory}
use Rattle.mm_model.specs.Lacking.{tables_lack}
use Rattle.mm_model.specs.Lacking.{stopped as stopped_by}
use Rattle.mm_model.specs.Operations.{IsFit, after_operation, wanted_by}
use Rattle.mm_model.specs.Plain.{IsSound}
use Rattle.mm_model.specs.Steps.{IsStepBeside}
use Rattle.mm_model.proofs.Kept.{stays_sound}
use Rattle.mm_model.proofs.OpSteps.{IsOp, answer_to, asking_for, decided, after_is, is_op, none_lacks, refused_wrong, refused_absent, refused_by}
use Rattle.mm_model.proofs.TxnSteps.{arenas_stay}

-- a range that is none
pub no_range : (b : Bool) → (b ≡ true → ◌≡◌ {A = Bool} false true) → b ≡ false
no_range false h = refl
no_range true h = absurd (true≢false (sym (h refl)))

-- what was lent of a value that may be absent
pub copied_there : {A : Type 0} (o : Option (Bor A)) → is_some (option_copied o) ≡ is_some o
copied_there None = refl
copied_there (Some x) = refl

pub not_there : {A : Type 0} (o : Option A) → is_some o ≡ false → o ≡ None
not_there None e = refl
not_there (Some x) e = absurd (true≢false e)

module _ (st : State) (c : Call) (space : ℕ) (o : TxnOp) (says : Reply) (is : IsOp st c space o says) (thread limbo : ℕ) where
  -- the operation is refused
  pub wrong : is_right (levels st) st.files o ≡ false → (reply.Einval, st) ≡ step st thread c limbo
  wrong e = sym (refused st thread c limbo reply.Einval (refused_wrong st c space o says is thread limbo e))

  pub absent : is_right (levels st) st.files o ≡ true → get st.spaces space ≡ None → (reply.NoSpace, st) ≡ step st thread c limbo
  absent right none = sym (refused st thread c limbo reply.NoSpace (refused_absent st c space o says is thread limbo right none))

  pub stopped : is_right (levels st) st.files o ≡ true → (cells : AddressSpace) → get st.spaces space ≡ Some cells → (w : Why) → refused_op o cells ≡ Some w → (reply_why w, st) ≡ step st thread c limbo
  stopped right cells here w e = sym (refused st thread c limbo (reply_why w) (refused_by st c space o says is thread limbo right cells here w e))

  module _ (fit : IsFit st space o) where
    pub lacking : (r : Reply) → tables_lack st (wanted_by st space o) limbo ≡ Some r → (r, st) ≡ step st thread c limbo
    lacking r e = sym (refused st thread c limbo r (decided st c space o says is thread limbo fit ∙ e))

    -- the operation is made
    pub operated : tables_lack st (wanted_by st space o) limbo ≡ None → (says, after_operation st space o) ≡ step st thread c limbo
    operated e =
        (λ i. (sym (is.answer_is thread) i, after_is st c space o says is thread i))
        ∙ sym (accepted st thread c limbo (decided st c space o says is thread limbo fit ∙ e))

-- what the machine keeps
module _ (st : State) (space : ℕ) (o : TxnOp) (fit : IsFit st space o) (few : linked st + need (wanted_by st space o) st.tables ≤ st.limits.tables) where
  pub operated_consistent : IsConsistent st → IsConsistent (after_operation st space o)
  operated_consistent ok =
      subst IsConsistent (sym (ap (λ p. p.1) (operated st (asking_for space o) space o (answer_to o) (is_op st space o) 0 0 fit (none_lacks st (wanted_by st space o) 0 (omega (arith, few))))))
      (step_keeps st 0 0 (asking_for space o) (omega arith) ok)

  pub operated_sound : (cells cells' : AddressSpace) (tables' : Tables) (counts counts' : Counts) (fronts fronts' : List ℕ) → IsSound st counts fronts → get st.spaces space ≡ Some cells → cells' ≡ after_op o cells →
      tables' ≡ (after_operation st space o).tables → Follow counts counts' cells cells' → Forgets (o ∷ []) space fronts fronts' → IsSound (record st { spaces = fin.insert st.spaces space cells'; tables = tables' }) counts' fronts'
  operated_sound cells cells' tables' counts counts' fronts fronts' sound here cells_are tables_are follow forgets =
      stays_sound st counts fronts sound space cells here cells' tables' counts' fronts' follow
      (subst IsConsistent (sym (λ i. record st { spaces = fin.insert st.spaces space ((cells_are ∙ ap (λ r. after_op o (unwrap_or r fin.empty)) (sym here)) i); tables = tables_are i })) (operated_consistent sound.state))
      (arenas_stay st space (o ∷ []) cells cells' tables' here cells_are fronts fronts' sound.full forgets)

-- The same of a state and a space under other names.
pub named : (st self : State) (view : st ≡ self) (n space : ℕ) (name : n ≡ space) (call_at : ℕ → Call) (r : Reply) (st' : State) →
    ((thread limbo : ℕ) → linked st + limbo ≤ st.limits.tables → (r, st') ≡ step st thread (call_at n) limbo) →
    (thread limbo : ℕ) → linked self + limbo ≤ self.limits.tables → (r, st') ≡ step self thread (call_at space) limbo
named st self view n space name call_at r st' h thread limbo legal =
    h thread limbo (subst (λ s. linked s + limbo ≤ s.limits.tables) (sym view) legal) ∙ (λ i. step (view i) thread (call_at (name i)) limbo)

pub named_beside : (limbo n space : ℕ) (name : n ≡ space) (call_at : ℕ → Call) (old new : State) (r : Reply) → IsStepBeside limbo old new (call_at n) r → IsStepBeside limbo old new (call_at space) r
named_beside limbo n space name call_at old new r h thread = h thread ∙ ap (λ n. step old thread (call_at n) limbo) name

-- a call that stops is refused with a reply, or wants memory
pub stopped_beside : (st : State) (limbo : ℕ) (c : Call) (stop : Stop) → IfSome (refusal_of stop) (λ r. (thread : ℕ) → refusal st thread c limbo ≡ Some r) → (outcome : Result Reply AllocError) → outcome ≡ stopped_by stop →
    IfOk outcome (IsStepBeside limbo st st c)
stopped_beside st limbo c stop h outcome is = subst (λ o. IfOk o (IsStepBeside limbo st st c)) (sym is) (go stop h)
  where
    go : (stop : Stop) → IfSome (refusal_of stop) (λ r. (thread : ℕ) → refusal st thread c limbo ≡ Some r) → IfOk (stopped_by stop) (IsStepBeside limbo st st c)
    go (Refused r) h = λ thread. sym (refused st thread c limbo r (h thread))
    go NoMemory h = tt

pub stopped_step : (st : State) (limbo : ℕ) (c : Call) (stop : Stop) (outcome : Result Reply AllocError) → outcome ≡ stopped_by stop → {P : Reply → Type 0} → IfSome (refusal_of stop) P →
    ((r : Reply) → P r → (thread : ℕ) → (r, st) ≡ step st thread c limbo) → IfOk outcome (IsStepBeside limbo st st c)
stopped_step st limbo c stop outcome is {P} h refuses = subst (λ o. IfOk o (IsStepBeside limbo st st c)) (sym is) (go stop h)
  where
    go : (stop : Stop) → IfSome (refusal_of stop) P → IfOk (stopped_by stop) (IsStepBeside limbo st st c)
    go (Refused r) h = refuses r h
    go NoMemory h = tt

-- the same of any fact on the reply
pub stopped_at : (stop : Stop) (outcome : Result Reply AllocError) → outcome ≡ stopped_by stop → {P Q : Reply → Type 0} → IfSome (refusal_of stop) P → ((r : Reply) → P r → Q r) → IfOk outcome Q
stopped_at stop outcome is {P} {Q} h refuses = subst (λ o. IfOk o Q) (sym is) (go stop h)
  where
    go : (stop : Stop) → IfSome (refusal_of stop) P → IfOk (stopped_by stop) Q
    go (Refused r) h = refuses r h
    go NoMemory h = tt
