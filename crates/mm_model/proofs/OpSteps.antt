-- The step of a call that is one mapping operation.
use Rattle.std.proofs.Common.{◌≡◌, ℕ, ◌+◌, ◌≤◌, Bool, true, false, cond, List, [], ◌∷◌, length, refl, sym, ap, ◌∙◌, arith}
use Rattle.std.specs.Prelude.{Option, Some, None, is_some, nat_lt}
use Rattle.std.specs.Option.{option_or, option_map, unwrap_or}
use Rattle.std.proofs.lemmas.Bool.{le-ltb, ltb-false}
use Rattle.std.specs.FinMap as fin
use Rattle.std.specs.FinMap.{get}
use Rattle.corten_base.specs.declared.calls.Call.{Call}
use Rattle.corten_base.specs.declared.calls.Call.TheVariants as call
use Rattle.corten_base.specs.declared.calls.MapPlace.TheVariants as place
use Rattle.corten_base.specs.declared.calls.Reply.{Reply}
use Rattle.corten_base.specs.declared.calls.Reply.TheVariants as reply
use Rattle.corten_base.specs.declared.calls.TxnOp.{TxnOp}
use Rattle.corten_base.specs.declared.calls.TxnOp.TheVariants as op
use Rattle.corten_base.specs.declared.calls.Why.{Why}
use Rattle.table_place.specs.declared.Place.{Place}
use Rattle.page_map.specs.Mapping.{is_right, refused_op, after_op}
use Rattle.page_map.specs.State.{State, AddressSpace, levels, linked, is_present, space_at, unused_frames, unused_slots}
use Rattle.page_map.specs.Tables.{changed_tables, need}
use Rattle.page_map.specs.Effect.{wanting_frames_of, wanting_slots_of, wanted_tables, is_given_up, spaces_after, state_after, answer}
use Rattle.page_map.specs.Step.{refusal, first_refusal, refused_unless, reply_why, arguments, no_space, no_spaces, no_place, pages, no_tables}
use Rattle.page_map.proofs.Steps.{not_none}
use Rattle.mm_model.specs.Lacking.{tables_lack}
use Rattle.mm_model.specs.Operations.{IsFit, after_operation, given_up_by, wanted_by}

-- what the definitions say of a call that is this operation in this space
pub record IsOp (st : State) (c : Call) (space : ℕ) (o : TxnOp) (says : Reply) : Type 0 where
  pub arguments_are : arguments st c ≡ refused_unless (is_right (levels st) st.files o) reply.Einval
  pub space_is : no_space st c ≡ refused_unless (is_present st space) reply.NoSpace
  pub no_new : no_spaces st c ≡ None
  pub op_is : (thread : ℕ) → option_or (no_place st thread c) (pages st c) ≡ option_map reply_why (refused_op o (space_at st space))
  pub wanted_are : (thread : ℕ) → wanted_tables st thread c ≡ wanted_by st space o
  pub given_up_are : (p : Place) → is_given_up st c p ≡ given_up_by (levels st) space o p
  pub no_frames_wanted : wanting_frames_of st c ≡ []
  pub no_slots_wanted : wanting_slots_of st c ≡ []
  pub spaces_are : (thread : ℕ) → spaces_after st thread c ≡ fin.insert st.spaces space (after_op o (space_at st space))
  pub answer_is : (thread : ℕ) → answer st thread c ≡ says

or_none : {A : Type 0} (o : Option A) → option_or o None ≡ o
or_none None = refl
or_none (Some x) = refl

-- the call that asks for an operation alone, and its answer
abbrev pub asking_for : ℕ → TxnOp → Call
asking_for space (op.Map at false len perm what) = call.Map space (place.At at) len perm what
asking_for space (op.Map at true len perm what) = call.Map space (place.New at) len perm what
asking_for space (op.Unmap at len) = call.Unmap space at len
asking_for space (op.Protect at len perm) = call.Protect space at len perm

abbrev pub answer_to : TxnOp → Reply
answer_to (op.Map at fresh len perm what) = reply.At at
answer_to (op.Unmap at len) = reply.Ok
answer_to (op.Protect at len perm) = reply.Ok

pub is_op : (st : State) (space : ℕ) (o : TxnOp) → IsOp st (asking_for space o) space o (answer_to o)
unfolding answer
is_op st space (op.Map at false len perm what) = record {
  arguments_are = refl;
  space_is = refl;
  no_new = refl;
  op_is = λ _. refl;
  wanted_are = λ _. refl;
  given_up_are = λ _. refl;
  no_frames_wanted = refl;
  no_slots_wanted = refl;
  spaces_are = λ _. refl;
  answer_is = λ _. refl;
}
is_op st space (op.Map at true len perm what) = record {
  arguments_are = refl;
  space_is = refl;
  no_new = refl;
  op_is = λ _. or_none (option_map reply_why (refused_op (op.Map at true len perm what) (space_at st space)));
  wanted_are = λ _. refl;
  given_up_are = λ _. refl;
  no_frames_wanted = refl;
  no_slots_wanted = refl;
  spaces_are = λ _. refl;
  answer_is = λ _. refl;
}
is_op st space (op.Unmap at len) = record {
  arguments_are = refl;
  space_is = refl;
  no_new = refl;
  op_is = λ _. refl;
  wanted_are = λ _. refl;
  given_up_are = λ _. refl;
  no_frames_wanted = refl;
  no_slots_wanted = refl;
  spaces_are = λ _. refl;
  answer_is = λ _. refl;
}
is_op st space (op.Protect at len perm) = record {
  arguments_are = refl;
  space_is = refl;
  no_new = refl;
  op_is = λ _. refl;
  wanted_are = λ _. refl;
  given_up_are = λ _. refl;
  no_frames_wanted = refl;
  no_slots_wanted = refl;
  spaces_are = λ _. refl;
  answer_is = λ _. refl;
}

nothing_short : (free : ℕ) (l : List ℕ) (r : ℕ → Reply) → l ≡ [] → cond (nat_lt free (length l)) (Some (r (length l))) None ≡ None
nothing_short free l r e = ap (λ l. cond (nat_lt free (length l)) (Some (r (length l))) None) e ∙ ap (λ b. cond b (Some (r 0)) None) (le-ltb free 0 (omega arith))

-- there are as many tables as are wanted
pub enough : (st : State) (wanted : List Place) (limbo : ℕ) → tables_lack st wanted limbo ≡ None → linked st + need wanted st.tables + limbo ≤ st.limits.tables
enough st wanted limbo h = ltb-false st.limits.tables (linked st + need wanted st.tables + limbo) (go (nat_lt st.limits.tables (linked st + need wanted st.tables + limbo)) h)
  where
    go : (b : Bool) → ◌≡◌ {A = Option Reply} (cond b (Some (reply.NoTables (linked st) limbo (need wanted st.tables))) None) None → b ≡ false
    go false e = refl
    go true e = absurd (not_none e)

-- and none lacks
pub none_lacks : (st : State) (wanted : List Place) (limbo : ℕ) → linked st + need wanted st.tables + limbo ≤ st.limits.tables → tables_lack st wanted limbo ≡ None
none_lacks st wanted limbo h = ap (λ b. cond b (Some (reply.NoTables (linked st) limbo (need wanted st.tables))) None) (le-ltb _ _ h)

or_assoc : {A : Type 0} (a b c : Option A) → option_or a (option_or b c) ≡ option_or (option_or a b) c
or_assoc None b c = refl
or_assoc (Some x) b c = refl

module _ (st : State) (c : Call) (space : ℕ) (o : TxnOp) (says : Reply) (is : IsOp st c space o says) where
  abbrev tables_short : ℕ → Option Reply
  tables_short limbo = tables_lack st (wanted_by st space o) limbo

  module _ (thread limbo : ℕ) where
    tables_are : no_tables st thread c limbo ≡ tables_short limbo
    tables_are = ap (λ ps. tables_lack st ps limbo) (is.wanted_are thread)

    abbrev by_op : Option Reply
    by_op = option_map reply_why (refused_op o (space_at st space))

    refusal_is : refusal st thread c limbo
        ≡ option_or (refused_unless (is_right (levels st) st.files o) reply.Einval) (option_or (refused_unless (is_present st space) reply.NoSpace) (option_or by_op (tables_short limbo)))
    unfolding refusal
    refusal_is =
        (λ i. first_refusal (is.arguments_are i ∷ is.space_is i ∷ is.no_new i ∷ no_place st thread c ∷ pages st c ∷ tables_are i
        ∷ nothing_short (length (unused_frames st)) (wanting_frames_of st c) (reply.NoFrames (length (unused_frames st))) is.no_frames_wanted i
        ∷ nothing_short (length (unused_slots st)) (wanting_slots_of st c) (reply.NoSwap (length (unused_slots st))) is.no_slots_wanted i ∷ []))
        ∙ ap (λ r. option_or (refused_unless (is_right (levels st) st.files o) reply.Einval) (option_or (refused_unless (is_present st space) reply.NoSpace) r))
        (ap (λ r. option_or (no_place st thread c) (option_or (pages st c) r)) (or_none (tables_short limbo))
        ∙ or_assoc (no_place st thread c) (pages st c) (tables_short limbo)
        ∙ ap (λ r. option_or r (tables_short limbo)) (is.op_is thread))

    pub refused_wrong : is_right (levels st) st.files o ≡ false → refusal st thread c limbo ≡ Some reply.Einval
    refused_wrong e = refusal_is ∙ ap (λ b. option_or (refused_unless b reply.Einval) (option_or (refused_unless (is_present st space) reply.NoSpace) (option_or by_op (tables_short limbo)))) e

    module _ (right : is_right (levels st) st.files o ≡ true) where
      pub refused_absent : get st.spaces space ≡ None → refusal st thread c limbo ≡ Some reply.NoSpace
      refused_absent e = refusal_is ∙ (λ i. option_or (refused_unless (right i) reply.Einval) (option_or (refused_unless (is_some (e i)) reply.NoSpace) (option_or by_op (tables_short limbo))))

      pub refused_by : (cells : AddressSpace) → get st.spaces space ≡ Some cells → (w : Why) → refused_op o cells ≡ Some w → refusal st thread c limbo ≡ Some (reply_why w)
      refused_by cells here w e =
          refusal_is
          ∙ (λ i. option_or (refused_unless (right i) reply.Einval) (option_or (refused_unless (is_some (here i)) reply.NoSpace) (option_or (option_map reply_why (refused_op o (unwrap_or (here i) fin.empty))) (tables_short limbo))))
          ∙ ap (λ r. option_or (option_map reply_why r) (tables_short limbo)) e

    module _ (fit : IsFit st space o) where
      pub decided : refusal st thread c limbo ≡ tables_short limbo
      decided = refusal_is
          ∙ (λ i. option_or (refused_unless (fit.right i) reply.Einval) (option_or (refused_unless (fit.present i) reply.NoSpace) (option_or (option_map reply_why (fit.allowed i)) (tables_short limbo))))

  -- what an accepted call leaves
  pub after_is : (thread : ℕ) → after_operation st space o ≡ state_after st thread c
  unfolding state_after
  after_is thread = sym (λ i. record st {
    spaces = is.spaces_are thread i;
    tables = changed_tables (λ p. is.given_up_are p i) (is.wanted_are thread i) st.tables;
  })
