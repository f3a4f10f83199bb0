-- The step of a transaction.
use Rattle.std.proofs.Common.{◌≡◌, ℕ, ◌+◌, ◌/◌, ◌^◌, ◌<◌, ◌≤◌, Bool, true, false, cond, List, [], ◌∷◌, length, refl, sym, ap, subst, ◌∙◌, arith}
use Rattle.std.specs.Prelude.{Option, Some, None, is_some, nat_eq, nat_lt, IsSome}
use Rattle.std.specs.List.{All, flat_map}
use Rattle.std.specs.Option.{option_or, option_map, unwrap_or}
use Rattle.std.proofs.lemmas.Bool.{le-ltb, eqb-true, eqb-false}
use Rattle.std.specs.FinMap as fin
use Rattle.std.specs.FinMap.{get}
use Rattle.std.specs.FinSet as set
use Rattle.corten_base.specs.declared.calls.Call.{Call}
use Rattle.corten_base.specs.declared.calls.Call.TheVariants as call
use Rattle.corten_base.specs.declared.calls.Reply.{Reply}
use Rattle.corten_base.specs.declared.calls.Reply.TheVariants as reply
use Rattle.corten_base.specs.declared.calls.TxnOp.{TxnOp}
use Rattle.corten_base.specs.declared.calls.Why.{Why}
use Rattle.table_place.specs.declared.Place.{Place}
use Rattle.table_place.specs.Place.{is_page_range, pages_of}
use Rattle.page_map.specs.Mapping.{is_right_within, undone, op_pages, after_ops}
use Rattle.page_map.specs.State.{State, AddressSpace, IsConsistent, levels, is_present, space_at, unused_frames, unused_slots}
use Rattle.page_map.specs.Tables.{Tables}
use Rattle.page_map.specs.Effect.{cut_by_op, state_after, answer}
use Rattle.page_map.specs.Step.{step, refusal, first_refusal, refused_unless}
use Rattle.page_map.proofs.Cells.{spaces_changed}
use Rattle.page_map.proofs.Growth.{all_stay}
use Rattle.page_map.proofs.Steps.{not_none, accepted, Passed, passed}
use Rattle.page_map.proofs.StepKeeps.{step_keeps}
use Rattle.plain_counts.specs.Fronts.{AreFull, IsFull, full_pages}
use Rattle.plain_counts.specs.declared.counts.Counts.{Counts}
use Rattle.plain_counts.specs.Counts.{Follow}
use Rattle.txn_plan.specs.Changes.{first_index}
use Rattle.txn_plan.specs.Forgetting.{Forgets}
use Rattle.txn_plan.specs.Needs.{IsInSpan}
use Rattle.txn_plan.proofs.Rights.{all_in_span, all_fit}
use Rattle.txn_plan.proofs.Unmapping.{stays}
use Rattle.mm_model.specs.Lacking.{tables_lack}
use Rattle.mm_model.specs.Plain.{IsSound}
use Rattle.mm_model.specs.Transactions.{MayCommit, after_commit}
use Rattle.mm_model.proofs.Kept.{stays_sound}

nothing_short : (free : ℕ) (r : Reply) → ◌≡◌ {A = Option Reply} (cond (nat_lt free 0) (Some r) None) None
nothing_short free r = ap (λ b. cond b (Some r) None) (le-ltb free 0 (omega arith))

-- the arenas stay full as far as is still known
module _ (st : State) (space : ℕ) (ops : List TxnOp) (cells cells' : AddressSpace) (tables' : Tables) (here : get st.spaces space ≡ Some cells) (cells_are : cells' ≡ after_ops ops cells)
    (fronts fronts' : List ℕ) (full : AreFull st fronts) (forgets : Forgets ops space fronts fronts') where
  abbrev next_state : State
  next_state = record st { spaces = fin.insert st.spaces space cells'; tables = tables' }

  next_at : (s : ℕ) (b : Bool) → nat_eq s space ≡ b → space_at next_state s ≡ cond b cells' (space_at st s)
  next_at s b e = spaces_changed st space cells' tables' s ∙ ap (λ b. cond b cells' (space_at st s)) e

  still : (s t : ℕ) → s < 64 → t < 8 → s ≡ space → IsFull cells' t (full_pages fronts' space t)
  still s t small few same =
      let was : IsFull cells t (full_pages fronts space t) = subst (λ m. IsFull m t (full_pages fronts space t)) (ap (λ o. unwrap_or o fin.empty) here) (full space t (subst (λ n. n < 64) same small) few) in
      record {
        within = omega (arith, was.within, forgets.fewer t few);
        cells_there = λ q low high.
            subst (λ m. IsSome (get m q)) (sym cells_are) (stays ops cells q (forgets.apart t q few low high) (was.cells_there q low (omega (arith, high, forgets.fewer t few))));
      }

  pub arenas_stay : AreFull next_state fronts'
  arenas_stay s t small few = go (nat_eq s space) refl
    where
      go : (b : Bool) → nat_eq s space ≡ b → IsFull (space_at next_state s) t (full_pages fronts' s t)
      go true e =
          let same = eqb-true s space e in
          subst (λ m. IsFull m t (full_pages fronts' s t)) (sym (next_at s true e)) (subst (λ n. IsFull cells' t (full_pages fronts' n t)) (sym same) (still s t small few same))
      go false e =
          subst (λ m. IsFull m t (full_pages fronts' s t)) (sym (next_at s false e)) (subst (IsFull (space_at st s) t) (sym (forgets.others s t (eqb-false s space e) few)) (full s t small few))

module _ (st : State) (space at len : ℕ) (ops : List TxnOp) where
  abbrev txn : Call
  txn = call.Txn space at len ops

  abbrev wanted : List Place
  wanted = flat_map (cut_by_op st space) ops

  abbrev judged : AddressSpace → Option (ℕ × Why)
  judged cells = undone (is_right_within (levels st) st.files (at / 4096) (pages_of len)) 1 ops cells

  abbrev says : Option (ℕ × Why) → Option Reply
  says u = option_map (λ (u : ℕ × Why). reply.Undone u.0 u.1) u

  module _ (thread limbo : ℕ) where
    refusal_is : refusal st thread txn limbo
        ≡ option_or (refused_unless (is_page_range (levels st) at len) reply.Einval) (option_or (refused_unless (is_present st space) reply.NoSpace) (option_or (says (judged (space_at st space))) (tables_lack st wanted limbo)))
    unfolding refusal
    refusal_is =
        (λ i. first_refusal (refused_unless (is_page_range (levels st) at len) reply.Einval ∷ refused_unless (is_present st space) reply.NoSpace ∷ None ∷ None ∷ says (judged (space_at st space)) ∷ tables_lack st wanted limbo
        ∷ nothing_short (length (unused_frames st)) (reply.NoFrames (length (unused_frames st)) 0) i ∷ nothing_short (length (unused_slots st)) (reply.NoSwap (length (unused_slots st)) 0) i ∷ []))
        ∙ ap (λ r. option_or (refused_unless (is_page_range (levels st) at len) reply.Einval) (option_or (refused_unless (is_present st space) reply.NoSpace) (option_or (says (judged (space_at st space))) r))) (or_none (tables_lack st wanted limbo))
      where
        or_none : (o : Option Reply) → option_or o None ≡ o
        or_none None = refl
        or_none (Some x) = refl

    pub wrong : is_page_range (levels st) at len ≡ false → Some reply.Einval ≡ refusal st thread txn limbo
    wrong e = sym (refusal_is ∙ ap (λ b. option_or (refused_unless b reply.Einval) (option_or (refused_unless (is_present st space) reply.NoSpace) (option_or (says (judged (space_at st space))) (tables_lack st wanted limbo)))) e)

    module _ (right : is_page_range (levels st) at len ≡ true) where
      pub absent : get st.spaces space ≡ None → Some reply.NoSpace ≡ refusal st thread txn limbo
      absent e = sym (refusal_is ∙ (λ i. option_or (refused_unless (right i) reply.Einval) (option_or (refused_unless (is_some (e i)) reply.NoSpace) (option_or (says (judged (space_at st space))) (tables_lack st wanted limbo)))))

      module _ (cells : AddressSpace) (here : get st.spaces space ≡ Some cells) where
        decided : refusal st thread txn limbo ≡ option_or (says (judged cells)) (tables_lack st wanted limbo)
        decided = refusal_is ∙ (λ i. option_or (refused_unless (right i) reply.Einval) (option_or (refused_unless (is_some (here i)) reply.NoSpace) (option_or (says (judged (unwrap_or (here i) fin.empty))) (tables_lack st wanted limbo))))

        pub stopped : (k : ℕ) (w : Why) → Some (k, w) ≡ judged cells → Some (reply.Undone k w) ≡ refusal st thread txn limbo
        stopped k w e = sym (decided ∙ ap (λ u. option_or (says u) (tables_lack st wanted limbo)) (sym e))

        pub by_tables : None ≡ judged cells → tables_lack st wanted limbo ≡ refusal st thread txn limbo
        by_tables e = sym (decided ∙ ap (λ u. option_or (says u) (tables_lack st wanted limbo)) (sym e))

module _ (st : State) (space : ℕ) (ops : List TxnOp) (may : MayCommit st space ops) where
  abbrev this : Call
  this = call.Txn space may.at may.len ops

  all_passed : Passed st 0 this may.limbo
  all_passed = passed st 0 this may.limbo (may.passes 0)

  abbrev range_first : ℕ
  range_first = may.at / 4096

  none_undone_at : undone (is_right_within (levels st) st.files range_first (pages_of may.len)) 1 ops (space_at st space) ≡ None
  none_undone_at = unsaid (undone (is_right_within (levels st) st.files range_first (pages_of may.len)) 1 ops (space_at st space)) all_passed.pages
    where
      unsaid : (u : Option (ℕ × Why)) → ◌≡◌ {A = Option Reply} (option_map (λ (u : ℕ × Why). reply.Undone u.0 u.1) u) None → u ≡ None
      unsaid None e = refl
      unsaid (Some u) e = absurd (not_none e)

  pub may_span : levels st ≤ 5 → All IsInSpan ops
  may_span few = all_in_span (levels st) st.files few range_first (pages_of may.len) ops (space_at st space) none_undone_at

  pub may_fit : levels st ≤ 5 → All (λ o. first_index o + op_pages o < 2 ^ 64) ops
  may_fit few = all_fit (levels st) st.files few range_first (pages_of may.len) ops (space_at st space) none_undone_at

  pub may_present : IsSome (get st.spaces space)
  may_present = go (get st.spaces space) all_passed.space
    where
      go : (o : Option AddressSpace) → ◌≡◌ {A = Option Reply} (refused_unless (is_some o) reply.NoSpace) None → IsSome o
      go (Some c) e = refl
      go None e = absurd (not_none e)

  after_is : (thread : ℕ) → after_commit st space ops ≡ state_after st thread this
  unfolding state_after
  after_is thread = λ i. record st {
    spaces = fin.insert st.spaces space (after_ops ops (space_at st space));
    tables = set.union (sym (all_stay (λ _. false) (λ _. refl) [] st.tables) i) (set.from_list (flat_map (cut_by_op st space) ops));
  }

  answer_is : (thread : ℕ) → reply.Done ≡ answer st thread this
  unfolding answer
  answer_is thread = refl

  pub committed : (thread : ℕ) → (reply.Done, after_commit st space ops) ≡ step st thread this may.limbo
  committed thread = (λ i. (answer_is thread i, after_is thread i)) ∙ sym (accepted st thread this may.limbo (may.passes thread))

  stays_consistent : IsConsistent st → IsConsistent (after_commit st space ops)
  stays_consistent ok = subst IsConsistent (sym (ap (λ p. p.1) (committed 0))) (step_keeps st 0 may.limbo this (omega arith) ok)

  module _ (cells cells' : AddressSpace) (tables' : Tables) (here : get st.spaces space ≡ Some cells) (cells_are : cells' ≡ after_ops ops cells) (tables_are : tables' ≡ set.union st.tables (set.from_list (flat_map (cut_by_op st space) ops))) where
    abbrev next : State
    next = record st { spaces = fin.insert st.spaces space cells'; tables = tables' }

    pub next_is : next ≡ after_commit st space ops
    next_is = λ i. record st { spaces = fin.insert st.spaces space ((cells_are ∙ ap (λ o. after_ops ops (unwrap_or o fin.empty)) (sym here)) i); tables = tables_are i }

    pub commit_stays_sound : (counts counts' : Counts) (fronts fronts' : List ℕ) → IsSound st counts fronts → Follow counts counts' cells cells' → Forgets ops space fronts fronts' → IsSound next counts' fronts'
    commit_stays_sound counts counts' fronts fronts' sound follow forgets =
        stays_sound st counts fronts sound space cells here cells' tables' counts' fronts' follow
        (subst IsConsistent (sym next_is) (stays_consistent sound.state)) (arenas_stay st space ops cells cells' tables' here cells_are fronts fronts' sound.full forgets)
