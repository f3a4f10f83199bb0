-- The step of a call that gives pages back.
use Rattle.std.proofs.Common.{◌≡◌, ℕ, ◌+◌, ◌/◌, ◌≤◌, true, false, cond, List, [], ◌∷◌, length, refl, sym, ap, subst, ◌∙◌, arith}
use Rattle.std.specs.Prelude.{Option, Some, None, IsSome, is_some, nat_lt}
use Rattle.std.specs.Option.{option_or, option_map, unwrap_or}
use Rattle.std.proofs.lemmas.Bool.{le-ltb}
use Rattle.std.specs.FinMap as fin
use Rattle.std.specs.FinMap.{get}
use Rattle.corten_base.specs.declared.calls.Call.{Call}
use Rattle.corten_base.specs.declared.calls.Call.TheVariants as call
use Rattle.corten_base.specs.declared.calls.Reply.{Reply}
use Rattle.corten_base.specs.declared.calls.Reply.TheVariants as reply
use Rattle.table_place.specs.Place.{is_page_range, pages_of}
use Rattle.page_map.specs.Cell.{goes_on}
use Rattle.page_map.specs.DontNeed.{given_back}
use Rattle.page_map.specs.Mapping.{hole}
use Rattle.page_map.specs.State.{State, AddressSpace, IsConsistent, levels, linked, is_present, space_at, unused_frames, unused_slots}
use Rattle.page_map.specs.Tables.{need}
use Rattle.page_map.specs.Effect.{wanted_tables, is_given_up, state_after, answer}
use Rattle.page_map.specs.Step.{step, refusal, first_refusal, refused_unless, hole_reply, no_tables}
use Rattle.page_map.proofs.NeedLaws.{dont_need_none}
use Rattle.page_map.proofs.Steps.{accepted, refused}
use Rattle.page_map.proofs.StepKeeps.{step_keeps}
use Rattle.plain_counts.specs.declared.counts.Counts.{Counts}
use Rattle.plain_counts.specs.Counts.{Follow}
use Rattle.mm_model.specs.Plain.{IsSound}
use Rattle.mm_model.proofs.AccessSteps.{same_wanted}
use Rattle.mm_model.proofs.Full.{full_stays, change_stays}
use Rattle.mm_model.proofs.Kept.{stays_sound}

none_short : (free : ℕ) (r : ℕ → Reply) → cond (nat_lt free 0) (Some (r 0)) None ≡ None
none_short free r = ap (λ b. cond b (Some (r 0)) None) (le-ltb free 0 (omega arith))

or_none : {A : Type 0} (o : Option A) → option_or o None ≡ o
or_none None = refl
or_none (Some x) = refl

module _ (st : State) (ok : IsConsistent st) (space at len thread limbo : ℕ) (legal : linked st + limbo ≤ st.limits.tables) where
  abbrev this : Call
  this = call.DontNeed space at len

  no_tables_wanted : no_tables st thread this limbo ≡ None
  no_tables_wanted =
      let n = need (wanted_tables st thread this) st.tables in
      let none : n ≡ 0 = dont_need_none st thread space at len ok in
      ap (λ b. cond b (Some (reply.NoTables (linked st) limbo n)) None) (le-ltb st.limits.tables (linked st + n + limbo) (omega (arith, legal, none)))

  refusal_is : refusal st thread this limbo ≡ option_or (refused_unless (is_page_range (levels st) at len) reply.Einval)
      (option_or (refused_unless (is_present st space) reply.NoSpace) (hole_reply (hole (space_at st space) at len)))
  unfolding refusal
  refusal_is =
      (λ i. first_refusal (refused_unless (is_page_range (levels st) at len) reply.Einval ∷ refused_unless (is_present st space) reply.NoSpace ∷ None ∷ None ∷ hole_reply (hole (space_at st space) at len) ∷ no_tables_wanted i
      ∷ none_short (length (unused_frames st)) (reply.NoFrames (length (unused_frames st))) i ∷ none_short (length (unused_slots st)) (reply.NoSwap (length (unused_slots st))) i ∷ []))
      ∙ ap (λ o. option_or (refused_unless (is_page_range (levels st) at len) reply.Einval) (option_or (refused_unless (is_present st space) reply.NoSpace) o)) (or_none (hole_reply (hole (space_at st space) at len)))

  pub wrong : is_page_range (levels st) at len ≡ false → (reply.Einval, st) ≡ step st thread this limbo
  wrong e = sym (refused st thread this limbo reply.Einval (refusal_is ∙ ap (λ b. option_or (refused_unless b reply.Einval) (option_or (refused_unless (is_present st space) reply.NoSpace) (hole_reply (hole (space_at st space) at len)))) e))

  module _ (right : is_page_range (levels st) at len ≡ true) where
    pub absent : get st.spaces space ≡ None → (reply.NoSpace, st) ≡ step st thread this limbo
    absent none = sym (refused st thread this limbo reply.NoSpace
        (refusal_is ∙ (λ i. option_or (refused_unless (right i) reply.Einval) (option_or (refused_unless (is_some (none i)) reply.NoSpace) (hole_reply (hole (space_at st space) at len))))))

    module _ (cells : AddressSpace) (here : get st.spaces space ≡ Some cells) where
      decided : refusal st thread this limbo ≡ hole_reply (hole cells at len)
      decided = refusal_is ∙ (λ i. option_or (refused_unless (right i) reply.Einval) (option_or (refused_unless (is_some (here i)) reply.NoSpace) (hole_reply (hole (unwrap_or (here i) fin.empty) at len))))

      pub stopped : (r : Reply) → hole_reply (hole cells at len) ≡ Some r → (r, st) ≡ step st thread this limbo
      stopped r e = sym (refused st thread this limbo r (decided ∙ e))

      module _ (full : hole cells at len ≡ None) (cells' : AddressSpace) (cells_are : cells' ≡ given_back (at / 4096) (pages_of len) cells) where
        pub step_is : (reply.Ok, record st { spaces = fin.insert st.spaces space cells' }) ≡ step st thread this limbo
        unfolding state_after answer
        step_is =
            (λ i. (
              reply.Ok,
              record st {
                spaces = fin.insert st.spaces space ((cells_are ∙ ap (λ o. given_back (at / 4096) (pages_of len) (unwrap_or o fin.empty)) (sym here)) i);
                tables = sym (same_wanted (is_given_up st this) (λ _. refl) (wanted_tables st thread this) st.tables (dont_need_none st thread space at len ok)) i;
              },
            ))
            ∙ sym (accepted st thread this limbo (decided ∙ ap hole_reply full))

-- what the machine keeps
pub given_sound : (st : State) (space at len : ℕ) (cells cells' : AddressSpace) (counts counts' : Counts) (fronts : List ℕ) → IsSound st counts fronts → is_page_range (levels st) at len ≡ true → get st.spaces space ≡ Some cells →
    hole cells at len ≡ None → cells' ≡ given_back (at / 4096) (pages_of len) cells → Follow counts counts' cells cells' → IsSound (record st { spaces = fin.insert st.spaces space cells' }) counts' fronts
unfolding given_back
given_sound st space at len cells cells' counts counts' fronts sound right here full cells_are follow =
    let no_limbo : linked st + 0 ≤ st.limits.tables = omega (arith, sound.state.tables) in
    stays_sound st counts fronts sound space cells here cells' st.tables counts' fronts follow
    (subst IsConsistent (sym (ap (λ p. p.1) (step_is st sound.state space at len 0 0 no_limbo right cells here full cells' cells_are))) (step_keeps st 0 0 (call.DontNeed space at len) (omega arith) sound.state))
    (full_stays st space cells cells' st.tables fronts here
    (λ q there. subst (λ m. IsSome (get m q)) (sym cells_are) (change_stays cells (at / 4096) (pages_of len) (λ _. option_map (λ cell. goes_on cell 0)) (λ _ _. refl) q there)) sound.full)
