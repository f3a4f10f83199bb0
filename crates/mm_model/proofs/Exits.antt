-- The step of a call that removes a space.
use Rattle.std.proofs.Common.{◌≡◌, ℕ, ◌+◌, ◌-◌, ◌<◌, ◌≤◌, ◌^◌, Bool, true, false, cond, List, [], ◌∷◌, length, refl, sym, ap, subst, ◌∙◌, arith}
use Rattle.std.specs.Prelude.{Option, Some, None, is_some, nat_eq, nat_le, nat_lt, min}
use Rattle.std.specs.Option.{option_or, unwrap_or}
use Rattle.std.specs.List.{sum_by, count_by}
use Rattle.std.specs.Ordering.{nat_cmp}
use Rattle.std.specs.Cmp.{nat_cmp_total, unsigned_tied}
use Rattle.std.proofs.lemmas.Bool.{le-ltb, eqb-true, eqb-false, leb-true}
use Rattle.std.specs.FinMap as fin
use Rattle.std.specs.FinMap.{get, get-remove, same_map, nat_cmp-IsAntisymmetric}
use Rattle.std.specs.FinSet as set
use Rattle.corten_base.specs.declared.calls.Call.TheVariants as call
use Rattle.corten_base.specs.declared.calls.Reply.{Reply}
use Rattle.corten_base.specs.declared.calls.Reply.TheVariants as reply
use Rattle.page_map.specs.declared.cell.Cell.{Cell}
use Rattle.page_map.specs.Cell.{frame_of, slot_of}
use Rattle.page_map.specs.Mapping.{arena_first}
use Rattle.page_map.specs.State.{State, AddressSpace, IsConsistent, linked, is_present, space_at, carries, owners, unused_frames, unused_slots}
use Rattle.page_map.specs.Tables.{Tables, need}
use Rattle.page_map.specs.Effect.{wanted_tables, state_after, answer}
use Rattle.page_map.specs.Step.{step, refusal, first_refusal, refused_unless, no_tables}
use Rattle.page_map.proofs.Evaluate.{union_empty}
use Rattle.page_map.proofs.Owners.{weight_at}
use Rattle.page_map.proofs.Places.{place_total, place_exact}
use Rattle.page_map.proofs.Steps.{accepted, refused}
use Rattle.page_map.proofs.StepKeeps.{step_keeps}
use Rattle.plain_counts.specs.Fronts.{AreFull, IsFull, full_pages, full_before}
use Rattle.plain_counts.specs.Levels.{is_elsewhere}
use Rattle.plain_counts.specs.declared.counts.Counts.{Counts}
use Rattle.plain_counts.specs.Counts.{Follow, Follows}
use Rattle.plain_spaces.proofs.Released.{nothing_carried}
use Rattle.mm_model.specs.Plain.{IsSound, owner_counts}
use Rattle.mm_model.proofs.AccessSteps.{no_need}
use Rattle.mm_model.proofs.Carried.{counts_long, counts_from, counted_at}

none_short : (free : ℕ) (r : ℕ → Reply) → cond (nat_lt free 0) (Some (r 0)) None ≡ None
none_short free r = ap (λ b. cond b (Some (r 0)) None) (le-ltb free 0 (omega arith))

or_none : {A : Type 0} (o : Option A) → option_or o None ≡ o
or_none None = refl
or_none (Some x) = refl

module _ (st : State) (space thread limbo : ℕ) (legal : linked st + limbo ≤ st.limits.tables) where
  no_tables_wanted : no_tables st thread (call.Exit space) limbo ≡ None
  no_tables_wanted =
      let n = need (wanted_tables st thread (call.Exit space)) st.tables in
      let none : n ≡ 0 = no_need (wanted_tables st thread (call.Exit space)) refl st.tables in
      ap (λ b. cond b (Some (reply.NoTables (linked st) limbo n)) None) (le-ltb st.limits.tables (linked st + n + limbo) (omega (arith, legal, none)))

  refusal_is : refusal st thread (call.Exit space) limbo ≡ refused_unless (is_present st space) reply.NoSpace
  unfolding refusal
  refusal_is =
      (λ i. first_refusal (None ∷ refused_unless (is_present st space) reply.NoSpace ∷ None ∷ None ∷ None ∷ no_tables_wanted i
      ∷ none_short (length (unused_frames st)) (reply.NoFrames (length (unused_frames st))) i ∷ none_short (length (unused_slots st)) (reply.NoSwap (length (unused_slots st))) i ∷ []))
      ∙ or_none (refused_unless (is_present st space) reply.NoSpace)

  pub exit_absent : get st.spaces space ≡ None → (reply.NoSpace, st) ≡ step st thread (call.Exit space) limbo
  exit_absent none = sym (refused st thread (call.Exit space) limbo reply.NoSpace (refusal_is ∙ ap (λ o. refused_unless (is_some o) reply.NoSpace) none))

  module _ (cells : AddressSpace) (here : get st.spaces space ≡ Some cells) (spaces : fin.FinMap nat_cmp AddressSpace) (without : spaces ≡ fin.remove st.spaces space) (tables : Tables) (left : tables ≡ set.retain st.tables (is_elsewhere space)) where
    pub exit_step : (reply.Ok, record st { spaces = spaces; tables = tables }) ≡ step st thread (call.Exit space) limbo
    unfolding state_after answer
    exit_step =
        (λ i. (reply.Ok, record st { spaces = without i; tables = (left ∙ sym (union_empty place_total place_exact (set.retain st.tables (is_elsewhere space)))) i }))
        ∙ sym (accepted st thread (call.Exit space) limbo (refusal_is ∙ ap (λ o. refused_unless (is_some o) reply.NoSpace) here))

-- ---- counts

module _ (number_of : Cell → Option ℕ) (st : State) (limit : ℕ) (counts : List ℕ) (are : counts ≡ owner_counts (owners number_of st) limit) (space : ℕ) (cells : AddressSpace) (here : get st.spaces space ≡ Some cells) where
  pub left_counts : (next : State) (after : List ℕ) → next.spaces ≡ fin.remove st.spaces space → Follows number_of counts after cells fin.empty → after ≡ owner_counts (owners number_of next) limit
  unfolding owners
  left_counts next after is follows =
      counts_from (owners number_of next) limit after (follows.numbers ∙ counts_long (owners number_of st) limit counts are) (λ n h.
      let w : AddressSpace → ℕ = λ cells. count_by (carries number_of n) (fin.values cells) in
      let becomes : owners number_of next n ≡ sum_by w (fin.values (fin.remove st.spaces space)) = ap (λ m. sum_by w (fin.values m)) is in
      omega (arith, follows.counts n, nothing_carried number_of n, becomes, weight_at w st.spaces space cells here, counted_at (owners number_of st) limit counts are n h))

-- ---- fronts

pub exit_full : (st next : State) (space : ℕ) (fronts fronts' : List ℕ) → next.spaces ≡ fin.remove st.spaces space → AreFull st fronts →
    ((t : ℕ) → t < 8 → full_pages fronts' space t ≡ full_before (arena_first t) (full_pages fronts space t) 0 (2 ^ 44)) →
    ((s t : ℕ) → (s ≡ space → ⊥) → t < 8 → full_pages fronts' s t ≡ full_pages fronts s t) → AreFull next fronts'
exit_full st next space fronts fronts' is full known others s t small few = go (nat_eq s space) refl
  where
    next_at : nat_eq s space ≡ false → space_at next s ≡ space_at st s
    next_at e = ap (λ (o : Option AddressSpace). unwrap_or o fin.empty) (ap (λ m. get m s) is ∙ get-remove nat_cmp_total st.spaces space s ∙ ap (λ b. cond b None (get st.spaces s)) (unsigned_tied s space ∙ e))

    before : (b : Bool) → nat_le (0 + 2 ^ 44) (arena_first t) ≡ b → (known : ℕ) → cond b known (min known (0 - arena_first t)) ≡ 0
    before true e known = absurd (omega (arith, leb-true (0 + 2 ^ 44) (arena_first t) e, few))
    before false e known = omega arith

    go : (b : Bool) → nat_eq s space ≡ b → IsFull (space_at next s) t (full_pages fronts' s t)
    go false e = subst (λ m. IsFull m t (full_pages fronts' s t)) (sym (next_at e)) (subst (IsFull (space_at st s) t) (sym (others s t (eqb-false s space e) few)) (full s t small few))
    go true e =
        let none : full_pages fronts' s t ≡ 0 = ap (λ n. full_pages fronts' n t) (eqb-true s space e) ∙ known t few ∙ before (nat_le (0 + 2 ^ 44) (arena_first t)) refl (full_pages fronts space t) in
        subst (IsFull (space_at next s) t) (sym none) (record { within = omega arith; cells_there = λ q a b. absurd (omega (arith, a, b)) })

-- what the machine keeps
pub exit_sound : (st : State) (space : ℕ) (cells : AddressSpace) (spaces : fin.FinMap nat_cmp AddressSpace) (tables : Tables) (counts counts' : Counts) (fronts fronts' : List ℕ) → IsSound st counts fronts → get st.spaces space ≡ Some cells →
    spaces ≡ fin.remove st.spaces space → tables ≡ set.retain st.tables (is_elsewhere space) → Follow counts counts' cells fin.empty →
    ((t : ℕ) → t < 8 → full_pages fronts' space t ≡ full_before (arena_first t) (full_pages fronts space t) 0 (2 ^ 44)) → ((s t : ℕ) → (s ≡ space → ⊥) → t < 8 → full_pages fronts' s t ≡ full_pages fronts s t) →
    IsSound (record st { spaces = spaces; tables = tables }) counts' fronts'
exit_sound st space cells spaces tables counts counts' fronts fronts' sound here without left follow known others =
    let next : State = record st { spaces = spaces; tables = tables } in
    let no_limbo : linked st + 0 ≤ st.limits.tables = omega (arith, sound.state.tables) in
    record {
      state = subst IsConsistent (sym (ap (λ p. p.1) (exit_step st space 0 0 no_limbo cells here spaces without tables left))) (step_keeps st 0 0 (call.Exit space) (omega arith) sound.state);
      limits = sound.limits;
      frame_counts = left_counts frame_of st st.limits.frames counts.frames sound.frame_counts space cells here next counts'.frames without follow.frames;
      slot_counts = left_counts slot_of st st.limits.swap counts.slots sound.slot_counts space cells here next counts'.slots without follow.slots;
      full = exit_full st next space fronts fronts' without sound.full known others;
    }

-- a space that is absent is not there to be removed
pub none_removed : {X : Type 0} (m : fin.FinMap nat_cmp X) (k : ℕ) → get m k ≡ None → fin.remove m k ≡ m
none_removed m k none = same_map nat_cmp_total nat_cmp-IsAntisymmetric _ _ (λ q. get-remove nat_cmp_total m k q ∙ ap (λ b. cond b None (get m q)) (unsigned_tied q k) ∙ go q (nat_eq q k) refl)
  where
    go : (q : ℕ) (b : Bool) → nat_eq q k ≡ b → cond b None (get m q) ≡ get m q
    go q false e = refl
    go q true e = sym (ap (get m) (eqb-true q k e) ∙ none)
