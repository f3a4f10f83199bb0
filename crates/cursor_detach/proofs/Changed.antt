-- Which positions the call of a kit removed.
--     removed_is_cut, cut_is_removed      those that its changes give up, and no others
--     steps_removed      they are in the zone of the call, and none of them may cover it
use Rattle.std.specs.Prelude.{◌≡◌, ℕ, ◌/◌, ◌<◌, ◌≤◌, ◌⊎◌, ◌&&◌, ◌||◌, Bool, true, false, List, [], ◌∷◌, map, length, nat_lt, is_some, Option, Some, None, IsSome, IsNone}
use Rattle.std.specs.FinSet as set
use Rattle.std.proofs.Common.{sym, refl, ◌∙◌, ap, subst, arith, inl, inr}
use Rattle.std.proofs.lemmas.Bool.{true≢false, false≢true, lt-ltb, ltb-true, eq-eqb}
use Rattle.corten_base.specs.declared.calls.Call.{Call}
use Rattle.corten_base.specs.declared.calls.Call.TheVariants as call
use Rattle.corten_base.specs.declared.calls.Reply.{Reply}
use Rattle.corten_base.specs.declared.calls.TxnOp.{TxnOp}
use Rattle.corten_base.specs.declared.numbers.Limits.{Limits}
use Rattle.page_map.specs.State.{State, IsConsistent, levels, space_at}
use Rattle.page_map.specs.Effect.{space_of, ops_of, state_after, wanted_tables, is_given_up}
use Rattle.page_map.specs.Step.{refusal, step, arguments, first_refusal}
use Rattle.page_map.specs.Remap.{resize_of, left_first, left_count}
use Rattle.page_map.proofs.Growth.{stays, whence}
use Rattle.page_map.proofs.GivenUp.{not_wanted}
use Rattle.page_map.proofs.Steps.{accepted, refused, passed}
use Rattle.page_map.proofs.StepKeeps.{step_keeps}
use Rattle.table_place.specs.declared.Place.{Place}
use Rattle.table_place.specs.Place.{directory, pages_of, is_inside, span_first, span_count}
use Rattle.table_place.specs.Range.{lies_in}
use Rattle.machine_plan.specs.declared.kit.Kit.{Kit}
use Rattle.machine_plan.specs.declared.kit.Change.{Change}
use Rattle.machine_plan.specs.declared.kit.Change.TheVariants as change
use Rattle.machine_plan.specs.Agrees.{IsTableOf}
use Rattle.machine_plan.specs.Books.{BookData, state_of}
use Rattle.machine_plan.specs.Given.{IsRemoved, Removes}
use Rattle.machine_plan.specs.Kits.{IsPlanned}
use Rattle.machine_plan.specs.Uses.{early_refusal, changes_of, zone_of}
use Rattle.machine_plan.proofs.Giving.{step_removes}
use Rattle.machine_plan.proofs.Levels.{has_levels}
use Rattle.cursor_detach.specs.Left.{IsCommitted}
use Rattle.cursor_detach.specs.Removing.{any_gives_up, is_cut}
use Rattle.cursor_detach.proofs.Positions.{place_parts}

-- operations give up nothing
no_op : (L : ℕ) (p : Place) (ops : List TxnOp) → any_gives_up L p (map change.Op ops) ≡ false
no_op L p [] = refl
no_op L p (o ∷ os) = no_op L p os

-- no change gives up the directory
pub directory_never : (L : ℕ) → L ≤ 5 → (kit : Kit) → is_cut L kit directory ≡ true → ⊥
directory_never L few kit cut = true≢false (sym cut ∙ never kit.done kit.changes.items)
  where
    too_high : nat_lt 6 L ≡ false
    too_high = go (nat_lt 6 L) refl
      where
        go : (t : Bool) → nat_lt 6 L ≡ t → nat_lt 6 L ≡ false
        go false e = e
        go true e = absurd (omega (arith, few, ltb-true 6 L e))

    none_of : (cs : List Change) → any_gives_up L directory cs ≡ false
    none_of [] = refl
    none_of (change.GiveUp first count ∷ cs) = ap (λ t. (t && lies_in (span_first directory) (span_count directory) first count) || any_gives_up L directory cs) too_high ∙ none_of cs
    none_of (change.Exit ∷ cs) = none_of cs
    none_of (change.Op o ∷ cs) = none_of cs
    none_of (change.Reset first count ∷ cs) = none_of cs
    none_of (change.Move first old to new ∷ cs) = none_of cs
    none_of (change.Spawn space ∷ cs) = none_of cs
    none_of (change.Fork space ∷ cs) = none_of cs

    never : (d : Bool) (cs : List Change) → (d && any_gives_up L directory cs) ≡ false
    never true cs = none_of cs
    never false cs = refl

module _ (st : State) (thread : ℕ) (p : Place) (low : p.level < 6) where
  abbrev L : ℕ
  L = levels st

  given_so : (c : Call) → ((s : ℕ) → space_of c ≡ Some s → p.space ≡ s) → any_gives_up L p (changes_of st thread c) ≡ is_given_up st c p
  unfolding changes_of
  given_so (call.Unmap space at len) here = inside (at / 4096) (pages_of len) (here space refl)
    where
      inside : (first count : ℕ) → p.space ≡ space → any_gives_up L p (change.GiveUp first count ∷ []) ≡ is_inside L space first count p
      inside first count e = or_none _ ∙ sym (ap (λ b. b && nat_lt p.level L && lies_in (span_first p) (span_count p) first count) (eq-eqb p.space space e))
        where
          or_none : (b : Bool) → (b || false) ≡ b
          or_none true = refl
          or_none false = refl
  given_so (call.Exit space) here = ap (λ b. b || false) (lt-ltb p.level 6 low) ∙ sym (eq-eqb p.space space (here space refl))
  given_so (call.Remap space at old_len new_len) here = inside (left_first L (space_at st space) (resize_of at old_len new_len)) (left_count L (space_at st space) (resize_of at old_len new_len)) (here space refl)
    where
      inside : (first count : ℕ) → p.space ≡ space → any_gives_up L p (change.GiveUp first count ∷ []) ≡ is_inside L space first count p
      inside first count e = or_none _ ∙ sym (ap (λ b. b && nat_lt p.level L && lies_in (span_first p) (span_count p) first count) (eq-eqb p.space space e))
        where
          or_none : (b : Bool) → (b || false) ≡ b
          or_none true = refl
          or_none false = refl
  given_so (call.Map space where_to len perm what) here = no_op L p (ops_of st thread (call.Map space where_to len perm what))
  given_so (call.Protect space at len perm) here = no_op L p (ops_of st thread (call.Protect space at len perm))
  given_so (call.Load space at len) here = refl
  given_so (call.Store space at bytes) here = refl
  given_so (call.Fault space at write) here = refl
  given_so call.Spawn here = refl
  given_so (call.Fork space) here = refl
  given_so (call.SwapOut space at len) here = refl
  given_so (call.SwapIn space at len) here = refl
  given_so (call.Txn space at len ops) here = no_op L p ops
  given_so (call.DontNeed space at len) here = refl

module _ (a b : BookData) (thread : ℕ) (c : Call) (kit : Kit) (is : IsConsistent (state_of a)) (committed : IsCommitted a b thread c kit) where
  abbrev st : State
  st = state_of a

  abbrev limbo : ℕ
  limbo = length a.limbo

  abbrev outcome : Type 0
  outcome = (refusal st thread c limbo ≡ None) ⊎ IsSome (refusal st thread c limbo)

  either_way : outcome
  either_way = go (refusal st thread c limbo) refl
    where
      go : (o : Option Reply) → refusal st thread c limbo ≡ o → outcome
      go None e = inl e
      go (Some r) e = inr (ap (λ (x : Option Reply). is_some x) e)

  next_is : state_of b ≡ (step st thread c limbo).1
  next_is = ap (λ (x : Reply × State). x.1) committed.commits.is_step

  same_state : IsSome (refusal st thread c limbo) → state_of b ≡ st
  same_state some = go (refusal st thread c limbo) refl some
    where
      go : (o : Option Reply) → refusal st thread c limbo ≡ o → IsSome o → state_of b ≡ st
      go (Some r) e s = next_is ∙ ap (λ (x : Reply × State). x.1) (refused st thread c limbo r e)
      go None e s = absurd (false≢true s)

  next_state : refusal st thread c limbo ≡ None → state_of b ≡ state_after st thread c
  next_state none = next_is ∙ ap (λ (x : Reply × State). x.1) (accepted st thread c limbo none)

  not_early : refusal st thread c limbo ≡ None → early_refusal st thread c ≡ None
  not_early none =
      let ok = passed st thread c limbo none in
      λ i. first_refusal (ok.arguments i ∷ ok.space i ∷ ok.spaces i ∷ ok.place i ∷ ok.pages i ∷ [])

  planned : refusal st thread c limbo ≡ None → IsPlanned a thread c committed.filled
  planned none = committed.was_filled.planned (ap (λ (x : Option Reply). is_some x) (committed.was_filled.early ∙ not_early none))

  pub not_refused : refusal st thread c limbo ≡ None → IsNone (arguments st c)
  not_refused none = ap (λ (x : Option Reply). is_some x) (passed st thread c limbo none).arguments

  done_is : refusal st thread c limbo ≡ None → kit.done ≡ true
  done_is none = (committed.commits.accepted (ap (λ (x : Option Reply). is_some x) none)).done

  changes_are : refusal st thread c limbo ≡ None → kit.changes.items ≡ changes_of st thread c
  changes_are none = committed.commits.same.0 ∙ (planned none).changes

  cut_so : refusal st thread c limbo ≡ None → (p : Place) → p.level < 6 → ((s : ℕ) → space_of c ≡ Some s → p.space ≡ s) → is_cut (levels st) kit p ≡ is_given_up st c p
  cut_so none p low here = (λ i. done_is none i && any_gives_up (levels st) p (changes_are none i)) ∙ given_so st thread p low c here

  not_cut : IsSome (refusal st thread c limbo) → (p : Place) → is_cut (levels st) kit p ≡ false
  not_cut some p = ap (λ d. d && any_gives_up (levels st) p kit.changes.items) (ap (λ (k : Kit). k.done) (committed.commits.refused some).same_kit ∙ committed.was_filled.ungranted.not_done)

  low_of : (p : Place) → set.contains st.tables p ≡ true → p.level < 6
  low_of p there = let parts = place_parts (levels st) p (is.places p there) in omega (arith, parts.high, is.few_levels)

  given_up : (p : Place) → set.contains st.tables p ≡ true → (t : Bool) → is_given_up st c p ≡ t → set.contains (state_after st thread c).tables p ≡ false → is_given_up st c p ≡ true
  unfolding state_after
  given_up p there true e lost = e
  given_up p there false e lost = absurd (true≢false (sym (stays (is_given_up st c) (wanted_tables st thread c) st.tables p there e) ∙ lost))

  none_there : (p : Place) → refusal st thread c limbo ≡ None → is_given_up st c p ≡ true → (t : Bool) → set.contains (state_after st thread c).tables p ≡ t → set.contains (state_after st thread c).tables p ≡ false
  unfolding state_after
  none_there p none given false e = e
  none_there p none given true e = elim (whence (is_given_up st c) (wanted_tables st thread c) st.tables p e) [
    | inl old ↦ absurd (true≢false (sym given ∙ old.1))
    | inr new ↦ absurd (true≢false (sym new ∙ not_wanted st thread limbo c none p given))
  ]

  pub removed_is_cut : (p : Place) → ((s : ℕ) → space_of c ≡ Some s → p.space ≡ s) → IsRemoved st (state_of b) p → is_cut (levels st) kit p ≡ true
  removed_is_cut p here gone = go either_way
    where
      go : outcome → is_cut (levels st) kit p ≡ true
      go (inl none) = cut_so none p (low_of p gone.0) here ∙ given_up p gone.0 (is_given_up st c p) refl (ap (λ (s : State). set.contains s.tables p) (sym (next_state none)) ∙ gone.1)
      go (inr some) = absurd (true≢false (sym gone.0 ∙ ap (λ (s : State). set.contains s.tables p) (sym (same_state some)) ∙ gone.1))

  -- the directory is given up by none
  pub directory_stays : (p : Place) → p ≡ directory → is_cut (levels st) kit p ≡ true → ⊥
  directory_stays p top cut = directory_never (levels st) is.few_levels kit (ap (is_cut (levels st) kit) (sym top) ∙ cut)

  pub same_levels : levels (state_of b) ≡ levels st
  same_levels = has_levels b ∙ (ap (λ (l : Limits). l.levels) committed.commits.limits.0 ∙ sym (has_levels a))

  pub cut_is_removed : (p : Place) → ((s : ℕ) → space_of c ≡ Some s → p.space ≡ s) → IsTableOf st p → is_cut (levels st) kit p ≡ true → IsRemoved st (state_of b) p
  cut_is_removed p here table cut = go either_way table
    where
      go : outcome → IsTableOf st p → IsRemoved st (state_of b) p
      go o (inl top) = absurd (directory_stays p top cut)
      go (inl none) (inr there) =
          (there, ap (λ (s : State). set.contains s.tables p) (next_state none) ∙ none_there p none (sym (cut_so none p (low_of p there) here) ∙ cut) (set.contains (state_after st thread c).tables p) refl)
      go (inr some) (inr there) = absurd (true≢false (sym cut ∙ not_cut some p))

  -- where a position is removed the call was not refused
  pub was_accepted : (p : Place) → IsRemoved st (state_of b) p → refusal st thread c limbo ≡ None
  was_accepted p gone = go either_way
    where
      go : outcome → refusal st thread c limbo ≡ None
      go (inl none) = none
      go (inr some) = absurd (true≢false (sym gone.0 ∙ ap (λ (s : State). set.contains s.tables p) (sym (same_state some)) ∙ gone.1))

  pub steps_removed : refusal st thread c limbo ≡ None → Removes (zone_of thread c) st (state_of b)
  steps_removed none = subst (Removes (zone_of thread c) st) (sym next_is) (step_removes st thread c limbo is none)

  pub consistent_after : thread < 8 → IsConsistent (state_of b)
  consistent_after few = subst IsConsistent (sym next_is) (step_keeps st thread limbo c few is)
