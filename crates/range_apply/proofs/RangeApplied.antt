-- What a call that changes pages of one range leaves.
--     is_base, are_steps      its rows may be changed, by the changes of its kit
--     range_applied      what is left
use Rattle.std.specs.Prelude.{◌≡◌, ◌≢◌, ℕ, ◌+◌, ◌*◌, ◌/◌, ◌<◌, ◌≤◌, ◌&&◌, Bool, true, false, nat_eq, is_none, List, [], ◌∷◌, length, Option, Some, None, is_some, IsNone, IsSome}
use Rattle.std.specs.FinSet as set
use Rattle.std.proofs.Common.{sym, refl, ◌∙◌, ap, subst, arith, ne_eqb}
use Rattle.std.proofs.lemmas.Bool.{true≢false, false≢true, and_parts}
use Rattle.corten_base.specs.declared.calls.Call.{Call}
use Rattle.corten_base.specs.declared.calls.Call.TheVariants as call
use Rattle.corten_base.specs.declared.calls.Reply.{Reply}
use Rattle.corten_base.specs.declared.numbers.Limits.{Limits}
use Rattle.page_map.specs.Effect.{space_of, placed_at, state_after, is_given_up}
use Rattle.page_map.specs.Memory.{names_key}
use Rattle.page_map.specs.State.{State, IsConsistent, levels, cell_at, start}
use Rattle.page_map.specs.Step.{refusal, first_refusal, step}
use Rattle.page_map.proofs.Named.{after_unnamed}
use Rattle.page_map.proofs.OwnCalls.{limits_along}
use Rattle.page_map.proofs.Steps.{accepted, passed}
use Rattle.row_cells.specs.declared.Cell.{Cell}
use Rattle.row_table.specs.declared.view.PassView.{PassView}
use Rattle.table_place.specs.declared.Place.{Place}
use Rattle.table_place.specs.Place.{is_inside, pages_of, span_first, span_count}
use Rattle.table_place.specs.Range.{within}
use Rattle.table_place.proofs.Tables.{inside_parts}
use Rattle.machine_plan.specs.declared.kit.Change.{Change}
use Rattle.machine_plan.specs.declared.kit.Kit.{Kit}
use Rattle.machine_plan.specs.Books.{BookData, state_of}
use Rattle.machine_plan.specs.Given.{IsRemoved}
use Rattle.machine_plan.specs.Held.{HeldWith}
use Rattle.machine_plan.specs.HeldRows.{Row}
use Rattle.machine_plan.specs.Kits.{HasRoom, IsIdle, IsUngranted, IsGranted, IsPlanned}
use Rattle.machine_plan.specs.Uses.{early_refusal, uses_page, changes_of}
use Rattle.machine_plan.proofs.Levels.{has_levels}
use Rattle.cursor_apply.specs.Applying.{Applied, is_store}
use Rattle.cursor_apply.specs.Between.{IsBetween, IsSteps, is_ranged}
use Rattle.cursor_apply.specs.Changed.{LiesIn, Rewrites, IsBase, Steps, AreChanged, MayMakeAll, MakesAll, AgreesAfter, all_clean}
use Rattle.range_apply.specs.Ranging.{IsRangeApplicable, MayApplyRange}
use Rattle.cursor_apply.proofs.CallSteps.{gone, ranged_steps}
use Rattle.cursor_apply.proofs.FromStaged.{staged_base}
use Rattle.cursor_apply.proofs.Kept.{rows_of_words}
use Rattle.cursor_apply.proofs.Middle.{middle, is_between}

module _ (old : State) (thread space : ℕ) (was : IsConsistent old) where
  same : (s : ℕ) → Some s ≡ Some space → s ≡ space
  same s e = cc

  -- there is a state between
  between_there : (c : Call) → is_ranged c ≡ true → (st : State) × IsBetween old (state_after old thread c) st space (uses_page old thread c space)
  between_there (call.Map s where_to len perm what) ranged =
      let c = call.Map s where_to len perm what in
      let first = placed_at old thread s where_to len / 4096 in (
        middle old (state_after old thread c) was space first (pages_of len) (uses_page old thread c space),
        is_between old (state_after old thread c) was space first (pages_of len) (uses_page old thread c space) (λ page e. (and_parts (nat_eq space s) (within first (pages_of len) page) e).1) (λ p r. absurd (false≢true (gone old thread space was c p r))),
      )
  between_there (call.Unmap s at len) ranged =
      let c = call.Unmap s at len in (
        middle old (state_after old thread c) was space (at / 4096) (pages_of len) (uses_page old thread c space),
        is_between old (state_after old thread c) was space (at / 4096) (pages_of len) (uses_page old thread c space) (λ page e. (and_parts (nat_eq space s) (within (at / 4096) (pages_of len) page) e).1)
            (λ p r. let parts = inside_parts (levels old) s (at / 4096) (pages_of len) p (gone old thread space was c p r) in (parts.from, parts.to)),
      )
  between_there (call.Protect s at len perm) ranged =
      let c = call.Protect s at len perm in (
        middle old (state_after old thread c) was space (at / 4096) (pages_of len) (uses_page old thread c space),
        is_between old (state_after old thread c) was space (at / 4096) (pages_of len) (uses_page old thread c space) (λ page e. absurd (false≢true e)) (λ p r. absurd (false≢true (gone old thread space was c p r))),
      )
  between_there (call.DontNeed s at len) ranged =
      let c = call.DontNeed s at len in (
        middle old (state_after old thread c) was space (at / 4096) (pages_of len) (uses_page old thread c space),
        is_between old (state_after old thread c) was space (at / 4096) (pages_of len) (uses_page old thread c space) (λ page e. (and_parts (nat_eq space s) (within (at / 4096) (pages_of len) page) e).1) (λ p r. absurd (false≢true (gone old thread space was c p r))),
      )
  between_there (call.Load s at len) ranged = absurd (false≢true ranged)
  between_there (call.Store s at bytes) ranged = absurd (false≢true ranged)
  between_there (call.Fault s at write) ranged = absurd (false≢true ranged)
  between_there call.Spawn ranged = absurd (false≢true ranged)
  between_there (call.Fork s) ranged = absurd (false≢true ranged)
  between_there (call.Exit s) ranged = absurd (false≢true ranged)
  between_there (call.SwapOut s at len) ranged = absurd (false≢true ranged)
  between_there (call.SwapIn s at len) ranged = absurd (false≢true ranged)
  between_there (call.Txn s at len ops) ranged = absurd (false≢true ranged)
  between_there (call.Remap s at old_len new_len) ranged = absurd (false≢true ranged)

  -- what is removed is of the space
  gone_there : (c : Call) → is_ranged c ≡ true → space_of c ≡ Some space → (p : Place) → IsRemoved old (state_after old thread c) p → p.space ≡ space
  gone_there c ranged named p r = go c ranged named (gone old thread space was c p r)
    where
      go : (c : Call) → is_ranged c ≡ true → space_of c ≡ Some space → is_given_up old c p ≡ true → p.space ≡ space
      go (call.Unmap s at len) ranged named up = (inside_parts (levels old) s (at / 4096) (pages_of len) p up).same_space ∙ same s named
      go (call.Map s where_to len perm what) ranged named up = absurd (false≢true up)
      go (call.Protect s at len perm) ranged named up = absurd (false≢true up)
      go (call.DontNeed s at len) ranged named up = absurd (false≢true up)
      go (call.Load s at len) ranged named up = absurd (false≢true ranged)
      go (call.Store s at bytes) ranged named up = absurd (false≢true ranged)
      go (call.Fault s at write) ranged named up = absurd (false≢true ranged)
      go call.Spawn ranged named up = absurd (false≢true ranged)
      go (call.Fork s) ranged named up = absurd (false≢true ranged)
      go (call.Exit s) ranged named up = absurd (false≢true ranged)
      go (call.SwapOut s at len) ranged named up = absurd (false≢true ranged)
      go (call.SwapIn s at len) ranged named up = absurd (false≢true ranged)
      go (call.Txn s at len ops) ranged named up = absurd (false≢true ranged)
      go (call.Remap s at old_len new_len) ranged named up = absurd (false≢true ranged)

  -- no page of another space is named
  other_space : (c : Call) → is_ranged c ≡ true → space_of c ≡ Some space → (s p : ℕ) → s ≢ space → names_key old thread c s p ≡ false
  other_space (call.Map t where_to len perm what) ranged named s p ne = ap (λ b. b && within (placed_at old thread t where_to len / 4096) (pages_of len) p) (ne_eqb s t (λ e. ne (e ∙ same t named)))
  other_space (call.Unmap t at len) ranged named s p ne = ap (λ b. b && within (at / 4096) (pages_of len) p) (ne_eqb s t (λ e. ne (e ∙ same t named)))
  other_space (call.Protect t at len perm) ranged named s p ne = ap (λ b. b && within (at / 4096) (pages_of len) p) (ne_eqb s t (λ e. ne (e ∙ same t named)))
  other_space (call.DontNeed t at len) ranged named s p ne = ap (λ b. b && within (at / 4096) (pages_of len) p) (ne_eqb s t (λ e. ne (e ∙ same t named)))
  other_space (call.Load t at len) ranged named s p ne = absurd (false≢true ranged)
  other_space (call.Store t at bytes) ranged named s p ne = absurd (false≢true ranged)
  other_space (call.Fault t at write) ranged named s p ne = absurd (false≢true ranged)
  other_space call.Spawn ranged named s p ne = absurd (false≢true ranged)
  other_space (call.Fork t) ranged named s p ne = absurd (false≢true ranged)
  other_space (call.Exit t) ranged named s p ne = absurd (false≢true ranged)
  other_space (call.SwapOut t at len) ranged named s p ne = absurd (false≢true ranged)
  other_space (call.SwapIn t at len) ranged named s p ne = absurd (false≢true ranged)
  other_space (call.Txn t at len ops) ranged named s p ne = absurd (false≢true ranged)
  other_space (call.Remap t at old_len new_len) ranged named s p ne = absurd (false≢true ranged)

no_store : (c : Call) → is_ranged c ≡ true → is_store c ≡ false
no_store (call.Map s where_to len perm what) ranged = refl
no_store (call.Unmap s at len) ranged = refl
no_store (call.Protect s at len perm) ranged = refl
no_store (call.DontNeed s at len) ranged = refl
no_store (call.Load s at len) ranged = absurd (false≢true ranged)
no_store (call.Store s at bytes) ranged = absurd (false≢true ranged)
no_store (call.Fault s at write) ranged = absurd (false≢true ranged)
no_store call.Spawn ranged = absurd (false≢true ranged)
no_store (call.Fork s) ranged = absurd (false≢true ranged)
no_store (call.Exit s) ranged = absurd (false≢true ranged)
no_store (call.SwapOut s at len) ranged = absurd (false≢true ranged)
no_store (call.SwapIn s at len) ranged = absurd (false≢true ranged)
no_store (call.Txn s at len ops) ranged = absurd (false≢true ranged)
no_store (call.Remap s at old_len new_len) ranged = absurd (false≢true ranged)

named_space : (c : Call) → is_ranged c ≡ true → (s : ℕ) × (space_of c ≡ Some s)
named_space (call.Map s where_to len perm what) ranged = (s, refl)
named_space (call.Unmap s at len) ranged = (s, refl)
named_space (call.Protect s at len perm) ranged = (s, refl)
named_space (call.DontNeed s at len) ranged = (s, refl)
named_space (call.Load s at len) ranged = absurd (false≢true ranged)
named_space (call.Store s at bytes) ranged = absurd (false≢true ranged)
named_space (call.Fault s at write) ranged = absurd (false≢true ranged)
named_space call.Spawn ranged = absurd (false≢true ranged)
named_space (call.Fork s) ranged = absurd (false≢true ranged)
named_space (call.Exit s) ranged = absurd (false≢true ranged)
named_space (call.SwapOut s at len) ranged = absurd (false≢true ranged)
named_space (call.SwapIn s at len) ranged = absurd (false≢true ranged)
named_space (call.Txn s at len ops) ranged = absurd (false≢true ranged)
named_space (call.Remap s at old_len new_len) ranged = absurd (false≢true ranged)

limits_of : (b : BookData) → (state_of b).limits ≡ b.limits
unfolding state_of start
limits_of b = limits_along (start b.limits b.files) b.journal

module _ {B E : Type 0} (a b : BookData) (thread : ℕ) (c : Call) (v : PassView (List Cell) B E) (rows : List Row) (kit : Kit) (is : IsRangeApplicable a b thread c v rows kit) where
  abbrev limbo : ℕ
  limbo = length a.limbo

  fine : refusal (state_of a) thread c limbo ≡ None
  fine = go (refusal (state_of a) thread c limbo) refl
    where
      go : (o : Option Reply) → refusal (state_of a) thread c limbo ≡ o → o ≡ None
      go None e = refl
      go (Some r) e =
          let undone = ap (λ (k : Kit). k.done) (is.committed.commits.refused (ap (λ (x : Option Reply). is_some x) e)).same_kit ∙ is.committed.was_filled.ungranted.not_done in
          absurd (false≢true (sym undone ∙ (sym (ap (λ (k : Kit). k.done) is.same_kit) ∙ is.done)))

  granted : IsGranted a thread c is.committed.filled b is.answered
  granted = is.committed.commits.accepted (ap (λ (x : Option Reply). is_some x) fine)

  now_is : state_of b ≡ state_after (state_of a) thread c
  now_is = ap (λ (x : Reply × State). x.1) is.committed.commits.is_step ∙ ap (λ (x : Reply × State). x.1) (accepted (state_of a) thread c limbo fine)

  not_early : early_refusal (state_of a) thread c ≡ None
  not_early = let ok = passed (state_of a) thread c limbo fine in λ i. first_refusal (ok.arguments i ∷ ok.space i ∷ ok.spaces i ∷ ok.place i ∷ ok.pages i ∷ [])

  early_none : is.committed.filled.early ≡ None
  early_none = is.committed.was_filled.early ∙ not_early

  early : is_none kit.early ≡ true
  early = ap (λ (k : Kit). is_none k.early) is.same_kit ∙ (ap (λ (o : Option Reply). is_none o) (is.committed.commits.same.1 ∙ early_none))

  changes_are : kit.changes.items ≡ changes_of (state_of a) thread c
  changes_are = ap (λ (k : Kit). k.changes.items) is.same_kit ∙ (is.committed.commits.same.0 ∙ (is.committed.was_filled.planned (ap (λ (x : Option Reply). is_some x) early_none)).changes)

  space : ℕ
  space = (named_space c is.ranged).0

  named : space_of c ≡ Some space
  unfolding space
  named = (named_space c is.ranged).1

  taken : ℕ → Bool
  taken = uses_page (state_of a) thread c space

  middle_state : (st : State) × IsBetween (state_of a) (state_of b) st space (uses_page (state_of a) thread c space)
  middle_state = let m = between_there (state_of a) thread space is.consistent.0 c is.ranged in
      (m.0, subst (λ (s : State). IsBetween (state_of a) s m.0 space (uses_page (state_of a) thread c space)) (sym now_is) m.1)

  few_frames : (state_of a).limits.frames ≤ 4096
  few_frames = subst (λ (l : Limits). l.frames ≤ 4096) (sym (limits_of a)) is.books.0.within.frames

  same_levels : levels (state_of b) ≡ levels (state_of a)
  same_levels = has_levels b ∙ (ap (λ (l : Limits). l.levels) is.committed.commits.limits.0 ∙ sym (has_levels a))

  others : (s p : ℕ) → s ≢ space → cell_at (state_of b) s p ≡ cell_at (state_of a) s p
  others s p ne = ap (λ (x : State). cell_at x s p) now_is ∙ after_unnamed (state_of a) thread limbo s p c (other_space (state_of a) thread space is.consistent.0 c is.ranged named s p ne) (passed (state_of a) thread c limbo fine)

  gone_space : (p : Place) → IsRemoved (state_of a) (state_of b) p → p.space ≡ space
  gone_space p r = gone_there (state_of a) thread space is.consistent.0 c is.ranged named p (subst (λ (s : State). IsRemoved (state_of a) s p) now_is r)

  is_base : IsBase b middle_state.0 space (uses_page (state_of a) thread c space) v rows
  is_base = staged_base a b thread c kit space middle_state.0 is.consistent.0 is.consistent.1 same_levels early few_frames middle_state.1 others gone_space
      is.books.0.counts is.books.1.counts granted.frames_kept granted.slots_kept v rows is.exact (is.one_space space named) is.staged

  steps_there : IsSteps (state_of a) (state_of b) middle_state.0 thread space c
  steps_there = subst (λ (s : State). IsSteps (state_of a) s middle_state.0 thread space c) (sym now_is)
      (ranged_steps (state_of a) middle_state.0 thread limbo space c is.small is.ranged named is.consistent.0 (subst IsConsistent now_is is.consistent.1) fine
      (subst (λ (s : State). IsBetween (state_of a) s middle_state.0 space (uses_page (state_of a) thread c space)) now_is middle_state.1))

  are_steps : Steps kit.changes.items space middle_state.0 (state_of b)
  are_steps = subst (λ (l : List Change). Steps l space middle_state.0 (state_of b)) (sym changes_are) steps_there.0

  all_new : (page : ℕ) → all_clean kit.changes.items (uses_page (state_of a) thread c space) page ≡ false
  all_new page = ap (λ (l : List Change). all_clean l (uses_page (state_of a) thread c space) page) changes_are ∙ steps_there.1 page

  pub may_make_all : MayMakeAll kit.changes.items v rows
  may_make_all = (b, middle_state.0, state_of b, space, uses_page (state_of a) thread c space, is_base, are_steps)

  pub range_applied : (w : PassView (List Cell) B E) (rows' : List Row) (kit' : Kit) → MakesAll kit.changes.items v rows w rows' → AgreesAfter kit.changes.items v rows w rows'
      → HasRoom kit' → IsIdle kit' → IsUngranted kit' → (kit'.second_frames.items ≡ []) × (kit'.second_slots.items ≡ []) → Applied b thread c v w rows' kit kit'
  range_applied w rows' kit' makes agrees room idle ungranted seconds =
      let changed = makes b middle_state.0 (state_of b) space (uses_page (state_of a) thread c space) is_base are_steps in
      record {
        view = rows_of_words v w changed.rewrites.view;
        held = agrees b middle_state.0 space (uses_page (state_of a) thread c space) is_base are_steps all_new;
        given = changed.rewrites.given is.given;
        hand = (ap (λ (u : PassView (List Cell) B E). u.hand) changed.rewrites.view ∙ is.hand.0, ap (λ (u : PassView (List Cell) B E). u.core.granted) changed.rewrites.view ∙ is.hand.1);
        stored = λ done h index cell has level inside stores. absurd (false≢true (sym (no_store c is.ranged) ∙ stores));
        room = room;
        idle = idle;
        ungranted = ungranted;
        seconds = seconds;
      }
