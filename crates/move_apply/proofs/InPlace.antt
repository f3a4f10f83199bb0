-- A call that gives a range another length where it stands, as one change of the pages behind an end of it.
--     remap_is      what is known of such a call that was accepted
--     may_change, changed_applied      its rows may be changed;  what is left once they are
use Rattle.std.specs.Prelude.{◌≡◌, ◌≢◌, ℕ, ◌+◌, ◌^◌, ◌<◌, ◌≤◌, ◌&&◌, Bool, true, false, not, is_none, List, [], ◌∷◌, length, Option, Some, None, is_some}
use Rattle.std.specs.FinMap.{get}
use Rattle.std.specs.FinSet as set
use Rattle.std.proofs.Common.{sym, refl, ◌∙◌, ap, subst, arith, ne_eqb}
use Rattle.std.proofs.lemmas.Bool.{true≢false, false≢true}
use Rattle.corten_base.specs.declared.calls.Call.{Call}
use Rattle.corten_base.specs.declared.calls.Call.TheVariants as call
use Rattle.corten_base.specs.declared.calls.Reply.{Reply}
use Rattle.corten_base.specs.declared.calls.TxnOp.{TxnOp}
use Rattle.corten_base.specs.declared.numbers.Limits.{Limits}
use Rattle.corten_base.specs.declared.permissions.Perm.{Perm}
use Rattle.page_map.specs.Effect.{state_after, is_given_up}
use Rattle.page_map.specs.Mapping.{op_first, op_pages}
use Rattle.page_map.specs.Memory.{is_resized}
use Rattle.page_map.specs.Remap.{Resize, resize_of, left_first, left_count}
use Rattle.page_map.specs.State.{State, levels, space_at, cell_at, start}
use Rattle.page_map.specs.Step.{refusal, first_refusal}
use Rattle.page_map.proofs.Named.{after_unnamed}
use Rattle.page_map.proofs.OwnCalls.{limits_along}
use Rattle.page_map.proofs.Steps.{Passed, accepted, passed}
use Rattle.page_map.proofs.Unmapped.{held_of}
use Rattle.row_cells.specs.declared.Cell.{Cell}
use Rattle.row_table.specs.declared.view.PassView.{PassView}
use Rattle.table_place.specs.declared.Place.{Place}
use Rattle.table_place.specs.Place.{root}
use Rattle.table_place.specs.Range.{within}
use Rattle.table_place.proofs.Tables.{inside_parts}
use Rattle.machine_plan.specs.declared.kit.Change.TheVariants.{Op}
use Rattle.machine_plan.specs.declared.kit.Kit.{Kit}
use Rattle.machine_plan.specs.Books.{BookData, state_of}
use Rattle.machine_plan.specs.Changes.{made_by}
use Rattle.machine_plan.specs.Given.{IsRemoved}
use Rattle.machine_plan.specs.HeldRows.{Row}
use Rattle.machine_plan.specs.Kits.{HasRoom, IsIdle, IsUngranted, IsGranted}
use Rattle.machine_plan.specs.Uses.{early_refusal, uses_page, changes_of}
use Rattle.cursor_apply.specs.declared.becoming.Making.TheVariants.{Clear, Permit}
use Rattle.cursor_apply.specs.Applying.{Applied}
use Rattle.cursor_apply.specs.Between.{IsBetween}
use Rattle.cursor_apply.specs.Changed.{LiesIn, IsChange, IsBase, AreChanged, clean, op_making, op_change}
use Rattle.cursor_apply.specs.Changing.{IsNearAll}
use Rattle.move_apply.specs.Resizing.{IsResizable}
use Rattle.cursor_apply.proofs.Agreed.{agreed}
use Rattle.cursor_apply.proofs.Between.{leads}
use Rattle.cursor_apply.proofs.CallSteps.{gone}
use Rattle.cursor_apply.proofs.FromStaged.{staged_base}
use Rattle.cursor_apply.proofs.Kept.{rows_of_words}
use Rattle.cursor_apply.proofs.Middle.{middle, is_between}

limits_of : (b : BookData) → (state_of b).limits ≡ b.limits
unfolding state_of start
limits_of b = limits_along (start b.limits b.files) b.journal

after_levels : (old : State) (thread : ℕ) (c : Call) → levels (state_after old thread c) ≡ levels old
unfolding state_after
after_levels old thread c = refl

module _ {B E : Type 0} (a b : BookData) (thread space at old_len new_len : ℕ) (v : PassView (List Cell) B E) (rows : List Row) (kit : Kit) (is : IsResizable a b thread space at old_len new_len v rows kit) where
  abbrev c : Call
  c = call.Remap space at old_len new_len

  abbrev old : State
  old = state_of a

  abbrev limbo : ℕ
  limbo = length a.limbo

  abbrev r : Resize
  r = resize_of at old_len new_len

  abbrev taken : ℕ → Bool
  taken = uses_page old thread c space

  fine : refusal old thread c limbo ≡ None
  fine = go (refusal old thread c limbo) refl
    where
      go : (o : Option Reply) → refusal old thread c limbo ≡ o → o ≡ None
      go None e = refl
      go (Some answer) e =
          let undone = ap (λ (k : Kit). k.done) (is.committed.commits.refused (ap (λ (x : Option Reply). is_some x) e)).same_kit ∙ is.committed.was_filled.ungranted.not_done in
          absurd (false≢true (sym undone ∙ (sym (ap (λ (k : Kit). k.done) is.same_kit) ∙ is.done)))

  pub ok : Passed old thread c limbo
  ok = passed old thread c limbo fine

  pub granted : IsGranted a thread c is.committed.filled b is.answered
  granted = is.committed.commits.accepted (ap (λ (x : Option Reply). is_some x) fine)

  pub now_is : state_of b ≡ state_after old thread c
  now_is = ap (λ (x : Reply × State). x.1) is.committed.commits.is_step ∙ ap (λ (x : Reply × State). x.1) (accepted old thread c limbo fine)

  not_early : early_refusal old thread c ≡ None
  not_early = λ i. first_refusal (ok.arguments i ∷ ok.space i ∷ ok.spaces i ∷ ok.place i ∷ ok.pages i ∷ [])

  early_none : is.committed.filled.early ≡ None
  early_none = is.committed.was_filled.early ∙ not_early

  pub early : is_none kit.early ≡ true
  early = ap (λ (k : Kit). is_none k.early) is.same_kit ∙ (ap (λ (o : Option Reply). is_none o) (is.committed.commits.same.1 ∙ early_none))

  pub changes_are : kit.changes.items ≡ changes_of old thread c
  changes_are = ap (λ (k : Kit). k.changes.items) is.same_kit ∙ (is.committed.commits.same.0 ∙ (is.committed.was_filled.planned (ap (λ (x : Option Reply). is_some x) early_none)).changes)

  pub few_frames : old.limits.frames ≤ 4096
  few_frames = subst (λ (l : Limits). l.frames ≤ 4096) (sym (limits_of a)) is.books.0.within.frames

  pub same_levels : levels (state_of b) ≡ levels old
  same_levels = ap levels now_is ∙ after_levels old thread c

  pub others : (s p : ℕ) → s ≢ space → cell_at (state_of b) s p ≡ cell_at old s p
  others s p ne = ap (λ (x : State). cell_at x s p) now_is ∙ after_unnamed old thread limbo s p c (ap (λ t. t && is_resized old thread space r p) (ne_eqb s space ne)) ok

  up : (p : Place) → IsRemoved old (state_of b) p → is_given_up old c p ≡ true
  up p gone_p = gone old thread space is.consistent.0 c p (subst (λ (s : State). IsRemoved old s p) now_is gone_p)

  pub gone_space : (p : Place) → IsRemoved old (state_of b) p → p.space ≡ space
  gone_space p gone_p = (inside_parts (levels old) space (left_first (levels old) (space_at old space) r) (left_count (levels old) (space_at old space) r) p (up p gone_p)).same_space

  -- a table that was removed lies in what the call gives up
  pub gone_lies : (p : Place) → IsRemoved old (state_of b) p → LiesIn p (left_first (levels old) (space_at old space) r) (left_count (levels old) (space_at old space) r)
  gone_lies p gone_p = let parts = inside_parts (levels old) space (left_first (levels old) (space_at old space) r) (left_count (levels old) (space_at old space) r) p (up p gone_p) in (parts.from, parts.to)

  -- the root of the space stays
  pub top_stays : set.contains (state_of b).tables (root (levels (state_of b)) space) ≡ true
  top_stays = ap (λ n. set.contains (state_of b).tables (root n space)) same_levels ∙ go (set.contains (state_of b).tables (root (levels old) space)) refl
    where
      go : (t : Bool) → set.contains (state_of b).tables (root (levels old) space) ≡ t → t ≡ true
      go true e = refl
      go false e =
          let parts = inside_parts (levels old) space (left_first (levels old) (space_at old space) r) (left_count (levels old) (space_at old space) r) (root (levels old) space)
          (up (root (levels old) space) (is.consistent.0.roots space (held_of _ _ ok.space), e)) in
          let low = parts.below in absurd (omega arith)

  -- where all that the call changes lies in the range of one operation, which makes the same of it
  module _ (o : TxnOp) (cells : (page : ℕ) → cell_at (state_of b) space page ≡ get (made_by (Op o) (space_at old space)) page)
      (removed : (p : Place) → IsRemoved old (state_of b) p → (op_making o ≡ Clear) × LiesIn p (op_first o) (op_pages o)) (no_permit : (perm : Perm) → op_making o ≡ Permit perm → ⊥)
      (inside : (page : ℕ) → taken page ≡ true → within (op_first o) (op_pages o) page ≡ true) (end : op_first o + op_pages o < 2 ^ 46) (near : IsNearAll (op_making o) (op_pages o)) where
    pub between_state : State
    between_state = middle old (state_of b) is.consistent.0 space (op_first o) (op_pages o) taken

    pub between : IsBetween old (state_of b) between_state space taken
    unfolding between_state
    between = is_between old (state_of b) is.consistent.0 space (op_first o) (op_pages o) taken inside (λ p gone_p. (removed p gone_p).1)

    pub is_base : IsBase b between_state space taken v rows
    is_base = staged_base a b thread c kit space between_state is.consistent.0 is.consistent.1 same_levels early few_frames between others gone_space
        is.books.0.counts is.books.1.counts granted.frames_kept granted.slots_kept v rows is.exact is.one_space is.staged

    pub is_change : IsChange (op_change o) space between_state (state_of b)
    is_change = leads (Op o) (op_change o) refl space taken old (state_of b) between_state is.consistent.0 is.consistent.1 same_levels cells between removed
        (λ perm page e. absurd (no_permit perm e)) inside top_stays end near

    -- no word of what the call changes is left
    none_old : (page : ℕ) → clean (op_first o) (op_pages o) taken page ≡ false
    none_old page = go (taken page) refl (within (op_first o) (op_pages o) page) refl
      where
        go : (t : Bool) → taken page ≡ t → (w : Bool) → within (op_first o) (op_pages o) page ≡ w → (t && not w) ≡ false
        go false e w f = refl
        go true e true f = refl
        go true e false f = absurd (true≢false (sym (inside page e) ∙ f))

    pub resize_applied : (w : PassView (List Cell) B E) (rows' : List Row) (kit' : Kit) → AreChanged b (state_of b) (clean (op_first o) (op_pages o) taken) v rows w rows'
        → HasRoom kit' → IsIdle kit' → IsUngranted kit' → (kit'.second_frames.items ≡ []) × (kit'.second_slots.items ≡ []) → Applied b thread c v w rows' kit kit'
    resize_applied w rows' kit' changed room idle ungranted seconds = record {
      view = rows_of_words v w changed.rewrites.view;
      held = agreed b (clean (op_first o) (op_pages o) taken) none_old between_state space taken v rows w rows' is_base changed;
      given = changed.rewrites.given is.given;
      hand = (ap (λ (u : PassView (List Cell) B E). u.hand) changed.rewrites.view ∙ is.hand.0, ap (λ (u : PassView (List Cell) B E). u.core.granted) changed.rewrites.view ∙ is.hand.1);
      stored = λ done h index cell has level low stores. absurd (false≢true stores);
      room = room;
      idle = idle;
      ungranted = ungranted;
      seconds = seconds;
    }
