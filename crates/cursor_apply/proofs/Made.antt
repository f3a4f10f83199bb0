-- A call that was accepted, and the state that it made.
--     IsMade      so
--     is_made      what is done was accepted
--     as_changed      the state differs in the cells of one space and in the tables
--     kept_count, came_count      a frame that a page of the space had and has keeps its count;  one without owner has one
--     unused_stays, plain_stays      a page that the call does not use stays as the rows know it, and so does one that has no number afterwards
use Rattle.std.specs.Prelude.{◌≡◌, ℕ, Bool, true, false, [], ◌∷◌, length, Option, Some, None, is_some}
use Rattle.std.proofs.Common.{sym, refl, ◌∙◌, ap, subst}
use Rattle.std.proofs.lemmas.Bool.{true≢false}
use Rattle.corten_base.specs.declared.calls.Call.{Call}
use Rattle.corten_base.specs.declared.calls.Call.TheVariants as call
use Rattle.corten_base.specs.declared.calls.Reply.{Reply}
use Rattle.page_map.specs.declared.cell.Cell.{Cell as PageCell}
use Rattle.page_map.specs.declared.cell.Cell.TheVariants as page
use Rattle.page_map.specs.Cell.{frame_of, slot_of}
use Rattle.page_map.specs.Effect.{space_of, cells_after, state_after, wanted_tables, is_given_up}
use Rattle.page_map.specs.State.{State, IsConsistent, levels, levels_of, cell_at, SharersAgree, is_present, frame_owners}
use Rattle.page_map.specs.Step.{refusal, first_refusal}
use Rattle.page_map.specs.Tables.{changed_tables, need}
use Rattle.page_map.proofs.Alike.{has_no_number}
use Rattle.page_map.proofs.Cells.{changed}
use Rattle.page_map.proofs.Named.{absent_cell, after_unnamed}
use Rattle.page_map.proofs.Steps.{Passed, passed, accepted, not_none}
use Rattle.machine_plan.specs.declared.kit.Kit.{Kit}
use Rattle.machine_plan.specs.Books.{BookData, state_of}
use Rattle.machine_plan.specs.Follows.{KeepsPage}
use Rattle.machine_plan.specs.Kits.{IsGranted}
use Rattle.machine_plan.specs.Local.{CountsAre}
use Rattle.machine_plan.specs.Uses.{early_refusal, uses_page}
use Rattle.machine_plan.proofs.Following.{sole_stays, spare_stays}
use Rattle.machine_plan.proofs.Levels.{has_levels}
use Rattle.cursor_detach.specs.Left.{IsCommitted}
use Rattle.cursor_apply.specs.Moving.{IsMove}
use Rattle.cursor_apply.proofs.Outcomes.{Outcome, outcome}
use Rattle.cursor_apply.proofs.Sole as sole

pub record IsMade (a b : BookData) (thread : ℕ) (c : Call) (kit : Kit) : Type 0 where
  pub limbo : ℕ
  pub ok : Passed (state_of a) thread c limbo
  pub state : state_of b ≡ state_after (state_of a) thread c
  pub same_levels : levels (state_of b) ≡ levels (state_of a)
  pub early : kit.early ≡ None
  pub filled : Kit
  pub rows_needed : filled.rows_needed ≡ need (wanted_tables (state_of a) thread c) (state_of a).tables
  pub answered : Kit
  pub same : kit ≡ record answered { gone = kit.gone }
  pub granted : IsGranted a thread c filled b answered

pub is_made : (a b : BookData) (thread : ℕ) (c : Call) (kit answered : Kit) → kit.done ≡ true → kit ≡ record answered { gone = kit.gone } → IsCommitted a b thread c answered → IsMade a b thread c kit
is_made a b thread c kit answered done same committed = go (refusal (state_of a) thread c (length a.limbo)) refl
  where
    not_early : Passed (state_of a) thread c (length a.limbo) → early_refusal (state_of a) thread c ≡ None
    not_early ok = λ i. first_refusal (ok.arguments i ∷ ok.space i ∷ ok.spaces i ∷ ok.place i ∷ ok.pages i ∷ [])

    go : (o : Option Reply) → refusal (state_of a) thread c (length a.limbo) ≡ o → IsMade a b thread c kit
    go (Some r) e =
        let is = committed.commits.refused (ap (λ (x : Option Reply). is_some x) e) in
        absurd (true≢false (sym done ∙ (ap (λ (k : Kit). k.done) same ∙ (ap (λ (k : Kit). k.done) is.same_kit ∙ committed.was_filled.ungranted.not_done))))
    go None e =
        let ok = passed (state_of a) thread c (length a.limbo) e in
        record {
          limbo = length a.limbo;
          ok = ok;
          state = ap (λ (x : Reply × State). x.1) (committed.commits.is_step ∙ accepted (state_of a) thread c (length a.limbo) e);
          same_levels = has_levels b ∙ (ap levels_of committed.commits.limits.0 ∙ sym (has_levels a));
          early = ap (λ (k : Kit). k.early) same ∙ (committed.commits.same.1 ∙ (committed.was_filled.early ∙ not_early ok));
          filled = committed.filled;
          rows_needed = (committed.was_filled.planned (ap (λ (x : Option Reply). is_some x) (committed.was_filled.early ∙ not_early ok))).rows;
          answered = answered;
          same = same;
          granted = committed.commits.accepted (ap (λ (x : Option Reply). is_some x) e);
        }

pub as_changed : (st : State) (thread : ℕ) (c : Call) (s : ℕ) → IsMove c → space_of c ≡ Some s
    → state_after st thread c ≡ changed st s (cells_after st thread c) (changed_tables (is_given_up st c) (wanted_tables st thread c) st.tables)
unfolding state_after
as_changed st thread (call.Load space at len) s move is = let same : space ≡ s = cc in ap (λ k. changed st k (cells_after st thread (call.Load space at len)) (changed_tables (is_given_up st (call.Load space at len)) (wanted_tables st thread (call.Load space at len)) st.tables)) same
as_changed st thread (call.Store space at bytes) s move is = let same : space ≡ s = cc in ap (λ k. changed st k (cells_after st thread (call.Store space at bytes)) (changed_tables (is_given_up st (call.Store space at bytes)) (wanted_tables st thread (call.Store space at bytes)) st.tables)) same
as_changed st thread (call.Fault space at write) s move is = let same : space ≡ s = cc in ap (λ k. changed st k (cells_after st thread (call.Fault space at write)) (changed_tables (is_given_up st (call.Fault space at write)) (wanted_tables st thread (call.Fault space at write)) st.tables)) same
as_changed st thread (call.SwapOut space at len) s move is = let same : space ≡ s = cc in ap (λ k. changed st k (cells_after st thread (call.SwapOut space at len)) (changed_tables (is_given_up st (call.SwapOut space at len)) (wanted_tables st thread (call.SwapOut space at len)) st.tables)) same
as_changed st thread (call.SwapIn space at len) s move is = let same : space ≡ s = cc in ap (λ k. changed st k (cells_after st thread (call.SwapIn space at len)) (changed_tables (is_given_up st (call.SwapIn space at len)) (wanted_tables st thread (call.SwapIn space at len)) st.tables)) same
as_changed st thread (call.Map space where_to len perm what) s move is = absurd move
as_changed st thread (call.Unmap space at len) s move is = absurd move
as_changed st thread (call.Protect space at len perm) s move is = absurd move
as_changed st thread call.Spawn s move is = absurd move
as_changed st thread (call.Fork space) s move is = absurd move
as_changed st thread (call.Exit space) s move is = absurd move
as_changed st thread (call.Txn space at len ops) s move is = absurd move
as_changed st thread (call.DontNeed space at len) s move is = absurd move
as_changed st thread (call.Remap space at old_len new_len) s move is = absurd move

-- a space with a cell is there
pub present : (st : State) (s p : ℕ) (x : PageCell) → cell_at st s p ≡ Some x → is_present st s ≡ true
present st s p x there = go (is_present st s) refl
  where
    go : (t : Bool) → is_present st s ≡ t → is_present st s ≡ true
    go true e = e
    go false e = absurd (not_none (sym there ∙ absent_cell st s p e))

-- the cell of a page that has no number
no_frame : (x : PageCell) → has_no_number (Some x) ≡ true → (frame_of x ≡ None) × (slot_of x ≡ None)
no_frame (page.Anon perm) plain = (refl, refl)
no_frame (page.File perm file index) plain = (refl, refl)
no_frame (page.Mapped perm origin f bytes) plain = absurd (true≢false (sym plain))
no_frame (page.Swapped perm origin s bytes) plain = absurd (true≢false (sym plain))

module _ (a b : BookData) (thread : ℕ) (c : Call) (kit : Kit) (made : IsMade a b thread c kit) (move : IsMove c) (after : IsConsistent (state_of b)) (before : IsConsistent (state_of a)) (counts : CountsAre a × CountsAre b) where
  abbrev st : State
  st = state_of a

  abbrev now : State
  now = state_of b

  module _ (s : ℕ) (here : space_of c ≡ Some s) where
    is_changed : now ≡ changed st s (cells_after st thread c) (changed_tables (is_given_up st c) (wanted_tables st thread c) st.tables)
    is_changed = made.state ∙ as_changed st thread c s move here

    pub kept_count : (p q n : ℕ) (x y : PageCell) → cell_at st s p ≡ Some x → frame_of x ≡ Some n → cell_at now s q ≡ Some y → frame_of y ≡ Some n → frame_owners now n ≡ frame_owners st n
    kept_count p q n x y had carried has carries =
        ap (λ (t : State). frame_owners t n) is_changed
        ∙ sole.kept_count frame_of n st s (cells_after st thread c) (changed_tables (is_given_up st c) (wanted_tables st thread c) st.tables) (present st s p x had) before.shared_frames
        (subst (λ (t : State). SharersAgree frame_of t) is_changed after.shared_frames) p q x y had carried (ap (λ (t : State). cell_at t s q) (sym is_changed) ∙ has) carries

    pub came_count : (p q n : ℕ) (x y : PageCell) → cell_at st s p ≡ Some x → frame_owners st n ≡ 0 → cell_at now s q ≡ Some y → frame_of y ≡ Some n → frame_owners now n ≡ 1
    came_count p q n x y had free has carries =
        ap (λ (t : State). frame_owners t n) is_changed
        ∙ sole.came_count frame_of n st s (cells_after st thread c) (changed_tables (is_given_up st c) (wanted_tables st thread c) st.tables) (present st s p x had)
        (subst (λ (t : State). SharersAgree frame_of t) is_changed after.shared_frames) q y free (ap (λ (t : State). cell_at t s q) (sym is_changed) ∙ has) carries

  pub unused_stays : (s p : ℕ) → uses_page st thread c s p ≡ false → KeepsPage a b s p
  unused_stays s p unused = record {
    cell = ap (λ (t : State). cell_at t s p) made.state ∙ stays c move unused made.ok;
    sole = λ x n there has. sole_stays frame_of a b thread c a.frames b.frames counts.0.frames made.granted.frames_kept s p unused x n there has counts.1.frames;
    frame_spare = λ x n there has. spare_stays frame_of a b thread c a.frames b.frames counts.0.frames made.granted.frames_kept s p unused x n there has;
    slot_spare = λ x n there has. spare_stays slot_of a b thread c a.slots b.slots counts.0.slots made.granted.slots_kept s p unused x n there has;
  }
    where
      stays : (c : Call) → IsMove c → uses_page st thread c s p ≡ false → Passed st thread c made.limbo → cell_at (state_after st thread c) s p ≡ cell_at st s p
      stays (call.Load space at len) move h ok = after_unnamed st thread made.limbo s p (call.Load space at len) h ok
      stays (call.Store space at bytes) move h ok = after_unnamed st thread made.limbo s p (call.Store space at bytes) h ok
      stays (call.Fault space at write) move h ok = after_unnamed st thread made.limbo s p (call.Fault space at write) h ok
      stays (call.SwapOut space at len) move h ok = after_unnamed st thread made.limbo s p (call.SwapOut space at len) h ok
      stays (call.SwapIn space at len) move h ok = after_unnamed st thread made.limbo s p (call.SwapIn space at len) h ok
      stays (call.Map space where_to len perm what) move h ok = absurd move
      stays (call.Unmap space at len) move h ok = absurd move
      stays (call.Protect space at len perm) move h ok = absurd move
      stays call.Spawn move h ok = absurd move
      stays (call.Fork space) move h ok = absurd move
      stays (call.Exit space) move h ok = absurd move
      stays (call.Txn space at len ops) move h ok = absurd move
      stays (call.DontNeed space at len) move h ok = absurd move
      stays (call.Remap space at old_len new_len) move h ok = absurd move

  -- a used page before and after
  pub came : (s p : ℕ) → uses_page st thread c s p ≡ true → (e : PageCell) → cell_at st s p ≡ Some e → (d : PageCell) × (cell_at now s p ≡ Some d) × Outcome st c p e d
  came s p uses e there =
      let o = (outcome st thread made.limbo s p c move made.ok uses).0 e there in
      (o.0, ap (λ (t : State). cell_at t s p) made.state ∙ o.1, o.2)

  pub still_none : (s p : ℕ) → uses_page st thread c s p ≡ true → cell_at st s p ≡ None → cell_at now s p ≡ None
  still_none s p uses none = ap (λ (t : State). cell_at t s p) made.state ∙ (outcome st thread made.limbo s p c move made.ok uses).1 none

  pub plain_stays : (s p : ℕ) → uses_page st thread c s p ≡ true → has_no_number (cell_at now s p) ≡ true → KeepsPage a b s p
  plain_stays s p uses plain = go (cell_at st s p) refl
    where
      keeps : cell_at now s p ≡ cell_at st s p → KeepsPage a b s p
      keeps same =
          let none = λ (x : PageCell) (there : cell_at st s p ≡ Some x). no_frame x (sym (ap has_no_number (same ∙ there)) ∙ plain) in
          record {
            cell = same;
            sole = λ x n there has. absurd (not_none (sym has ∙ (none x there).0));
            frame_spare = λ x n there has. absurd (not_none (sym has ∙ (none x there).0));
            slot_spare = λ x n there has. absurd (not_none (sym has ∙ (none x there).1));
          }

      go : (o : Option PageCell) → cell_at st s p ≡ o → KeepsPage a b s p
      go None e = keeps (still_none s p uses e ∙ sym e)
      go (Some x) e =
          let o = came s p uses x e in
          let none = no_frame o.0 (sym (ap has_no_number o.1) ∙ plain) in
          keeps (o.1 ∙ (ap Some (o.2.plain none.0 none.1) ∙ sym e))
