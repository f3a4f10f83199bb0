-- From the turn to the detach: a plan may be made, and what it leaves of the rows.
--     may_plan      the turn gives all that a plan asks
--     left_by_plan      the rows after a plan, as a detach and an apply see them
--     exact_after_plan, space_after_plan, count_after_plan      they are the same rows
use Rattle.std.specs.Prelude.{◌≡◌, ℕ, ◌+◌, ◌*◌, ◌<◌, ◌&&◌, Bool, true, false, cond, List, [], ◌∷◌, length, nat_eq, slice_get, slice_index_or, is_none, is_some, Option, Some, None, IsNone}
use Rattle.std.specs.List.{All, AllZip, Contains}
use Rattle.std.proofs.Common.{sym, refl, ◌∙◌, ap, subst, arith, inl, inr}
use Rattle.std.proofs.lemmas.Bool.{true≢false}
use Rattle.std.proofs.lemmas.Option.{slice_get-get_or}
use Rattle.corten_base.specs.declared.permissions.Perm.{Perm}
use Rattle.corten_base.specs.declared.calls.Backing.{Backing}
use Rattle.corten_base.specs.declared.calls.Backing.TheVariants as backing
use Rattle.corten_base.specs.declared.calls.Call.{Call}
use Rattle.page_map.specs.Effect.{space_of}
use Rattle.page_map.specs.State.{State}
use Rattle.page_map.specs.Step.{arguments}
use Rattle.row_cells.specs.declared.Cell.{Cell}
use Rattle.row_cells.specs.declared.Cell.TheVariants.{Invalid, Table, Anon, File, Mapped, Swapped}
use Rattle.row_table.specs.Books.{Learns, turned}
use Rattle.row_table.specs.Moves.{NotInHand}
use Rattle.table_place.specs.declared.Place.{Place}
use Rattle.tree_lock.specs.Held.{row_numbers}
use Rattle.tree_lock.specs.Release.{HoldsExactly}
use Rattle.walk_core.specs.Lists.{times}
use Rattle.walk_core.proofs.RowLists.{head_or_later, in_head, in_tail}
use Rattle.machine_plan.specs.declared.kit.Kit.{Kit}
use Rattle.machine_plan.specs.Agrees.{Agrees, Shown, HasBytes}
use Rattle.machine_plan.specs.Books.{BookData, state_of}
use Rattle.machine_plan.specs.Cover.{HasCover}
use Rattle.machine_plan.specs.Follows.{machine}
use Rattle.machine_plan.specs.Held.{HeldWith, ListHolds}
use Rattle.machine_plan.specs.HeldRows.{Row, RowsShown, AreOf}
use Rattle.machine_plan.specs.Uses.{uses_page, zone_of}
use Rattle.machine_plan.specs.Whole.{IsBook}
use Rattle.machine_plan.proofs.Holding.{turn_agrees, list_is_cover}
use Rattle.machine_plan.proofs.Levels.{has_levels}
use Rattle.machine_plan.proofs.Whole.{book_is_consistent}
use Rattle.book.proofs.AccessSettles.{state_files}
use Rattle.range_cursor.specs.Drawing.{IsDrawnRow}
use Rattle.range_cursor.specs.Drawing as drawing
use Rattle.range_cursor.specs.Plans.{IsPlannable, IsDrawn, Plans}
use Rattle.cursor_detach.specs.Left.{came_from, drawn_cell, is_taken, AreLeft}
use Rattle.call_steps.specs.Ready.{View, IsCovered, IsPrepared}

-- ---- before the plan

pub rows_shown : (a : BookData) (v : View) (rows : List Row) → HeldWith a v rows → RowsShown (state_of a) rows
rows_shown a v rows held x has = let h = held.each x has in subst (λ (p : Place). Shown (state_of a) p x.content) h.same_place h.agrees.shown

bytes_of : (a : BookData) (p : Place) (words : List ℕ) (cells : List Cell) → Agrees a p words cells → All (HasBytes a) cells
bytes_of a p words cells agrees k d inside = agrees.kept k (slice_index_or cells k d) (let whole = agrees.shown.whole in omega (arith, inside, whole)) (slice_get-get_or cells k d inside)

module _ (files count depth : ℕ) (a : BookData) (thread : ℕ) (c : Call) (v : View) (rows : List Row) (is : IsBook a) (same_levels : a.limits.levels ≡ depth) (same_layout : v.layout.levels ≡ depth) (same_files : length a.files ≡ files)
    (covered : IsCovered files thread c v rows) (learns : Learns machine count v a) where
  pub held_then : HeldWith a (turned machine v a) rows
  held_then = turn_agrees count v rows a covered.in_tree covered.listed learns

  pub cover_then : IsNone (arguments (state_of a) c) → HasCover (zone_of thread c) (state_of a) (ListHolds rows)
  cover_then none = (list_is_cover (zone_of thread c) count v rows a (book_is_consistent a is) (same_layout ∙ sym same_levels)
      (covered.covers (state_of a) (has_levels a ∙ (same_levels ∙ sym same_layout)) (ap length (state_files a) ∙ same_files) none) covered.listed learns).1

-- whatever the rows agree with, as a book before or after a sweep
module _ (files depth : ℕ) (a : BookData) (thread : ℕ) (c : Call) (v w : View) (rows : List Row) (is : IsBook a) (same_levels : a.limits.levels ≡ depth) (covered : IsCovered files thread c v rows) (held : HeldWith a w rows)
    (cover : IsNone (arguments (state_of a) c) → HasCover (zone_of thread c) (state_of a) (ListHolds rows)) where
  pub may_plan : (kit : Kit) → IsPrepared thread c rows kit → IsPlannable a thread c depth a.files rows kit
  may_plan kit ready = record {
    consistent = book_is_consistent a is;
    same_levels = has_levels a ∙ same_levels;
    same_files = state_files a;
    shown = rows_shown a w rows held;
    cover = cover;
    one_space = covered.one_space;
    backed = λ _ x has. let h = held.each x has in bytes_of a h.known.place h.known.words x.content h.agrees;
    no_seconds = λ _. ready.no_seconds;
    seconds = λ s e. absurd (true≢false (sym (ap Rattle.range_cursor.specs.Plans.is_fork e) ∙ ready.no_copy));
    room = ready.room;
    lists = ready.lists;
    idle = ready.idle;
    ungranted = ready.ungranted;
    pieces = ready.pieces a (rows_shown a w rows held);
  }

-- ---- after the plan

same_came : (origin : Backing) (perm : Perm) → drawing.cell_from origin perm ≡ came_from origin perm
same_came backing.Zero perm = refl
same_came (backing.File file index) perm = refl

same_drawn : (cell : Cell) → drawing.drawn_cell cell ≡ drawn_cell cell
same_drawn Invalid = refl
same_drawn Table = refl
same_drawn (Anon perm) = refl
same_drawn (File perm file index) = refl
same_drawn (Mapped perm origin frame) = same_came origin perm
same_drawn (Swapped perm origin slot) = same_came origin perm

-- an entry of a row of a plan's list
abbrev drawn_entry : State → ℕ → Call → Row → ℕ → Bool
drawn_entry st thread c x index = nat_eq x.place.level 1 && uses_page st thread c x.place.space (512 * x.place.prefix + index)

record IsRowAfter (st : State) (thread : ℕ) (c : Call) (kit : Kit) (old new : Row) : Type 0 where
  pub same_row : new.row ≡ old.row
  pub same_place : new.place ≡ old.place
  pub whole : length new.content ≡ length old.content
  pub each : (index : ℕ) (cell : Cell) → index < 512 → slice_get old.content index ≡ Some cell
      → slice_get new.content index ≡ Some (cond (is_taken st thread c kit new.place index) (drawn_cell cell) cell)

find_old : (R : Row → Row → Type 0) (xs ys : List Row) → AllZip R xs ys → (y : Row) → Contains ys y → (x : Row) × Contains xs x × R x y
find_old R [] [] all y has = absurd (omega (arith, has.1))
find_old R [] (z ∷ ys) all y has = absurd all
find_old R (x ∷ xs) [] all y has = absurd all
find_old R (x ∷ xs) (z ∷ ys) all y has = elim (head_or_later z ys y has) [
  | inl e ↦ (x, in_head x xs, subst (R x) e all.0)
  | inr later ↦ let o = find_old R xs ys all.1 y later in (o.0, in_tail x xs o.0 o.1, o.2)
]

find_new : (R : Row → Row → Type 0) (xs ys : List Row) → AllZip R xs ys → (x : Row) → Contains xs x → (y : Row) × Contains ys y × R x y
find_new R [] [] all x has = absurd (omega (arith, has.1))
find_new R [] (z ∷ ys) all x has = absurd all
find_new R (w ∷ xs) [] all x has = absurd all
find_new R (w ∷ xs) (z ∷ ys) all x has = elim (head_or_later w xs x has) [
  | inl e ↦ (z, in_head z ys, subst (λ (u : Row). R u z) e all.0)
  | inr later ↦ let o = find_new R xs ys all.1 x later in (o.0, in_tail z ys o.0 o.1, o.2)
]

as_many : (R : Row → Row → Type 0) (xs ys : List Row) → AllZip R xs ys → length ys ≡ length xs
as_many R [] [] all = refl
as_many R [] (z ∷ ys) all = absurd all
as_many R (x ∷ xs) [] all = absurd all
as_many R (x ∷ xs) (z ∷ ys) all = let rest = as_many R xs ys all.1 in omega (arith, rest)

same_numbers : (R : Row → Row → Type 0) (same : (x y : Row) → R x y → y.row ≡ x.row) (xs ys : List Row) → AllZip R xs ys → row_numbers ys ≡ row_numbers xs
same_numbers R same [] [] all = refl
same_numbers R same [] (z ∷ ys) all = absurd all
same_numbers R same (x ∷ xs) [] all = absurd all
same_numbers R same (x ∷ xs) (z ∷ ys) all = let rest = same_numbers R same xs ys all.1 in λ i. same x z all.0 i ∷ rest i

module _ (a : BookData) (thread : ℕ) (c : Call) (v : View) (rows rows' : List Row) (kit planned kit' : Kit) (held : HeldWith a v rows) (plans : Plans a thread c rows kit rows' planned) (early : kit'.early ≡ planned.early) where
  st : State
  st = state_of a

  row_after : (y : Row) → Contains rows' y → (x : Row) × Contains rows x × IsRowAfter (state_of a) thread c kit' x y
  row_after y has = go planned.early refl
    where
      go : (o : Option _) → planned.early ≡ o → (x : Row) × Contains rows x × IsRowAfter (state_of a) thread c kit' x y
      go None e =
          let o = find_old (IsDrawnRow (uses_page (state_of a) thread c)) rows rows' (plans.drawn (ap is_some e)) y has in
          let d : IsDrawnRow (uses_page (state_of a) thread c) o.0 y = o.2 in
          let none : is_none kit'.early ≡ true = ap is_none (early ∙ e) in (
            o.0,
            o.1,
            record {
              same_row = d.same_row;
              same_place = d.same_place;
              whole = d.whole;
              each = λ index cell inside there. d.each index cell inside there
                  ∙ ap Some ((λ i. cond (drawn_entry (state_of a) thread c o.0 index) (same_drawn cell i) cell)
                  ∙ (λ i. cond (sym none i && (nat_eq (sym d.same_place i).level 1 && uses_page (state_of a) thread c (sym d.same_place i).space (512 * (sym d.same_place i).prefix + index))) (drawn_cell cell) cell));
            },
          )
      go (Some r) e =
          let same = plans.untouched (ap is_some e) in
          let some : is_none kit'.early ≡ false = ap is_none (early ∙ e) in (
            y,
            subst (λ (l : List Row). Contains l y) same has,
            record {
              same_row = refl;
              same_place = refl;
              whole = refl;
              each = λ index cell inside there. there ∙ ap Some (λ i. cond (sym some i && (nat_eq y.place.level 1 && uses_page (state_of a) thread c y.place.space (512 * y.place.prefix + index))) (drawn_cell cell) cell);
            },
          )

  pub left_by_plan : AreLeft a a thread c kit' v rows'
  left_by_plan y has =
      let o = row_after y has in
      let h = held.each o.0 o.1 in
      let d = o.2 in
      record {
        known = h.known;
        held = h.held;
        same_row = h.same_row ∙ sym d.same_row;
        same_place = h.same_place ∙ sym d.same_place;
        linked = subst (NotInHand v) (sym d.same_row) h.linked;
        old_words = h.known.words;
        old_cells = o.0.content;
        agreed = h.agrees;
        whole = d.whole ∙ h.agrees.shown.whole;
        cut = λ index inside removed. absurd (true≢false (sym removed.0 ∙ removed.1));
        word = λ index inside stays. refl;
        cell = λ index cell inside stays there. d.each index cell inside there;
      }

  pub numbers_after_plan : row_numbers rows' ≡ row_numbers rows
  numbers_after_plan = go planned.early refl
    where
      go : (o : Option _) → planned.early ≡ o → row_numbers rows' ≡ row_numbers rows
      go None e = same_numbers (IsDrawnRow (uses_page (state_of a) thread c)) (λ x y d. d.same_row) rows rows' (plans.drawn (ap is_some e))
      go (Some r) e = ap row_numbers (plans.untouched (ap is_some e))

  pub exact_after_plan : HoldsExactly rows' v.core.held v.rows
  exact_after_plan = record { held = λ r. ap (times r) numbers_after_plan ∙ held.exact.held r; shown = held.exact.shown }

  pub space_after_plan : ((s : ℕ) → space_of c ≡ Some s → AreOf s rows) → (s : ℕ) → space_of c ≡ Some s → AreOf s rows'
  space_after_plan of s e y has low =
      let o = row_after y has in
      ap (λ (p : Place). p.space) o.2.same_place ∙ of s e o.0 o.1 (let same = ap (λ (p : Place). p.level) o.2.same_place in omega (arith, low, same))

  pub count_after_plan : length rows' ≡ length rows
  count_after_plan = go planned.early refl
    where
      go : (o : Option _) → planned.early ≡ o → length rows' ≡ length rows
      go None e = as_many (IsDrawnRow (uses_page (state_of a) thread c)) rows rows' (plans.drawn (ap is_some e))
      go (Some r) e = ap length (plans.untouched (ap is_some e))

  -- each row of the list is left in it
  pub still_listed : (p : Place) → ListHolds rows p → ListHolds rows' p
  still_listed p at = go planned.early refl
    where
      go : (o : Option _) → planned.early ≡ o → ListHolds rows' p
      go None e = let n = find_new (IsDrawnRow (uses_page (state_of a) thread c)) rows rows' (plans.drawn (ap is_some e)) at.0 at.1 in (n.0, n.1, n.2.same_place ∙ at.2)
      go (Some r) e = (at.0, subst (λ (l : List Row). Contains l at.0) (sym (plans.untouched (ap is_some e))) at.1, at.2)
