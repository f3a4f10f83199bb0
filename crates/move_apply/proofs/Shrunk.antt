-- A call that leaves its range no longer than it was, as an operation that clears the pages behind its new end.
--     two_changes, second_change      its kit has two changes;  the second of them
--     may_clear, shrink_applied      its rows may be changed;  what is left once they are
use Rattle.std.specs.Prelude.{◌≡◌, ℕ, ◌+◌, ◌-◌, ◌*◌, ◌/◌, ◌^◌, ◌<◌, ◌≤◌, ◌||◌, Bool, true, false, cond, nat_eq, List, [], ◌∷◌, length, slice_index_or, Option, None}
use Rattle.std.specs.Option.{unwrap_or}
use Rattle.std.specs.FinMap.{get}
use Rattle.std.proofs.Common.{sym, refl, ◌∙◌, ap, subst, arith, eq-eqb}
use Rattle.std.proofs.lemmas.Bool.{true≢false, and_parts, false_from_ne_true}
use Rattle.corten_base.specs.declared.calls.Call.TheVariants as call
use Rattle.corten_base.specs.declared.calls.TxnOp.{TxnOp}
use Rattle.corten_base.specs.declared.calls.TxnOp.TheVariants as op
use Rattle.corten_base.specs.declared.permissions.Perm.{Perm}
use Rattle.page_map.specs.declared.cell.Cell.{Cell as PageCell}
use Rattle.page_map.specs.Cell.{AddressSpace}
use Rattle.page_map.specs.Change.{change}
use Rattle.page_map.specs.Effect.{state_after}
use Rattle.page_map.specs.Mapping.{gap, is_length, op_first, op_pages}
use Rattle.page_map.specs.Memory.{is_resized}
use Rattle.page_map.specs.Remap.{Resize, resize_of, moves, put_at, left_first, left_count, filled_first, filled_count, cell_for, remapped}
use Rattle.page_map.specs.State.{State, levels, space_at, cell_at}
use Rattle.page_map.proofs.Cells.{cell_changed}
use Rattle.page_map.proofs.Mappings.{page_range, user_few}
use Rattle.page_map.proofs.NeedOfRemap.{shrunk_stays}
use Rattle.page_map.proofs.Range.{get-change}
use Rattle.page_map.proofs.Unmapped.{held_of}
use Rattle.row_cells.specs.declared.Cell.{Cell}
use Rattle.row_table.specs.declared.view.PassView.{PassView}
use Rattle.table_place.specs.declared.Place.{Place}
use Rattle.table_place.specs.Place.{is_page_range, pages_of}
use Rattle.table_place.specs.Range.{within}
use Rattle.table_place.proofs.Tables.{in_range}
use Rattle.machine_plan.specs.declared.kit.Change.{Change}
use Rattle.machine_plan.specs.declared.kit.Change.TheVariants.{Op, Move, GiveUp}
use Rattle.machine_plan.specs.declared.kit.Kit.{Kit}
use Rattle.machine_plan.specs.Books.{BookData, state_of}
use Rattle.machine_plan.specs.Changes.{made_by}
use Rattle.machine_plan.specs.Given.{IsRemoved}
use Rattle.machine_plan.specs.HeldRows.{Row}
use Rattle.machine_plan.specs.Kits.{HasRoom, IsIdle, IsUngranted}
use Rattle.machine_plan.specs.Uses.{uses_page, changes_of}
use Rattle.cursor_apply.specs.declared.becoming.Making.TheVariants.{Clear, Permit}
use Rattle.cursor_apply.specs.declared.becoming.RangeChange.{RangeChange}
use Rattle.cursor_apply.specs.Applying.{Applied}
use Rattle.cursor_apply.specs.Changed.{LiesIn, IsChange, AreChanged, MayChangeBy, ChangesBy, clean, op_change}
use Rattle.move_apply.specs.Resizing.{IsResizable, clearing}
use Rattle.move_apply.proofs.InPlace.{ok, now_is, changes_are, gone_lies, between_state, is_base, is_change, resize_applied}
use Rattle.cursor_apply.proofs.Ranged.{made_at}

-- ---- the cells of a range that stays

pub out_of : (first n q : ℕ) → (first ≤ q → q < first + n → ⊥) → within first n q ≡ false
out_of first n q h = false_from_ne_true _ (λ w. h (in_range first n q w).0 (in_range first n q w).1)

module _ (L thread : ℕ) (r : Resize) (cells : AddressSpace) where
  -- by whether the range moves
  abbrev at_by : Bool → ℕ → Option PageCell
  at_by m p =
      let to : ℕ = cond m (unwrap_or (gap thread cells r.new) 0) r.first in
      cond (within (cond m to (r.first + r.old)) (cond m r.new (r.new - r.old)) p) (cell_for cells r (p - to))
      (cond (within (cond m r.first (r.first + r.new)) (cond m r.old (r.old - r.new)) p) None (get cells p))

  pub stay_at : moves L cells r ≡ false → (p : ℕ) → get (remapped L thread r cells) p
      ≡ cond (within (r.first + r.old) (r.new - r.old) p) (cell_for cells r (p - r.first)) (cond (within (r.first + r.new) (r.old - r.new) p) None (get cells p))
  unfolding remapped
  stay_at e p =
      get-change (change cells (left_first L cells r) (left_count L cells r) (λ page _. None)) (filled_first L thread cells r) (filled_count L cells r) (λ page _. cell_for cells r (page - put_at L thread cells r)) p
      ∙ ap (cond (within (filled_first L thread cells r) (filled_count L cells r) p) (cell_for cells r (p - put_at L thread cells r)))
      (get-change cells (left_first L cells r) (left_count L cells r) (λ page _. None) p)
      ∙ ap (λ m. at_by m p) e

pub cells_remap : (old : State) (thread space at old_len new_len page : ℕ) → cell_at (state_after old thread (call.Remap space at old_len new_len)) space page ≡ get (remapped (levels old) thread (resize_of at old_len new_len) (space_at old space)) page
unfolding state_after
cells_remap old thread space at old_len new_len page =
    let cells = remapped (levels old) thread (resize_of at old_len new_len) (space_at old space) in
    cell_changed old space cells (state_after old thread (call.Remap space at old_len new_len)).tables space page ∙ ap (λ t. cond t (get cells page) (cell_at old space page)) (eq-eqb space space refl)

pub remap_changes : (old : State) (thread space at old_len new_len : ℕ) → changes_of old thread (call.Remap space at old_len new_len)
    ≡ Move (resize_of at old_len new_len).first (resize_of at old_len new_len).old (put_at (levels old) thread (space_at old space) (resize_of at old_len new_len)) (resize_of at old_len new_len).new
    ∷ GiveUp (left_first (levels old) (space_at old space) (resize_of at old_len new_len)) (left_count (levels old) (space_at old space) (resize_of at old_len new_len)) ∷ []
unfolding changes_of
remap_changes old thread space at old_len new_len = refl

module _ {B E : Type 0} (a b : BookData) (thread space at old_len new_len : ℕ) (v : PassView (List Cell) B E) (rows : List Row) (kit : Kit) (is : IsResizable a b thread space at old_len new_len v rows kit) where
  abbrev old : State
  old = state_of a

  abbrev r : Resize
  r = resize_of at old_len new_len

  abbrev cells : AddressSpace
  cells = space_at old space

  abbrev left_from : ℕ
  left_from = left_first (levels old) cells r

  abbrev left_by : ℕ
  left_by = left_count (levels old) cells r

  kit_changes : kit.changes.items ≡ Move r.first r.old (put_at (levels old) thread cells r) r.new ∷ GiveUp left_from left_by ∷ []
  kit_changes = changes_are a b thread space at old_len new_len v rows kit is ∙ remap_changes old thread space at old_len new_len

  pub two_changes : length kit.changes.items ≡ 2
  two_changes = ap length kit_changes

  pub second_change : (d : Change) → slice_index_or kit.changes.items 1 d ≡ GiveUp left_from left_by
  second_change d = ap (λ (l : List Change). slice_index_or l 1 d) kit_changes

  pub first_change : (d : Change) → slice_index_or kit.changes.items 0 d ≡ Move r.first r.old (put_at (levels old) thread cells r) r.new
  first_change d = ap (λ (l : List Change). slice_index_or l 0 d) kit_changes

  module _ (less : pages_of new_len ≤ pages_of old_len) where
    abbrev o : TxnOp
    o = op.Unmap (4096 * (r.first + r.new)) (4096 * (r.old - r.new))

    stays : moves (levels old) cells r ≡ false
    stays = shrunk_stays (levels old) thread r cells less

    begins : left_from ≡ op_first o
    begins = ap (λ m. cond m r.first (r.first + r.new)) stays ∙ go (r.first + r.new)
      where
        go : (n : ℕ) → n ≡ 4096 * n / 4096
        go n = omega arith

    lasts : left_by ≡ op_pages o
    lasts = ap (λ m. cond m r.old (r.old - r.new)) stays ∙ go (r.old - r.new)
      where
        go : (n : ℕ) → n ≡ (4096 * n + 4095) / 4096
        go n = omega arith

    none_filled : (p : ℕ) → within (r.first + r.old) (r.new - r.old) p ≡ false
    none_filled p = out_of (r.first + r.old) (r.new - r.old) p (λ from to. omega (arith, from, to, less))

    cells_now : (page : ℕ) → cell_at (state_of b) space page ≡ get (made_by (Op o) cells) page
    cells_now page =
        ap (λ (s : State). cell_at s space page) (now_is a b thread space at old_len new_len v rows kit is)
        ∙ cells_remap old thread space at old_len new_len page
        ∙ stay_at (levels old) thread r cells stays page
        ∙ ap (λ t. cond t (cell_for cells r (page - r.first)) (cond (within (r.first + r.new) (r.old - r.new) page) None (get cells page))) (none_filled page)
        ∙ (λ i. cond (within (from_there i) (so_many i) page) None (get cells page))
        ∙ sym (made_at (Op o) (op_change o) refl cells page)
      where
        from_there : r.first + r.new ≡ op_first o
        from_there = sym (ap (λ m. cond m r.first (r.first + r.new)) stays) ∙ begins

        so_many : r.old - r.new ≡ op_pages o
        so_many = sym (ap (λ m. cond m r.old (r.old - r.new)) stays) ∙ lasts

    removed : (p : Place) → IsRemoved old (state_of b) p → (Clear ≡ Clear) × LiesIn p (op_first o) (op_pages o)
    removed p gone_p = (refl, subst (λ n. LiesIn p n (op_pages o)) begins (subst (λ n. LiesIn p left_from n) lasts (gone_lies a b thread space at old_len new_len v rows kit is p gone_p)))

    inside : (page : ℕ) → uses_page old thread (call.Remap space at old_len new_len) space page ≡ true → within (op_first o) (op_pages o) page ≡ true
    inside page e = go (within left_from left_by page) refl (and_parts (nat_eq space space) (is_resized old thread space r page) e).1
      where
        filled : within (filled_first (levels old) thread cells r) (filled_count (levels old) cells r) page ≡ false
        filled = ap (λ m. within (cond m (put_at (levels old) thread cells r) (r.first + r.old)) (cond m r.new (r.new - r.old)) page) stays ∙ none_filled page

        go : (t : Bool) → within left_from left_by page ≡ t → (t || within (filled_first (levels old) thread cells r) (filled_count (levels old) cells r) page) ≡ true → within (op_first o) (op_pages o) page ≡ true
        go true f h = sym (λ i. within (begins i) (lasts i) page) ∙ f
        go false f h = absurd (true≢false (sym h ∙ filled))

    end : op_first o + op_pages o < 2 ^ 46
    end =
        let right = (and_parts (is_page_range (levels old) at old_len) (is_length (levels old) new_len) (held_of _ _ (ok a b thread space at old_len new_len v rows kit is).arguments)).0 in
        let few = user_few (levels old) r.first r.old is.consistent.0.few_levels (page_range (levels old) at old_len right).0 in
        low (r.first + r.new) (r.old - r.new) (omega (arith, less, few))
      where
        low : (n m : ℕ) → n + m < 2 ^ 44 → 4096 * n / 4096 + (4096 * m + 4095) / 4096 < 2 ^ 46
        low n m few = omega arith

    same_change : op_change o ≡ record { making = Clear; first = left_from; count = left_by }
    same_change = λ i. record { making = Clear; first = sym begins i; count = sym lasts i }

    no_permit : (perm : Perm) → Clear ≡ Permit perm → ⊥
    no_permit perm e = absurd (cc)

    abbrev mid : State
    mid = between_state a b thread space at old_len new_len v rows kit is o cells_now removed no_permit inside end (λ i low. tt)

    changing : IsChange (record { making = Clear; first = left_from; count = left_by }) space mid (state_of b)
    changing = subst (λ (k : RangeChange). IsChange k space mid (state_of b)) same_change
        (is_change a b thread space at old_len new_len v rows kit is o cells_now removed no_permit inside end (λ i low. tt))

    pub may_clear : MayChangeBy (clearing (GiveUp left_from left_by)) v rows
    may_clear = (b, mid, state_of b, space, uses_page old thread (call.Remap space at old_len new_len) space, is_base a b thread space at old_len new_len v rows kit is o cells_now removed no_permit inside end (λ i low. tt), changing)

    pub shrink_applied : (w : PassView (List Cell) B E) (rows' : List Row) (kit' : Kit) → ChangesBy (clearing (GiveUp left_from left_by)) v rows w rows'
        → HasRoom kit' → IsIdle kit' → IsUngranted kit' → (kit'.second_frames.items ≡ []) × (kit'.second_slots.items ≡ []) → Applied b thread (call.Remap space at old_len new_len) v w rows' kit kit'
    shrink_applied w rows' kit' changes room idle ungranted seconds =
        let taken = uses_page old thread (call.Remap space at old_len new_len) space in
        let base = is_base a b thread space at old_len new_len v rows kit is o cells_now removed no_permit inside end (λ i low. tt) in
        resize_applied a b thread space at old_len new_len v rows kit is o cells_now removed no_permit inside end (λ i low. tt) w rows' kit'
        (subst (λ (k : RangeChange). AreChanged b (state_of b) (clean k.first k.count taken) v rows w rows') (sym same_change) (changes b mid (state_of b) space taken base changing))
        room idle ungranted seconds
