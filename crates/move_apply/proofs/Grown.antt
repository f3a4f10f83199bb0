-- A call that lets its range grow where it stands, as an operation that maps the pages behind its old end.
--     may_grow, grow_applied      its rows may be changed;  what is left once they are
use Rattle.std.specs.Prelude.{◌≡◌, ℕ, ◌+◌, ◌-◌, ◌*◌, ◌/◌, ◌^◌, ◌<◌, ◌≤◌, ◌&&◌, ◌||◌, Bool, true, false, not, cond, nat_eq, nat_lt, is_none, List, [], length, Option, Some, None}
use Rattle.std.specs.Option.{option_map, option_map_or}
use Rattle.std.specs.FinMap.{get}
use Rattle.std.specs.FinSet as set
use Rattle.std.specs.FinSet.{FinSet}
use Rattle.std.proofs.Common.{sym, refl, ◌∙◌, ap, subst, arith}
use Rattle.std.proofs.lemmas.Bool.{true≢false, and_parts, le-ltb, lt-ltb, ltb-false}
use Rattle.corten_base.specs.declared.calls.Backing.{Backing}
use Rattle.corten_base.specs.declared.calls.Backing.TheVariants as backing
use Rattle.corten_base.specs.declared.calls.Call.TheVariants as call
use Rattle.corten_base.specs.declared.calls.TxnOp.{TxnOp}
use Rattle.corten_base.specs.declared.calls.TxnOp.TheVariants as op
use Rattle.corten_base.specs.declared.permissions.Perm.{Perm}
use Rattle.page_map.specs.declared.cell.Cell.{Cell as PageCell}
use Rattle.page_map.specs.declared.cell.Cell.TheVariants as page
use Rattle.page_map.specs.Cell.{AddressSpace, backed, backing_of, perm_of, index_of, goes_on}
use Rattle.page_map.specs.Mapping.{hole, is_free, is_length, op_first, op_pages}
use Rattle.page_map.specs.Memory.{is_resized}
use Rattle.page_map.specs.Remap.{Resize, resize_of, has_room, put_at, left_first, left_count, filled_first, filled_count, last_cell, cell_for}
use Rattle.page_map.specs.State.{State, levels, space_at, cell_at}
use Rattle.page_map.specs.Step.{hole_reply}
use Rattle.page_map.proofs.Least.{unanswered}
use Rattle.page_map.proofs.Mappings.{page_range, user_few}
use Rattle.page_map.proofs.Remapped.{roomy}
use Rattle.page_map.proofs.Steps.{Passed, not_none}
use Rattle.page_map.proofs.Unmapped.{held_of}
use Rattle.row_cells.specs.declared.Cell.{Cell}
use Rattle.row_cells.specs.declared.Cell.TheVariants as cell
use Rattle.row_table.specs.declared.view.PassView.{PassView}
use Rattle.table_place.specs.declared.Place.{Place}
use Rattle.table_place.specs.Place.{is_page_range, is_user_page, is_user_range, place_cmp, span_first, span_count}
use Rattle.table_place.specs.Range.{within}
use Rattle.table_place.proofs.Spans.{span_pos}
use Rattle.table_place.proofs.Tables.{in_range, to_range, user_page}
use Rattle.tree_lock.specs.declared.zone.Zone.TheVariants as zone
use Rattle.machine_plan.specs.declared.kit.Change.TheVariants.{Op}
use Rattle.machine_plan.specs.declared.kit.Kit.{Kit}
use Rattle.machine_plan.specs.Agrees.{below, IsNoTable, Shows}
use Rattle.machine_plan.specs.Books.{BookData, state_of}
use Rattle.machine_plan.specs.Changes.{made_by}
use Rattle.machine_plan.specs.Given.{IsRemoved}
use Rattle.machine_plan.specs.HeldRows.{Row, IsAsked, is_table}
use Rattle.machine_plan.proofs.Covering.{cell_there}
use Rattle.machine_plan.specs.Kits.{HasRoom, IsIdle, IsUngranted}
use Rattle.machine_plan.specs.Uses.{uses_page}
use Rattle.cursor_apply.specs.declared.becoming.Making.TheVariants.{Clear, Permit}
use Rattle.cursor_apply.specs.declared.becoming.RangeChange.{RangeChange}
use Rattle.cursor_apply.specs.Applying.{Applied}
use Rattle.cursor_apply.specs.Changed.{LiesIn, IsChange, AreChanged, clean, op_change, op_making}
use Rattle.cursor_apply.specs.Changing.{IsNear}
use Rattle.move_apply.specs.Growing.{next_of, backing_behind, goes_behind, IsFill, MayFill, Fills, IsGrowable}
use Rattle.move_apply.specs.Resizing.{IsResizable}
use Rattle.move_apply.proofs.Asked.{ArePlain, covered_asked}
use Rattle.move_apply.proofs.InPlace.{ok, now_is, same_levels, top_stays, gone_lies, between_state, between, is_base, is_change, resize_applied}
use Rattle.cursor_apply.proofs.Ranged.{made_at}
use Rattle.move_apply.proofs.Shrunk.{out_of, stay_at, cells_remap}

-- one page further
backed_next : (o : Backing) (perm : Perm) (i j : ℕ) → i ≡ j + 1 → backed o perm i ≡ backed (next_of o) perm j
backed_next backing.Zero perm i j e = refl
backed_next (backing.File file index) perm i j e = ap (λ n. page.File perm file n) further
  where
    further : index + i ≡ index + 1 + j
    further = omega (arith, e)

near_of : (o : Backing) (perm : Perm) (n i : ℕ) → index_of (backing_of (backed o perm n)) ≤ 2 ^ 62 → i < n → IsNear (next_of o) i
near_of backing.Zero perm n i h low = tt
near_of (backing.File file index) perm n i h low = omega (arith, h, low)

no_link : (st : State) (q : Place) (c : Cell) → IsNoTable st q → Shows st q c → is_table c ≡ false
no_link st q cell.Table lone shows = absurd (true≢false (sym shows ∙ lone))
no_link st q cell.Invalid lone shows = refl
no_link st q (cell.Anon perm) lone shows = refl
no_link st q (cell.File perm file index) lone shows = refl
no_link st q (cell.Mapped perm origin frame) lone shows = refl
no_link st q (cell.Swapped perm origin slot) lone shows = refl

module _ {B E : Type 0} (a b : BookData) (thread space at old_len new_len : ℕ) (v : PassView (List Cell) B E) (rows : List Row) (kit : Kit) (g : IsGrowable a b thread space at old_len new_len v rows kit) where
  abbrev is : IsResizable a b thread space at old_len new_len v rows kit
  is = g.resizable

  abbrev old : State
  old = state_of a

  abbrev r : Resize
  r = resize_of at old_len new_len

  abbrev cells : AddressSpace
  cells = space_at old space

  abbrev taken : ℕ → Bool
  taken = uses_page old thread (call.Remap space at old_len new_len) space

  fine : Passed old thread (call.Remap space at old_len new_len) (length a.limbo)
  fine = ok a b thread space at old_len new_len v rows kit is

  -- ---- the last page

  old_range : (is_user_range (levels old) r.first r.old ≡ true) × (1 ≤ r.old)
  old_range = page_range (levels old) at old_len (and_parts (is_page_range (levels old) at old_len) (is_length (levels old) new_len) (held_of _ _ fine.arguments)).0

  some : 1 ≤ r.old
  some = old_range.1

  old_there : (q : ℕ) → r.first ≤ q → q < r.first + r.old → get cells q ≡ None → ⊥
  old_there q low high none =
      not_none (ap (λ o. cond (is_none o) (Some q) None) (sym none) ∙ unanswered (λ n. cond (is_none (get cells n)) (Some n) None) r.first r.old (no_hole (hole cells at old_len) fine.pages) q low high)
    where
      no_hole : (o : Option ℕ) → hole_reply o ≡ None → o ≡ None
      no_hole None e = refl
      no_hole (Some page) e = absurd (not_none e)

  last : (x : PageCell) × (get cells (r.first + r.old - 1) ≡ Some x)
  last = go (get cells (r.first + r.old - 1)) refl
    where
      go : (o : Option PageCell) → get cells (r.first + r.old - 1) ≡ o → (x : PageCell) × (get cells (r.first + r.old - 1) ≡ Some x)
      go (Some x) e = (x, e)
      go None e = absurd (old_there (r.first + r.old - 1) (omega (arith, some)) (omega (arith, some)) e)

  -- ---- the pages behind it

  more : nat_lt r.old r.new ≡ true
  more = lt-ltb r.old r.new g.more

  user : is_user_range (levels old) (r.first + r.old) (r.new - r.old) ≡ true
  user = (and_parts (is_user_range (levels old) (r.first + r.old) (r.new - r.old)) (is_free cells (r.first + r.old) (r.new - r.old)) (roomy_is (nat_lt r.old r.new) (has_room (levels old) cells r) g.stays more)).0
    where
      roomy_is : (t h : Bool) → (t && not h) ≡ false → t ≡ true → h ≡ true
      roomy_is t true e f = refl
      roomy_is t false e f = absurd (true≢false (sym (ap (λ b. b && true) f) ∙ e))

  near_enough : index_of (backing_of (goes_on last.0 (r.new - r.old))) ≤ 2 ^ 62
  near_enough = ltb-false (2 ^ 62) (index_of (backing_of (goes_on last.0 (r.new - r.old))))
      (sym (ap (λ o. option_map_or (λ l. nat_lt (2 ^ 62) (index_of (backing_of (goes_on l (r.new - r.old))))) o false) last.1)
      ∙ (sym (ap (λ t. t && option_map_or (λ l. nat_lt (2 ^ 62) (index_of (backing_of (goes_on l (r.new - r.old))))) (last_cell cells r) false) more)
      ∙ (roomy old thread (length a.limbo) space at old_len new_len fine).1))

  abbrev o : TxnOp
  o = op.Map (4096 * (r.first + r.old)) true (4096 * (r.new - r.old)) (perm_of last.0) (next_of (backing_of last.0))

  begins : r.first + r.old ≡ op_first o
  begins = go (r.first + r.old)
    where
      go : (n : ℕ) → n ≡ 4096 * n / 4096
      go n = omega arith

  lasts : r.new - r.old ≡ op_pages o
  lasts = go (r.new - r.old)
    where
      go : (n : ℕ) → n ≡ (4096 * n + 4095) / 4096
      go n = omega arith

  nothing_left : (p : ℕ) → within (r.first + r.new) (r.old - r.new) p ≡ false
  nothing_left p = out_of (r.first + r.new) (r.old - r.new) p (λ from to. omega (arith, from, to, g.more))

  added : (page : ℕ) → r.first + r.old ≤ page → cell_for cells r (page - r.first) ≡ Some (backed (next_of (backing_of last.0)) (perm_of last.0) (page - (r.first + r.old)))
  added page low =
      ap (λ t. cond t (get cells (r.first + (page - r.first))) (option_map (λ l. goes_on l (page - r.first + 1 - r.old)) (last_cell cells r))) (le-ltb (page - r.first) r.old (omega (arith, low)))
      ∙ ap (option_map (λ l. goes_on l (page - r.first + 1 - r.old))) last.1
      ∙ ap Some (backed_next (backing_of last.0) (perm_of last.0) (page - r.first + 1 - r.old) (page - (r.first + r.old)) (omega (arith, low)))

  cells_now : (page : ℕ) → cell_at (state_of b) space page ≡ get (made_by (Op o) cells) page
  cells_now page =
      ap (λ (s : State). cell_at s space page) (now_is a b thread space at old_len new_len v rows kit is)
      ∙ cells_remap old thread space at old_len new_len page
      ∙ stay_at (levels old) thread r cells g.stays page
      ∙ ap (λ t. cond (within (r.first + r.old) (r.new - r.old) page) (cell_for cells r (page - r.first)) (cond t None (get cells page))) (nothing_left page)
      ∙ go (within (r.first + r.old) (r.new - r.old) page) refl
      ∙ (λ i. cond (within (begins i) (lasts i) page) (Some (backed (next_of (backing_of last.0)) (perm_of last.0) (page - begins i))) (get cells page))
      ∙ sym (made_at (Op o) (op_change o) refl cells page)
    where
      go : (t : Bool) → within (r.first + r.old) (r.new - r.old) page ≡ t
          → cond t (cell_for cells r (page - r.first)) (get cells page) ≡ cond t (Some (backed (next_of (backing_of last.0)) (perm_of last.0) (page - (r.first + r.old)))) (get cells page)
      go false e = refl
      go true e = added page (in_range (r.first + r.old) (r.new - r.old) page e).0

  -- no table is removed
  none_gone : (p : Place) → IsRemoved old (state_of b) p → ⊥
  none_gone p gone_p =
      let lies = gone_lies a b thread space at old_len new_len v rows kit is p gone_p in
      let none = ap (λ m. cond m r.old (r.old - r.new)) g.stays in
      empty (left_first (levels old) cells r) (left_count (levels old) cells r) (span_first p) (span_count p) lies.0 lies.1 (none ∙ zero_less r.old r.new g.more) (span_pos p.level)
    where
      zero_less : (n m : ℕ) → n < m → n - m ≡ 0
      zero_less n m h = omega (arith, h)

      empty : (first count low many : ℕ) → first ≤ low → low + many ≤ first + count → count ≡ 0 → 0 < many → ⊥
      empty first count low many x y z w = omega arith

  removed : (p : Place) → IsRemoved old (state_of b) p → (op_making o ≡ Clear) × LiesIn p (op_first o) (op_pages o)
  removed p gone_p = absurd (none_gone p gone_p)

  no_permit : (perm : Perm) → op_making o ≡ Permit perm → ⊥
  no_permit perm e = absurd (cc)

  inside : (page : ℕ) → taken page ≡ true → within (op_first o) (op_pages o) page ≡ true
  inside page e = sym filled ∙ go (within (left_first (levels old) cells r) (left_count (levels old) cells r) page) (within (filled_first (levels old) thread cells r) (filled_count (levels old) cells r) page)
      left (and_parts (nat_eq space space) (is_resized old thread space r page) e).1
    where
      left : within (left_first (levels old) cells r) (left_count (levels old) cells r) page ≡ false
      left = ap (λ m. within (cond m r.first (r.first + r.new)) (cond m r.old (r.old - r.new)) page) g.stays ∙ nothing_left page

      filled : within (filled_first (levels old) thread cells r) (filled_count (levels old) cells r) page ≡ within (op_first o) (op_pages o) page
      filled = ap (λ m. within (cond m (put_at (levels old) thread cells r) (r.first + r.old)) (cond m r.new (r.new - r.old)) page) g.stays ∙ (λ i. within (begins i) (lasts i) page)

      go : (t u : Bool) → t ≡ false → (t || u) ≡ true → u ≡ true
      go true u x h = absurd (true≢false x)
      go false u x h = h

  end : op_first o + op_pages o < 2 ^ 46
  end =
      let few = user_few (levels old) (r.first + r.old) (r.new - r.old) is.consistent.0.few_levels user in
      low (r.first + r.old) (r.new - r.old) few
    where
      low : (n m : ℕ) → n + m < 2 ^ 44 → 4096 * n / 4096 + (4096 * m + 4095) / 4096 < 2 ^ 46
      low n m few = omega arith

  near : (i : ℕ) → i < op_pages o → IsNear (next_of (backing_of last.0)) i
  near i low = near_of (backing_of last.0) (perm_of last.0) (r.new - r.old) i near_enough (subst (λ n. i < n) (sym lasts) low)

  same_change : op_change o ≡ goes_behind last.0 (r.first + r.old) (r.new - r.old)
  same_change = λ i. backing_behind (perm_of last.0) (backing_of last.0) (sym begins i) (sym lasts i)

  abbrev mid : State
  mid = between_state a b thread space at old_len new_len v rows kit is o cells_now removed no_permit inside end near

  -- the last page is as before
  still_there : cell_at mid space (r.first + r.old - 1) ≡ Some last.0
  still_there =
      (between a b thread space at old_len new_len v rows kit is o cells_now removed no_permit inside end near).pages (r.first + r.old - 1) (λ p gone_p has. none_gone p gone_p)
      ∙ ap (λ t. cond t (option_map (λ x. goes_on x 0) (cell_at old space (r.first + r.old - 1))) (cell_at old space (r.first + r.old - 1))) (go (taken (r.first + r.old - 1)) refl) ∙ last.1
    where
      go : (t : Bool) → taken (r.first + r.old - 1) ≡ t → t ≡ false
      go false e = refl
      go true e = absurd (off (r.first + r.old) (op_first o) begins (in_range (op_first o) (op_pages o) (r.first + r.old - 1) (inside (r.first + r.old - 1) e)).0 (omega (arith, some)))
        where
          off : (n m : ℕ) → n ≡ m → m ≤ n - 1 → 1 ≤ n → ⊥
          off n m x y z = omega arith

  plain : ArePlain (state_of b) rows
  plain x i has low lone =
      let row = (is_base a b thread space at old_len new_len v rows kit is o cells_now removed no_permit inside end near).rows_of x has in
      let c = cell_there x.content i (subst (λ n. i < n) (sym row.whole) low) in
      let mids = between a b thread space at old_len new_len v rows kit is o cells_now removed no_permit inside end near in
      let lone_mid = subst (λ n. IsNoTable mid (below n x.place i)) (sym mids.same_levels) (ap (λ (t : FinSet place_cmp). set.contains t (below (levels (state_of b)) x.place i)) mids.same_tables ∙ lone) in
      (c.0, c.1, no_link mid (below (levels mid) x.place i) c.0 lone_mid (row.entries i c.0 low c.1).shows)

  last_asked : IsAsked space rows (r.first + r.old - 1)
  last_asked = covered_asked (zone.Space space) (state_of b) rows space (r.first + r.old - 1) is.consistent.1 plain is.one_space g.cover refl (top_stays a b thread space at old_len new_len v rows kit is)
      (subst (λ n. is_user_page n (r.first + r.old - 1) ≡ true) (sym (same_levels a b thread space at old_len new_len v rows kit is))
      (user_page (levels old) r.first r.old (r.first + r.old - 1) old_range.0 (to_range r.first r.old (r.first + r.old - 1) (omega (arith, some)) (omega (arith, some)))))

  fill : IsFill b mid (state_of b) space taken r.first r.old r.new v rows
  fill = record {
    some = some;
    more = g.more;
    last = last.0;
    there = still_there;
    asked = last_asked;
    ready = record {
      is_change = subst (λ (k : RangeChange). IsChange k space mid (state_of b)) same_change (is_change a b thread space at old_len new_len v rows kit is o cells_now removed no_permit inside end near);
      base = is_base a b thread space at old_len new_len v rows kit is o cells_now removed no_permit inside end near;
    };
  }

  pub may_grow : MayFill r.first r.old r.new v rows
  may_grow = (b, mid, state_of b, space, taken, fill)

  pub grow_applied : (w : PassView (List Cell) B E) (rows' : List Row) (kit' : Kit) → Fills r.first r.old r.new v rows w rows'
      → HasRoom kit' → IsIdle kit' → IsUngranted kit' → (kit'.second_frames.items ≡ []) × (kit'.second_slots.items ≡ []) → Applied b thread (call.Remap space at old_len new_len) v w rows' kit kit'
  grow_applied w rows' kit' fills room idle ungranted seconds =
      resize_applied a b thread space at old_len new_len v rows kit is o cells_now removed no_permit inside end near w rows' kit'
      (subst (λ (k : RangeChange). AreChanged b (state_of b) (clean k.first k.count taken) v rows w rows') (sym same_change) (fills b mid (state_of b) space taken fill))
      room idle ungranted seconds
