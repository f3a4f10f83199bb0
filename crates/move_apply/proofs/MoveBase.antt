-- A call that moves a range: the states through which its pieces are mapped and its old pages are cleared.
--     first_change, second_change      the changes of its kit
--     may_map      its pieces may be mapped
--     may_clear      then its old pages may be cleared
--     IsLast, last_is      the state after that is the one after the call, where the pages at the new place show what they came from
use Rattle.std.specs.Prelude.{◌≡◌, ◌≢◌, ℕ, suc, ◌+◌, ◌-◌, ◌^◌, ◌<◌, ◌≤◌, ◌&&◌, ◌||◌, not, Bool, true, false, cond, List, [], ◌∷◌, length, slice_index_or, Option, Some, None, ◌⊎◌}
use Rattle.std.specs.Option.{option_map}
use Rattle.std.specs.FinMap.{get}
use Rattle.std.proofs.Common.{sym, refl, ◌∙◌, ap, subst, arith, inl, inr, eq-eqb}
use Rattle.std.proofs.lemmas.Bool.{true≢false, or_cases, cases_lt}
use Rattle.corten_base.specs.declared.calls.Backing.{Backing}
use Rattle.corten_base.specs.declared.calls.Backing.TheVariants as backing
use Rattle.corten_base.specs.declared.calls.Call.{Call}
use Rattle.corten_base.specs.declared.calls.Call.TheVariants as call
use Rattle.corten_base.specs.declared.permissions.Perm.{Perm}
use Rattle.page_map.specs.declared.cell.Cell.{Cell as PageCell}
use Rattle.page_map.specs.Cell.{AddressSpace, backed, backing_of, perm_of, index_of, goes_on}
use Rattle.page_map.specs.Memory.{is_resized}
use Rattle.page_map.specs.Remap.{Resize, resize_of, put_at, left_first, left_count, remapped}
use Rattle.page_map.specs.State.{State, IsConsistent, levels, space_at, cell_at}
use Rattle.page_map.specs.Tables.{Tables}
use Rattle.page_map.proofs.Mappings.{user_few}
use Rattle.page_map.specs.Cutting.{ArePieces, IsMove}
use Rattle.page_map.proofs.NeedOfRemap.{moves_away}
use Rattle.page_map.proofs.Steps.{not_none}
use Rattle.row_cells.specs.declared.Cell.{Cell}
use Rattle.row_table.specs.declared.view.PassView.{PassView}
use Rattle.table_place.specs.declared.Place.{Place}
use Rattle.table_place.specs.Place.{has_page, is_place, span_first, span_count}
use Rattle.table_place.specs.Range.{within}
use Rattle.table_place.proofs.Entries.{level_of, page_in_span}
use Rattle.table_place.proofs.Tables.{in_range, to_range}
use Rattle.machine_plan.specs.declared.kit.Change.TheVariants.{GiveUp}
use Rattle.machine_plan.specs.declared.kit.Kit.{Kit}
use Rattle.machine_plan.specs.declared.kit.Piece.{Piece}
use Rattle.machine_plan.specs.Books.{BookData, state_of}
use Rattle.machine_plan.specs.Given.{IsRemoved}
use Rattle.machine_plan.specs.HeldRows.{Row}
use Rattle.machine_plan.specs.Moving.{piece_at, Tells}
use Rattle.machine_plan.specs.Uses.{uses_page}
use Rattle.cursor_apply.specs.declared.becoming.Making.TheVariants.{Clear}
use Rattle.cursor_apply.specs.declared.becoming.RangeChange.{RangeChange}
use Rattle.cursor_apply.specs.Between.{IsBetween}
use Rattle.cursor_apply.specs.Changed.{LiesIn, AreChanged, IsBase, IsChange, MakesAll, MayMakeAll, ChangesBy, MayChangeBy, all_clean, clean}
use Rattle.cursor_apply.specs.Changing.{IsNear}
use Rattle.move_apply.specs.Pieces.{pieces_changes}
use Rattle.move_apply.specs.Relocating.{IsMoving}
use Rattle.move_apply.specs.Remapping.{changed_at, pages_of}
use Rattle.move_apply.specs.Resizing.{IsResizable, clearing}
use Rattle.move_apply.specs.declared.relinking.Pages.{Pages}
use Rattle.cursor_apply.proofs.FromStaged.{staged_base}
use Rattle.move_apply.proofs.InPlace as place
use Rattle.cursor_apply.proofs.Middle.{middle, is_between}
use Rattle.move_apply.proofs.MoveSteps.{AreTables, MayMakePages, MayMap, MayMapAll, MappedAll, AllTell, all_mapped, made_state, made_at, made_others, made_levels, made_tables, range_change_is, clean_stays, clean_pieces}
use Rattle.move_apply.proofs.RemapCuts as cuts
use Rattle.cursor_apply.proofs.RowsMade.{base_after}
use Rattle.move_apply.proofs.Shrunk.{cells_remap}

some_of : (x y : PageCell) → Some x ≡ Some y → x ≡ y
some_of x y e = cc

index_backed : (what : Backing) (perm : Perm) (i : ℕ) → index_of (backing_of (backed what perm i)) ≤ index_of what + i
index_backed backing.Zero perm i = omega arith
index_backed (backing.File file index) perm i = omega arith

near_by : (what : Backing) (perm : Perm) (i : ℕ) → index_of (backing_of (backed what perm i)) ≤ 2 ^ 62 → IsNear what i
near_by backing.Zero perm i h = tt
near_by (backing.File file index) perm i h = omega (arith, h)

-- each piece of a list, by its place
may_map_all : (depth space : ℕ) (tables : Tables) (to : ℕ) (ps : List Piece) → ((k : ℕ) (d : Piece) → k < length ps → MayMap depth space tables to (slice_index_or ps k d)) → MayMapAll depth space tables to ps
may_map_all depth space tables to [] each = tt
may_map_all depth space tables to (p ∷ ps) each = (each 0 p (omega arith), may_map_all depth space tables to ps (λ k d less. each (suc k) d (omega (arith, less))))

all_tell : (depth space : ℕ) (tables : Tables) (own : AreTables depth space tables) (to : ℕ) (after : AddressSpace) (end : ℕ) (ps : List Piece) → ((k : ℕ) (d : Piece) → k < length ps → Tells after to (slice_index_or ps k d)) → AllTell depth space tables own to after end ps
all_tell depth space tables own to after end [] each = tt
all_tell depth space tables own to after end (p ∷ ps) each = (each 0 p (omega arith), all_tell depth space tables own to after end ps (λ k d less. each (suc k) d (omega (arith, less))))

pub record IsLast (now end : State) (space to count : ℕ) : Type 0 where
  pub same_levels : levels end ≡ levels now
  pub same_tables : end.tables ≡ now.tables
  pub others : (s page : ℕ) → s ≢ space → cell_at end s page ≡ cell_at now s page
  pub pages : (page : ℕ) → cell_at end space page ≡ cond (within to count page) (option_map (λ c. goes_on c 0) (cell_at now space page)) (cell_at now space page)

module _ {B E : Type 0} (a b : BookData) (thread space at old_len new_len : ℕ) (v : PassView (List Cell) B E) (rows : List Row) (kit : Kit) (m : IsMoving a b thread space at old_len new_len v rows kit) where
  abbrev is : IsResizable a b thread space at old_len new_len v rows kit
  is = m.resizable

  abbrev c : Call
  c = call.Remap space at old_len new_len

  abbrev old : State
  old = state_of a

  abbrev now : State
  now = state_of b

  abbrev L : ℕ
  L = levels (state_of a)

  abbrev r : Resize
  r = resize_of at old_len new_len

  abbrev to : ℕ
  to = put_at (levels (state_of a)) thread (space_at (state_of a) space) (resize_of at old_len new_len)

  abbrev after : AddressSpace
  after = remapped (levels (state_of a)) thread (resize_of at old_len new_len) (space_at (state_of a) space)

  abbrev taken : ℕ → Bool
  taken = uses_page (state_of a) thread (call.Remap space at old_len new_len) space

  pub before : IsConsistent (state_of a)
  before = is.consistent.0

  pub was_done : cuts.IsRemapDone a b thread (call.Remap space at old_len new_len) kit
  was_done = cuts.remap_done_of a b thread (call.Remap space at old_len new_len) kit is.answered is.done is.same_kit is.committed is.books.1.threads

  cut : cuts.AreCut a b space (changed_at r.first r.old to r.new) to kit.pieces.items
  cut = cuts.are_cut a b thread space at old_len new_len kit before was_done

  old_cut : cuts.CutsFor a b space (pages_of r.first r.old)
  old_cut = subst (λ (h : Pages). 1 ≤ h.count → cuts.CutsFor a b space h) (cuts.head_is_old a b thread space at old_len new_len kit before was_done m.goes) cut.head_cuts (cuts.old_range a b thread space at old_len new_len kit before was_done).1

  pub same_levels : levels (state_of b) ≡ levels (state_of a)
  same_levels = place.same_levels a b thread space at old_len new_len v rows kit is

  pub own : AreTables L space now.tables
  own = record {
    some = before.some_levels;
    few = before.few_levels;
    top = cuts.root_now a b thread space at old_len new_len kit before was_done;
    places = λ p has. subst (λ n. is_place n p ≡ true) same_levels (is.consistent.1.places p has);
  }

  to_end : to + r.new < 2 ^ 44
  to_end = user_few L to r.new before.few_levels (cuts.to_user a b thread space at old_len new_len kit before was_done m.goes)

  old_end : r.first + r.old < 2 ^ 44
  old_end = user_few L r.first r.old before.few_levels old_cut.user

  parts : ArePieces (piece_at to) (λ (p : Piece). p.count) after to (to + r.new) kit.pieces.items
  parts = cuts.parts a b thread space at old_len new_len kit before was_done m.goes

  tells : (k : ℕ) (d : Piece) → k < length kit.pieces.items → Tells after to (slice_index_or kit.pieces.items k d)
  tells k d less = (was_done.pieces.moved m.goes).each k d less

  cell_now : (page : ℕ) → cell_at now space page ≡ get after page
  cell_now page = ap (λ (s : State). cell_at s space page) was_done.call.made.state ∙ cells_remap old thread space at old_len new_len page

  near_piece : (k : ℕ) (d : Piece) → k < length kit.pieces.items → (i : ℕ) → i < (slice_index_or kit.pieces.items k d).count → IsNear (slice_index_or kit.pieces.items k d).backing i
  near_piece k d less i inside = go (get after (to + (slice_index_or kit.pieces.items k d).first + i)) refl (tells k d less i inside)
    where
      go : (o : Option PageCell) → get after (to + (slice_index_or kit.pieces.items k d).first + i) ≡ o → option_map (λ x. goes_on x 0) (get after (to + (slice_index_or kit.pieces.items k d).first + i)) ≡ Some (backed (slice_index_or kit.pieces.items k d).backing (slice_index_or kit.pieces.items k d).perm i)
          → IsNear (slice_index_or kit.pieces.items k d).backing i
      go None e h = absurd (not_none (sym h ∙ ap (option_map (λ x. goes_on x 0)) e))
      go (Some x) e h =
          let same = some_of (goes_on x 0) (backed (slice_index_or kit.pieces.items k d).backing (slice_index_or kit.pieces.items k d).perm i) (sym (ap (option_map (λ y. goes_on y 0)) e) ∙ h) in
          let low = is.consistent.1.indexes space (to + (slice_index_or kit.pieces.items k d).first + i) x (cell_now (to + (slice_index_or kit.pieces.items k d).first + i) ∙ e) in
          let up = index_backed (backing_of x) (perm_of x) 0 in
          near_by (slice_index_or kit.pieces.items k d).backing (slice_index_or kit.pieces.items k d).perm i (subst (λ (y : PageCell). index_of (backing_of y) ≤ 2 ^ 62) same (omega (arith, low, up)))

  may_map_pieces : MayMapAll L space now.tables to kit.pieces.items
  may_map_pieces = may_map_all L space now.tables to kit.pieces.items (λ k d less. record {
    pages = record {
      end = user_few L (to + (slice_index_or kit.pieces.items k d).first) (slice_index_or kit.pieces.items k d).count before.few_levels (cut.piece_cuts k d less).user;
      there = (cut.piece_cuts k d less).there;
    };
    near = near_piece k d less;
  })

  pub may_old : MayMakePages L space now.tables r.first r.old
  may_old = record { end = old_end; there = old_cut.there }

  -- ---- the state between

  pub taken_is : (page : ℕ) → taken page ≡ (within r.first r.old page || within to r.new page)
  taken_is page = ap (λ t. t && is_resized old thread space r page) (eq-eqb space space refl)
      ∙ (λ i. within (cond (m.goes i) r.first (r.first + r.new)) (cond (m.goes i) r.old (r.old - r.new)) page || within (cond (m.goes i) to (r.first + r.old)) (cond (m.goes i) r.new (r.new - r.old)) page)

  lies_old : (p : Place) → IsRemoved old now p → LiesIn p r.first r.old
  lies_old p gone = subst (λ n. LiesIn p n r.old) (ap (λ t. cond t r.first (r.first + r.new)) m.goes) (subst (λ n. LiesIn p (left_first L (space_at old space) r) n) (ap (λ t. cond t r.old (r.old - r.new)) m.goes)
      (place.gone_lies a b thread space at old_len new_len v rows kit is p gone))

  abbrev bound : ℕ
  bound = (r.first + r.old) + (to + r.new)

  abbrev mid : State
  mid = middle old now before space 0 bound taken

  between : IsBetween old now mid space taken
  between = is_between old now before space 0 bound taken (λ page e. inside page (or_cases (within r.first r.old page) (within to r.new page) (sym (taken_is page) ∙ e)))
      (λ p gone. let l = lies_old p gone in let high = l.1 in (omega arith, omega (arith, high)))
    where
      inside : (page : ℕ) → (within r.first r.old page ≡ true) ⊎ (within to r.new page ≡ true) → within 0 bound page ≡ true
      inside page (inl w) = let i = in_range r.first r.old page w in to_range 0 bound page (omega arith) (omega (arith, i.1))
      inside page (inr w) = let i = in_range to r.new page w in to_range 0 bound page (omega arith) (omega (arith, i.1))

  pub base : IsBase b mid space taken v rows
  base = staged_base a b thread (call.Remap space at old_len new_len) kit space mid is.consistent.0 is.consistent.1 same_levels (place.early a b thread space at old_len new_len v rows kit is) (place.few_frames a b thread space at old_len new_len v rows kit is) between
      (place.others a b thread space at old_len new_len v rows kit is) (place.gone_space a b thread space at old_len new_len v rows kit is)
      is.books.0.counts is.books.1.counts (place.granted a b thread space at old_len new_len v rows kit is).frames_kept (place.granted a b thread space at old_len new_len v rows kit is).slots_kept v rows is.exact is.one_space is.staged

  pub mapped : MappedAll L space now.tables own to after (to + r.new) to mid kit.pieces.items
  mapped = all_mapped L space now.tables own to after (to + r.new) kit.pieces.items to mid (between.same_levels ∙ same_levels) between.same_tables may_map_pieces parts (all_tell L space now.tables own to after (to + r.new) kit.pieces.items tells)

  pub may_map : MayMakeAll (pieces_changes to kit.pieces.items) v rows
  may_map = (b, mid, mapped.now, space, taken, base, mapped.steps)

  abbrev old1 : ℕ → Bool
  old1 = all_clean (pieces_changes to kit.pieces.items) taken

  abbrev pub end : State
  end = made_state mapped.now L space now.tables own mapped.deep mapped.same Clear r.first r.old may_old

  -- ---- what stands at the end

  away : IsMove (space_at old space) after r.first r.old to r.new
  away = moves_away L thread r (space_at old space) old_cut.some (cuts.mapped a b thread space at old_len new_len kit before was_done) to m.goes (cuts.found a b thread space at old_len new_len kit before was_done m.goes) (cuts.free a b thread space at old_len new_len kit before was_done m.goes)

  new_at : (page : ℕ) → within to r.new page ≡ false → get after page ≡ cond (within r.first r.old page) None (cell_at old space page)
  new_at page far = go (within r.first r.old page) refl
    where
      go : (u : Bool) → within r.first r.old page ≡ u → get after page ≡ cond u None (cell_at old space page)
      go true f = away.left page f
      go false f = away.out page f far

  pub last_is : IsLast now end space to r.new
  last_is = record {
    same_levels = made_levels mapped.now L space now.tables own mapped.deep mapped.same Clear r.first r.old may_old ∙ sym same_levels;
    same_tables = made_tables mapped.now L space now.tables own mapped.deep mapped.same Clear r.first r.old may_old;
    others = λ s page ne. made_others mapped.now L space now.tables own mapped.deep mapped.same Clear r.first r.old may_old s page ne ∙ (mapped.others s page ne ∙ between.others s page ne);
    pages = λ page. cleared page ∙ go page (within to r.new page) refl (within r.first r.old page) refl;
  }
    where
      cleared : (page : ℕ) → cell_at end space page ≡ cond (within r.first r.old page) None (cell_at mapped.now space page)
      cleared page = made_at mapped.now L space now.tables own mapped.deep mapped.same Clear r.first r.old may_old page

      -- no page of both places
      apart : (page : ℕ) → within r.first r.old page ≡ true → within to r.new page ≡ true → ⊥
      apart page = cuts.apart a b thread space at old_len new_len kit before was_done m.goes page

      no_table : (page : ℕ) → within r.first r.old page ≡ false → (p : Place) → IsRemoved old now p → has_page p space page ≡ true → ⊥
      no_table page out p gone has =
          let d = (level_of (levels old) p (before.places p gone.0)).1 in
          let f = before.few_levels in
          let s = in_range (span_first p) (span_count p) page (page_in_span p space page (omega (arith, d, f)) has) in
          let l = lies_old p gone in
          let low = l.0 in
          let high = l.1 in
          true≢false (sym (to_range r.first r.old page (omega (arith, s.0, low)) (omega (arith, s.1, high))) ∙ out)

      mid_at : (page : ℕ) → within r.first r.old page ≡ false → within to r.new page ≡ false → cell_at mid space page ≡ cell_at old space page
      mid_at page out far = between.pages page (no_table page out) ∙ ap (λ t. cond t (option_map (λ x. goes_on x 0) (cell_at old space page)) (cell_at old space page)) (taken_is page ∙ (λ i. out i || far i))

      stands : (page : ℕ) → within to r.new page ≡ false → cell_at mapped.now space page ≡ cell_at mid space page
      stands page far = elim (cases_lt page to) [
        | inl less ↦ mapped.before page less
        | inr from ↦ (elim (cases_lt page (to + r.new)) [
          | inl till ↦ absurd (true≢false (sym (to_range to r.new page from till) ∙ far))
          | inr more ↦ mapped.behind page more
        ])
      ]

      go : (page : ℕ) → (t : Bool) → within to r.new page ≡ t → (u : Bool) → within r.first r.old page ≡ u → cond (within r.first r.old page) None (cell_at mapped.now space page)
          ≡ cond (within to r.new page) (option_map (λ x. goes_on x 0) (cell_at now space page)) (cell_at now space page)
      go page true e true f = absurd (apart page f e)
      go page true e false f =
          let i = in_range to r.new page e in
          ap (λ t. cond t None (cell_at mapped.now space page)) f ∙ (mapped.inside page i.0 i.1
          ∙ (ap (option_map (λ x. goes_on x 0)) (sym (cell_now page)) ∙ sym (ap (λ t. cond t (option_map (λ x. goes_on x 0) (cell_at now space page)) (cell_at now space page)) e)))
      go page false e u f =
          sym (ap (λ t. cond t (option_map (λ x. goes_on x 0) (cell_at now space page)) (cell_at now space page)) e
          ∙ (cell_now page ∙ (new_at page e ∙ by u f)))
        where
          by : (u : Bool) → within r.first r.old page ≡ u → cond (within r.first r.old page) None (cell_at old space page) ≡ cond (within r.first r.old page) None (cell_at mapped.now space page)
          by true g = ap (λ t. cond t None (cell_at old space page)) g ∙ sym (ap (λ t. cond t None (cell_at mapped.now space page)) g)
          by false g = ap (λ t. cond t None (cell_at old space page)) g ∙ (sym (mid_at page g e) ∙ (sym (stands page e) ∙ sym (ap (λ t. cond t None (cell_at mapped.now space page)) g)))

  -- no word of what the call changes is left
  pub none_old : (page : ℕ) → clean r.first r.old old1 page ≡ false
  none_old page = go (taken page) refl
    where
      off : (t u : Bool) → t ≡ false → (t && not u) ≡ false
      off t u e = ap (λ x. x && not u) e

      over : (t u : Bool) → u ≡ true → (t && not u) ≡ false
      over true u e = ap not e
      over false u e = refl

      go : (t : Bool) → taken page ≡ t → clean r.first r.old old1 page ≡ false
      go false e = off (old1 page) (within r.first r.old page) (clean_stays (pieces_changes to kit.pieces.items) taken page e)
      go true e = elim (or_cases (within r.first r.old page) (within to r.new page) (sym (taken_is page) ∙ e)) [
        | inl here ↦ over (old1 page) (within r.first r.old page) here
        | inr there ↦ (let i = in_range to r.new page there in off (old1 page) (within r.first r.old page) (clean_pieces to after (to + r.new) kit.pieces.items to taken parts page i.0 i.1))
      ]

  -- ---- once the pieces are mapped

  module _ (w1 : PassView (List Cell) B E) (rows1 : List Row) (makes : MakesAll (pieces_changes to kit.pieces.items) v rows w1 rows1) where
    pub changed1 : AreChanged b mapped.now old1 v rows w1 rows1
    changed1 = makes b mid mapped.now space taken base mapped.steps

    base1 : IsBase b mapped.now space old1 w1 rows1
    base1 = base_after b mid mapped.now space taken old1 v rows w1 rows1 base changed1

    changing : IsChange (record { making = Clear; first = left_first L (space_at old space) r; count = left_count L (space_at old space) r }) space mapped.now end
    changing = subst (λ (k : RangeChange). IsChange k space mapped.now end) (λ i. record { making = Clear; first = cond (sym m.goes i) r.first (r.first + r.new); count = cond (sym m.goes i) r.old (r.old - r.new) })
        (range_change_is mapped.now L space now.tables own mapped.deep mapped.same Clear r.first r.old may_old (λ i low. tt))

    pub may_clear : MayChangeBy (clearing (GiveUp (left_first L (space_at old space) r) (left_count L (space_at old space) r))) w1 rows1
    may_clear = (b, mapped.now, end, space, old1, base1, changing)

    module _ (w2 : PassView (List Cell) B E) (rows2 : List Row) (changes : ChangesBy (clearing (GiveUp (left_first L (space_at old space) r) (left_count L (space_at old space) r))) w1 rows1 w2 rows2) where
      pub changed2 : AreChanged b end (clean r.first r.old old1) w1 rows1 w2 rows2
      changed2 = subst (λ (k : RangeChange). AreChanged b end (clean k.first k.count old1) w1 rows1 w2 rows2) (λ i. record { making = Clear; first = cond (m.goes i) r.first (r.first + r.new); count = cond (m.goes i) r.old (r.old - r.new) })
          (changes b mapped.now end space old1 base1 changing)

      pub base2 : IsBase b end space (clean r.first r.old old1) w2 rows2
      base2 = base_after b mapped.now end space old1 (clean r.first r.old old1) w1 rows1 w2 rows2 base1 changed2
