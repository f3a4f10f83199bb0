-- A reference comes into the row of a space that has its page.
--     is_filled      what the calls have done
--     place_places      every row keeps its number and its position
--     Came, came      each row afterwards, and each of its cells
--     rows_placed      the rows lack one page less
--     frame_placed, slot_placed      the last reference of a list came into its cell
use Rattle.std.specs.Prelude.{◌≡◌, ◌≢◌, ℕ, zero, suc, ◌+◌, ◌-◌, ◌*◌, ◌/◌, ◌%◌, ◌<◌, ◌⊎◌, List, [], ◌∷◌, ◌++◌, map, length, slice_get, slice_index, slice_index_or, slice_set, Option, Some}
use Rattle.std.specs.List.{All, Contains}
use Rattle.std.proofs.Common.{sym, refl, ◌∙◌, ap, subst, arith, inl, inr, append_assoc}
use Rattle.std.proofs.lemmas.List.{length-set, map-append}
use Rattle.std.proofs.lemmas.List.Elements.{Contains-get_or, All-same}
use Rattle.std.proofs.lemmas.Option.{slice_get_within}
use mathlib.Core.Logic.{dite}
use native.Mathlib.Decide.{ℕ_discrete}
use Rattle.counted_pages.specs.Pages.{CountedPage}
use Rattle.page_map.specs.Cell.{frame_of, slot_of}
use Rattle.page_map.specs.State.{State, IsConsistent, levels}
use Rattle.row_cells.specs.declared.Cell.{Cell}
use Rattle.row_table.specs.declared.view.HeldRow.{HeldRow as KnownRow}
use Rattle.table_place.specs.declared.Place.{Place}
use Rattle.table_place.proofs.Entries.{below_is}
use Rattle.tree_lock.specs.Held.{with_content}
use Rattle.machine_plan.specs.Agrees.{below, HasSpareFor, IsTableOf}
use Rattle.machine_plan.specs.Books.{BookData, state_of}
use Rattle.machine_plan.specs.HeldRows.{Row}
use Rattle.machine_plan.specs.Kits.{Refs, AreBacked}
use Rattle.cursor_detach.proofs.Lists.{get_same, get_other, any_default}
use Rattle.cursor_detach.proofs.RowLists.{one_index, with_same, with_other, with_length}
use Rattle.cursor_apply.specs.declared.putting.Reference.{Reference}
use Rattle.cursor_apply.specs.declared.putting.Reference.TheVariants as reference
use Rattle.cursor_apply.specs.Placing.{IsFilledIn, IsPlacedIn, AreShortIn}
use Rattle.cursor_apply.specs.Putting.{filled_cell, IsRefOf, AreRefs, IsShortCell, IsShort, pages_of, row_place}
use Rattle.cursor_apply.specs.Sharing.{leaf_place, IsLeafRow}
use Rattle.cursor_apply.proofs.Backs.{all_front, all_last}
use Rattle.cursor_apply.proofs.Cells.{other_frame, other_slot, filled_frame, filled_slot}
use Rattle.cursor_apply.proofs.PutRows.{page_below}

pub is_filled : (space page : ℕ) (r : Reference) (rows : List Row) (at : ℕ) → IsLeafRow space rows page (Some at) → (content : List Cell) → ((d : Row) → (slice_index_or rows at d).content ≡ content) → (now : List Cell)
    → (cell : Cell) × (slice_get content (page % 512) ≡ Some cell) × (now ≡ slice_set content (page % 512) (filled_cell cell r)) → IsFilledIn space page r rows (with_content rows at now)
is_filled space page r [] at leaf content is now told = absurd (omega (arith, leaf.0))
is_filled space page r (z ∷ zs) at leaf content is now told =
    let row = slice_index_or (z ∷ zs) at z in
    record {
      at = at;
      is_leaf = leaf;
      row = row;
      is_row = λ d. any_default (z ∷ zs) at d z leaf.0;
      cell = told.0;
      there = ap (λ (l : List Cell). slice_get l (page % 512)) (is z) ∙ told.1;
      now = ap (with_content (z ∷ zs) at) (told.2 ∙ ap (λ (l : List Cell). slice_set l (page % 512) (filled_cell told.0 r)) (sym (is z)));
    }

same_places : (rows : List Row) (k : ℕ) (w : List Cell) → map row_place (with_content rows k w) ≡ map row_place rows
same_places [] k w = refl
same_places (x ∷ xs) zero w = refl
same_places (x ∷ xs) (suc k) w = ap (λ (l : List (ℕ × Place)). row_place x ∷ l) (same_places xs k w)

pub place_places : (space page : ℕ) (r : Reference) (rows rows' : List Row) → IsPlacedIn space page r rows rows' → map row_place rows' ≡ map row_place rows
place_places space page r rows rows' put = elim put.put [
  | inl none ↦ ap (map row_place) none.1
  | inr f ↦ ap (map row_place) f.now ∙ same_places rows f.at (slice_set f.row.content (page % 512) (filled_cell f.cell r))
]

-- the cell at an entry of a row, before and after
pub record CellCame (space page : ℕ) (r : Reference) (x : Row) (i : ℕ) (now : Cell) : Type 0 where
  pub was : Cell
  pub there : slice_get x.content i ≡ Some was
  pub is : ((now ≡ was) × (x.place ≡ leaf_place space page → i ≡ page % 512 → ⊥)) ⊎ ((now ≡ filled_cell was r) × (x.place ≡ leaf_place space page) × (i ≡ page % 512))

pub record Came (space page : ℕ) (r : Reference) (rows : List Row) (y : Row) : Type 0 where
  pub was : Row
  pub held : Contains rows was
  pub same_row : was.row ≡ y.row
  pub same_place : was.place ≡ y.place
  pub whole : length y.content ≡ length was.content
  pub cells : (i : ℕ) (cell : Cell) → slice_get y.content i ≡ Some cell → CellCame space page r was i cell

module _ (space page : ℕ) (r : Reference) (rows rows' : List Row) (put : IsPlacedIn space page r rows rows') where
  same_row : (y : Row) → Contains rows y → (y.place ≡ leaf_place space page → ⊥) → Came space page r rows y
  same_row y has never = record {
    was = y;
    held = has;
    same_row = refl;
    same_place = refl;
    whole = refl;
    cells = λ i cell there. record { was = cell; there = there; is = inl (refl, λ leaf at. never leaf) };
  }

  module _ (f : IsFilledIn space page r rows rows') where
    abbrev index : ℕ
    index = page % 512

    abbrev after : List Cell
    after = slice_set f.row.content index (filled_cell f.cell r)

    leaf : f.row.place ≡ leaf_place space page
    leaf = ap (λ (z : Row). z.place) (sym (f.is_row f.row)) ∙ f.is_leaf.1 f.row

    f_there : Contains rows f.row
    f_there = subst (Contains rows) (f.is_row f.row) (Contains-get_or rows f.at f.row f.is_leaf.0)

    cell_now : (i : ℕ) (cell : Cell) → slice_get after i ≡ Some cell → CellCame space page r f.row i cell
    cell_now i cell there = dite (ℕ_discrete i index)
        (λ e.
        let long : index < length f.row.content = slice_get_within f.row.content index f.cell f.there in
        let now : Some cell ≡ Some (filled_cell f.cell r) = sym there ∙ (ap (slice_get after) e ∙ get_same f.row.content index (filled_cell f.cell r) long) in
        record { was = f.cell; there = ap (slice_get f.row.content) e ∙ f.there; is = inr ((cc), leaf, e) })
        (λ ne. record { was = cell; there = sym (get_other f.row.content index i (filled_cell f.cell r) ne) ∙ there; is = inl (refl, λ l at. ne at) })

    filled_row : (y : Row) → y ≡ record f.row { content = after } → Came space page r rows y
    filled_row y is = record {
      was = f.row;
      held = f_there;
      same_row = ap (λ (z : Row). z.row) (sym is);
      same_place = ap (λ (z : Row). z.place) (sym is);
      whole = ap (λ (z : Row). length z.content) is ∙ length-set f.row.content index (filled_cell f.cell r);
      cells = λ i cell there. cell_now i cell (ap (λ (z : Row). slice_get z.content i) (sym is) ∙ there);
    }

    came_filled : (y : Row) → Contains rows' y → Came space page r rows y
    came_filled y has = dite (ℕ_discrete has.0 f.at)
        (λ e. filled_row y (sym has.2 ∙ (ap (λ (l : List Row). slice_index_or l has.0 y) f.now ∙ (ap (λ k. slice_index_or (with_content rows f.at after) k y) e
        ∙ (with_same rows f.at after y f.is_leaf.0 ∙ ap (λ (z : Row). record z { content = after }) (f.is_row y))))))
        (λ ne.
        let is : slice_index_or rows has.0 y ≡ y = sym (ap (λ (l : List Row). slice_index_or l has.0 y) f.now ∙ with_other rows f.at has.0 after y ne) ∙ has.2 in
        let inside : has.0 < length rows = (let a = ap length f.now in let b = with_length rows f.at after in let h = has.1 in omega arith) in
        same_row y (subst (Contains rows) is (Contains-get_or rows has.0 y inside))
        (λ it. ne (one_index rows has.0 f.at y put.order inside f.is_leaf.0 (ap (λ (z : Row). z.place) is ∙ (it ∙ sym (f.is_leaf.1 y))))))

  pub came : (y : Row) → Contains rows' y → Came space page r rows y
  came y has = elim put.put [
    | inl none ↦ let was = subst (λ (l : List Row). Contains l y) none.1 has in same_row y was (none.0 y was)
    | inr f ↦ came_filled f y has
  ]

module _ (b : BookData) (is : IsConsistent (state_of b)) (space page : ℕ) (known : List (KnownRow (List Cell))) (r : Reference) (rows rows' : List Row) (put : IsPlacedIn space page r rows rows') (rest : List ℕ × List ℕ)
    (frames slots frames' slots' : List ℕ)
    (other : (q : Place) (word : ℕ) (cell : Cell) → (q.level ≡ 0 → q.prefix ≡ page → ⊥) → IsShortCell b frames slots q word cell → IsShortCell b frames' slots' q word cell)
    (here : (q : Place) (word : ℕ) (cell : Cell) → q.level ≡ 0 → q.space ≡ space → q.prefix ≡ page → IsShortCell b frames slots q word cell → IsShortCell b frames' slots' q word (filled_cell cell r)) where
  abbrev L : ℕ
  L = levels (state_of b)

  short_cell : (x : Row) (i word : ℕ) (cell : Cell) → i < 512 → x.place.space ≡ space → IsTableOf (state_of b) x.place → (o : CellCame space page r x i cell) → IsShortCell b frames slots (below L x.place i) word o.was → IsShortCell b frames' slots' (below L x.place i) word cell
  short_cell x i word cell inside own table o short = elim o.is [
    | inl same ↦ subst (IsShortCell b frames' slots' (below L x.place i) word) (sym same.0)
        (other (below L x.place i) word o.was (λ low at. let p = page_below (state_of b) is page x.place i inside table low at in same.1 (λ k. record { space = own k; level = p.0 k; prefix = p.1 k }) p.2) short)
    | inr fill ↦
        let level : x.place.level ≡ 1 = ap (λ (p : Place). p.level) fill.1 in
        let at = below_is L x.place i (omega (arith, level)) in
        let prefix : 512 * x.place.prefix + i ≡ page = (let a = ap (λ (p : Place). p.prefix) fill.1 in let e = fill.2 in omega (arith, a, e)) in
        subst (IsShortCell b frames' slots' (below L x.place i) word) (sym fill.0)
        (here (below L x.place i) word o.was (ap (λ (p : Place). p.level) at ∙ omega (arith, level)) (ap (λ (p : Place). p.space) at ∙ own) (ap (λ (p : Place). p.prefix) at ∙ prefix) short)
  ]

  -- a row of another space has none of the space's pages
  same_cell : (x : Row) (i : ℕ) (cell : Cell) → x.place.space ≢ space → (o : CellCame space page r x i cell) → cell ≡ o.was
  same_cell x i cell apart o = elim o.is [
    | inl same ↦ same.0
    | inr fill ↦ absurd (apart (ap (λ (p : Place). p.space) fill.1))
  ]

  pub rows_placed : AreShortIn b known space frames slots rest rows → AreShortIn b known space frames' slots' rest rows'
  rows_placed short y has = (
    λ own.
        let mine : o.was.place.space ≡ space = ap (λ (p : Place). p.space) o.same_place ∙ own in
        let s = (short o.was o.held).0 mine in
        record {
          row = s.row;
          held = s.held;
          same_row = s.same_row ∙ o.same_row;
          same_place = s.same_place ∙ o.same_place;
          table = subst (IsTableOf (state_of b)) o.same_place s.table;
          whole = o.whole ∙ s.whole;
          cells = λ i cell inside there.
              let k = o.cells i cell there in
              subst (λ p. IsShortCell b frames' slots' (below L p i) (slice_index s.row.words i) cell) o.same_place
              (short_cell o.was i (slice_index s.row.words i) cell inside mine s.table k (s.cells i k.was inside k.there));
        },
    λ apart.
        let theirs : o.was.place.space ≢ space = λ e. apart (ap (λ (p : Place). p.space) (sym o.same_place) ∙ e) in
        let s = (short o.was o.held).1 theirs in
        record {
          row = s.row;
          held = s.held;
          same_row = s.same_row ∙ o.same_row;
          same_place = s.same_place ∙ o.same_place;
          table = subst (IsTableOf (state_of b)) o.same_place s.table;
          whole = o.whole ∙ s.whole;
          cells = λ i cell inside there.
              let k = o.cells i cell there in
              subst (λ p. IsShortCell b rest.0 rest.1 (below L p i) (slice_index s.row.words i) cell) o.same_place
              (subst (IsShortCell b rest.0 rest.1 (below L o.was.place i) (slice_index s.row.words i)) (sym (same_cell o.was i cell theirs k)) (s.cells i k.was inside k.there));
        },
  )
    where
      o : Came space page r rows y
      o = came space page r rows rows' put y has

-- ---- the last one of a list

-- what is left to be placed, beside the pages of another list
pub record FramesToPlace (b : BookData) (space : ℕ) (known : List (KnownRow (List Cell))) (more slots : List ℕ) (rest : List ℕ × List ℕ) (refs : Refs) (rows : List Row) : Type 0 where
  pub consistent : IsConsistent (state_of b)
  pub refs_are : AreRefs (state_of b) space frame_of refs
  pub backed : AreBacked b.frames refs
  pub short : AreShortIn b known space (more ++ pages_of refs) slots rest rows

pub record SlotsToPlace (b : BookData) (space : ℕ) (known : List (KnownRow (List Cell))) (more frames : List ℕ) (rest : List ℕ × List ℕ) (refs : Refs) (rows : List Row) : Type 0 where
  pub consistent : IsConsistent (state_of b)
  pub refs_are : AreRefs (state_of b) space slot_of refs
  pub backed : AreBacked b.slots refs
  pub short : AreShortIn b known space frames (more ++ pages_of refs) rest rows

module _ (b : BookData) (space : ℕ) (known : List (KnownRow (List Cell))) (more others : List ℕ) (rest : List ℕ × List ℕ) (refs refs' : Refs) (rows rows' : List Row) (page : ℕ) (r : CountedPage) (was : refs ≡ refs' ++ (page, r) ∷ []) where
  behind : more ++ pages_of refs ≡ (more ++ pages_of refs') ++ page ∷ []
  behind = ap (λ (l : List ℕ). more ++ l) (ap pages_of was ∙ map-append (λ (x : ℕ × CountedPage). x.0) refs' ((page, r) ∷ [])) ∙ sym (append_assoc more (pages_of refs') (page ∷ []))

  module _ (P : ℕ × CountedPage → Type 0) (all : All P refs) where
    split : All P (refs' ++ (page, r) ∷ [])
    split = All-same P (refs' ++ (page, r) ∷ []) refs (sym was) all

    front : All P refs'
    front = all_front P refs' (page, r) split

    last : P (page, r)
    last = all_last P refs' (page, r) split

  pub frame_placed : FramesToPlace b space known more others rest refs rows → IsPlacedIn space page (reference.Frame r) rows rows' → FramesToPlace b space known more others rest refs' rows'
  frame_placed left put = record {
    consistent = left.consistent;
    refs_are = front (λ (x : ℕ × CountedPage). IsRefOf (state_of b) space frame_of x.0 x.1) left.refs_are;
    backed = front (λ (x : ℕ × CountedPage). HasSpareFor b.frames x.1) left.backed;
    short = rows_placed b left.consistent space page known (reference.Frame r) rows rows' put rest ((more ++ pages_of refs') ++ page ∷ []) others (more ++ pages_of refs') others
        (λ q word cell other short. other_frame b (more ++ pages_of refs') others q word cell page other short)
        (λ q word cell low here at short. filled_frame b (more ++ pages_of refs') others q word cell space page low here at r
        (last (λ (x : ℕ × CountedPage). IsRefOf (state_of b) space frame_of x.0 x.1) left.refs_are) (last (λ (x : ℕ × CountedPage). HasSpareFor b.frames x.1) left.backed) short)
        (subst (λ (l : List ℕ). AreShortIn b known space l others rest rows) behind left.short);
  }

  pub slot_placed : SlotsToPlace b space known more others rest refs rows → IsPlacedIn space page (reference.Slot r) rows rows' → SlotsToPlace b space known more others rest refs' rows'
  slot_placed left put = record {
    consistent = left.consistent;
    refs_are = front (λ (x : ℕ × CountedPage). IsRefOf (state_of b) space slot_of x.0 x.1) left.refs_are;
    backed = front (λ (x : ℕ × CountedPage). HasSpareFor b.slots x.1) left.backed;
    short = rows_placed b left.consistent space page known (reference.Slot r) rows rows' put rest others ((more ++ pages_of refs') ++ page ∷ []) others (more ++ pages_of refs')
        (λ q word cell other short. other_slot b others (more ++ pages_of refs') q word cell page other short)
        (λ q word cell low here at short. filled_slot b others (more ++ pages_of refs') q word cell space page low here at r
        (last (λ (x : ℕ × CountedPage). IsRefOf (state_of b) space slot_of x.0 x.1) left.refs_are) (last (λ (x : ℕ × CountedPage). HasSpareFor b.slots x.1) left.backed) short)
        (subst (λ (l : List ℕ). AreShortIn b known space others l rest rows) behind left.short);
  }
