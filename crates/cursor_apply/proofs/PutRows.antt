-- A reference comes back into the row that has its page.
--     is_filled      what the calls have done
--     Came, came      each row afterwards, and each of its cells
--     rows_put      the rows lack one page less
use Rattle.std.specs.Prelude.{◌≡◌, ℕ, zero, suc, ◌+◌, ◌-◌, ◌*◌, ◌/◌, ◌%◌, ◌<◌, ◌⊎◌, List, [], ◌∷◌, map, length, slice_get, slice_index, slice_index_or, slice_set, Some}
use Rattle.std.specs.List.{Contains}
use Rattle.std.proofs.Common.{sym, refl, ◌∙◌, ap, subst, arith, inl, inr}
use Rattle.std.proofs.lemmas.List.{length-set}
use Rattle.std.proofs.lemmas.Option.{slice_get_within}
use Rattle.std.proofs.lemmas.List.Elements.{Contains-get_or}
use mathlib.Core.Logic.{dite}
use native.Mathlib.Decide.{ℕ_discrete}
use Rattle.page_map.specs.State.{State, IsConsistent, levels}
use Rattle.row_cells.specs.declared.Cell.{Cell}
use Rattle.row_table.specs.declared.view.HeldRow.{HeldRow as KnownRow}
use Rattle.table_place.specs.declared.Place.{Place}
use Rattle.table_place.proofs.Entries.{level_of, below_is}
use Rattle.tree_lock.specs.Held.{with_content}
use Rattle.machine_plan.specs.Agrees.{below, IsTableOf}
use Rattle.machine_plan.specs.Books.{BookData, state_of}
use Rattle.machine_plan.specs.HeldRows.{Row, AreOf}
use Rattle.cursor_detach.proofs.Lists.{get_same, get_other, any_default}
use Rattle.cursor_detach.proofs.RowLists.{one_index, with_same, with_other, with_length}
use Rattle.cursor_apply.specs.declared.putting.Reference.{Reference}
use Rattle.cursor_apply.specs.Putting.{filled_cell, IsLeafOf, IsLeafAt, IsFilled, IsPut, IsShortCell, AreShort, row_place}

pub is_filled : (page : ℕ) (r : Reference) (rows : List Row) (at : ℕ) → IsLeafAt rows page (Some at) → (content : List Cell) → ((d : Row) → (slice_index_or rows at d).content ≡ content) → (now : List Cell)
    → (cell : Cell) × (slice_get content (page % 512) ≡ Some cell) × (now ≡ slice_set content (page % 512) (filled_cell cell r)) → IsFilled page r rows (with_content rows at now)
is_filled page r [] at leaf content is now told = absurd (omega (arith, leaf.0))
is_filled page r (z ∷ zs) at leaf content is now told =
    let row = slice_index_or (z ∷ zs) at z in
    record {
      at = at;
      is_leaf = leaf;
      row = row;
      is_row = λ d. any_default (z ∷ zs) at d z leaf.0;
      cell = told.0;
      there = ap (λ (l : List Cell). slice_get l (page % 512)) (is z) ∙ told.1;
      now = ap (with_content (z ∷ zs) at) (told.2 ∙ ap (λ (l : List Cell). slice_set l (page % 512) (filled_cell told.0 r)) (sym (is z)));
    }

same_places : (rows : List Row) (k : ℕ) (w : List Cell) → map row_place (with_content rows k w) ≡ map row_place rows
same_places [] k w = refl
same_places (x ∷ xs) zero w = refl
same_places (x ∷ xs) (suc k) w = ap (λ (l : List (ℕ × Place)). row_place x ∷ l) (same_places xs k w)

-- every row keeps its number and its position
pub put_places : (page : ℕ) (r : Reference) (rows rows' : List Row) → IsPut page r rows rows' → map row_place rows' ≡ map row_place rows
put_places page r rows rows' put = elim put.put [
  | inl none ↦ ap (map row_place) none.1
  | inr f ↦ ap (map row_place) f.now ∙ same_places rows f.at (slice_set f.row.content (page % 512) (filled_cell f.cell r))
]

-- the cell at an entry of a row, before and after
pub record CellCame (page : ℕ) (r : Reference) (x : Row) (i : ℕ) (now : Cell) : Type 0 where
  pub was : Cell
  pub there : slice_get x.content i ≡ Some was
  pub is : ((now ≡ was) × ((IsLeafOf x page × (i ≡ page % 512)) → ⊥)) ⊎ ((now ≡ filled_cell was r) × IsLeafOf x page × (i ≡ page % 512))

pub record Came (page : ℕ) (r : Reference) (rows : List Row) (y : Row) : Type 0 where
  pub was : Row
  pub held : Contains rows was
  pub same_row : was.row ≡ y.row
  pub same_place : was.place ≡ y.place
  pub whole : length y.content ≡ length was.content
  pub cells : (i : ℕ) (cell : Cell) → slice_get y.content i ≡ Some cell → CellCame page r was i cell

module _ (page space : ℕ) (r : Reference) (rows rows' : List Row) (put : IsPut page r rows rows') (of_space : AreOf space rows) where
  -- two rows of level 1 with one page are one
  one_leaf : (i j : ℕ) (d : Row) → i < length rows → j < length rows → IsLeafOf (slice_index_or rows i d) page → IsLeafOf (slice_index_or rows j d) page → i ≡ j
  one_leaf i j d a b one other =
      let x = slice_index_or rows i d in
      let y = slice_index_or rows j d in
      let sx = of_space x (Contains-get_or rows i d a) (omega (arith, one.0)) in
      let sy = of_space y (Contains-get_or rows j d b) (omega (arith, other.0)) in
      one_index rows i j d put.order a b (λ k. record { space = (sx ∙ sym sy) k; level = (one.0 ∙ sym other.0) k; prefix = (one.1 ∙ sym other.1) k })

  same_row : (y : Row) → Contains rows y → (IsLeafOf y page → ⊥) → Came page r rows y
  same_row y has never = record {
    was = y;
    held = has;
    same_row = refl;
    same_place = refl;
    whole = refl;
    cells = λ i cell there. record { was = cell; there = there; is = inl (refl, λ both. never both.0) };
  }

  module _ (f : IsFilled page r rows rows') where
    abbrev index : ℕ
    index = page % 512

    abbrev after : List Cell
    after = slice_set f.row.content index (filled_cell f.cell r)

    leaf : IsLeafOf f.row page
    leaf = subst (λ (z : Row). IsLeafOf z page) (f.is_row f.row) (f.is_leaf.1 f.row)

    f_there : Contains rows f.row
    f_there = subst (Contains rows) (f.is_row f.row) (Contains-get_or rows f.at f.row f.is_leaf.0)

    cell_now : (i : ℕ) (cell : Cell) → slice_get after i ≡ Some cell → CellCame page r f.row i cell
    cell_now i cell there = dite (ℕ_discrete i index)
        (λ e.
        let long : index < length f.row.content = slice_get_within f.row.content index f.cell f.there in
        let now : Some cell ≡ Some (filled_cell f.cell r) = sym there ∙ (ap (slice_get after) e ∙ get_same f.row.content index (filled_cell f.cell r) long) in
        record { was = f.cell; there = ap (slice_get f.row.content) e ∙ f.there; is = inr ((cc), leaf, e) })
        (λ ne. record { was = cell; there = sym (get_other f.row.content index i (filled_cell f.cell r) ne) ∙ there; is = inl (refl, λ both. ne both.1) })

    filled_row : (y : Row) → y ≡ record f.row { content = after } → Came page r rows y
    filled_row y is = record {
      was = f.row;
      held = f_there;
      same_row = ap (λ (z : Row). z.row) (sym is);
      same_place = ap (λ (z : Row). z.place) (sym is);
      whole = ap (λ (z : Row). length z.content) is ∙ length-set f.row.content index (filled_cell f.cell r);
      cells = λ i cell there. cell_now i cell (ap (λ (z : Row). slice_get z.content i) (sym is) ∙ there);
    }

    came_filled : (y : Row) → Contains rows' y → Came page r rows y
    came_filled y has = dite (ℕ_discrete has.0 f.at)
        (λ e. filled_row y (sym has.2 ∙ (ap (λ (l : List Row). slice_index_or l has.0 y) f.now ∙ (ap (λ k. slice_index_or (with_content rows f.at after) k y) e
        ∙ (with_same rows f.at after y f.is_leaf.0 ∙ ap (λ (z : Row). record z { content = after }) (f.is_row y))))))
        (λ ne.
        let is : slice_index_or rows has.0 y ≡ y = sym (ap (λ (l : List Row). slice_index_or l has.0 y) f.now ∙ with_other rows f.at has.0 after y ne) ∙ has.2 in
        let inside : has.0 < length rows = (let a = ap length f.now in let b = with_length rows f.at after in let h = has.1 in omega arith) in
        same_row y (subst (Contains rows) is (Contains-get_or rows has.0 y inside))
        (λ it. ne (one_leaf has.0 f.at y inside f.is_leaf.0 (subst (λ (z : Row). IsLeafOf z page) (sym is) it) (f.is_leaf.1 y))))

  pub came : (y : Row) → Contains rows' y → Came page r rows y
  came y has = elim put.put [
    | inl none ↦ let was = subst (λ (l : List Row). Contains l y) none.1 has in same_row y was (none.0 y was)
    | inr f ↦ came_filled f y has
  ]

  pub of_space_now : AreOf space rows'
  of_space_now y has low = let o = came y has in ap (λ (p : Place). p.space) (sym o.same_place) ∙ of_space o.was o.held (subst (λ (p : Place). p.level < 6) (sym o.same_place) low)

module _ (st : State) (is : IsConsistent st) (page : ℕ) where
  -- the positions below a table
  pub page_below : (p : Place) (i : ℕ) → i < 512 → IsTableOf st p → (below (levels st) p i).level ≡ 0 → (below (levels st) p i).prefix ≡ page → (p.level ≡ 1) × (p.prefix ≡ page / 512) × (i ≡ page % 512)
  page_below p i inside (inl top) low at =
      let e : (below (levels st) p i).level ≡ levels st = ap (λ (x : Place). (below (levels st) x i).level) top in
      let least = is.some_levels in absurd (omega arith)
  page_below p i inside (inr there) low at =
      let few : levels st < 6 = omega (arith, is.few_levels) in
      let depth = level_of (levels st) p (is.places p there) in
      let b = below_is (levels st) p i (omega (arith, depth.1, few)) in
      let level : p.level - 1 ≡ 0 = ap (λ (x : Place). x.level) (sym b) ∙ low in
      let prefix : 512 * p.prefix + i ≡ page = ap (λ (x : Place). x.prefix) (sym b) ∙ at in
      (omega (arith, depth.0, level), omega (arith, prefix, inside), omega (arith, prefix, inside))

module _ (b : BookData) (is : IsConsistent (state_of b)) (space page : ℕ) (known : List (KnownRow (List Cell))) (r : Reference) (rows rows' : List Row) (put : IsPut page r rows rows') (of_space : AreOf space rows)
    (frames slots frames' slots' : List ℕ)
    (other : (q : Place) (word : ℕ) (cell : Cell) → (q.level ≡ 0 → q.prefix ≡ page → ⊥) → IsShortCell b frames slots q word cell → IsShortCell b frames' slots' q word cell)
    (here : (q : Place) (word : ℕ) (cell : Cell) → q.level ≡ 0 → q.space ≡ space → q.prefix ≡ page → IsShortCell b frames slots q word cell → IsShortCell b frames' slots' q word (filled_cell cell r)) where
  abbrev L : ℕ
  L = levels (state_of b)

  short_cell : (x : Row) (i word : ℕ) (cell : Cell) → i < 512 → Contains rows x → IsTableOf (state_of b) x.place → (o : CellCame page r x i cell) → IsShortCell b frames slots (below L x.place i) word o.was → IsShortCell b frames' slots' (below L x.place i) word cell
  short_cell x i word cell inside has table o short = elim o.is [
    | inl same ↦ subst (IsShortCell b frames' slots' (below L x.place i) word) (sym same.0)
        (other (below L x.place i) word o.was (λ low at. let p = page_below (state_of b) is page x.place i inside table low at in same.1 ((p.0, p.1), p.2)) short)
    | inr fill ↦
        let at = below_is L x.place i (omega (arith, fill.1.0)) in
        let level : x.place.level ≡ 1 = fill.1.0 in
        let prefix : 512 * x.place.prefix + i ≡ page = (let a = fill.1.1 in let e = fill.2 in omega arith) in
        subst (IsShortCell b frames' slots' (below L x.place i) word) (sym fill.0)
        (here (below L x.place i) word o.was (ap (λ (p : Place). p.level) at ∙ omega (arith, level)) (ap (λ (p : Place). p.space) at ∙ of_space x has (omega (arith, level))) (ap (λ (p : Place). p.prefix) at ∙ prefix) short)
  ]

  pub rows_put : AreShort b known frames slots rows → AreShort b known frames' slots' rows'
  rows_put short y has =
      let o = came page space r rows rows' put of_space y has in
      let s = short o.was o.held in
      record {
        row = s.row;
        held = s.held;
        same_row = s.same_row ∙ o.same_row;
        same_place = s.same_place ∙ o.same_place;
        table = subst (IsTableOf (state_of b)) o.same_place s.table;
        whole = o.whole ∙ s.whole;
        cells = λ i cell inside there.
            let k = o.cells i cell there in
            subst (λ p. IsShortCell b frames' slots' (below L p i) (slice_index s.row.words i) cell) o.same_place
            (short_cell o.was i (slice_index s.row.words i) cell inside o.held s.table k (s.cells i k.was inside k.there));
      }
