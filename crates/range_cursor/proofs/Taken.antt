-- References taken out of rows, one page at a time.
use Rattle.std.specs.Prelude.{◌≡◌, ℕ, zero, suc, ◌+◌, ◌*◌, ◌/◌, ◌%◌, ◌<◌, ◌≤◌, ◌&&◌, Bool, true, false, cond, List, [], ◌∷◌, ◌++◌, length, nat_eq, slice_get, slice_set, slice_index_or, Some}
use Rattle.std.proofs.Common.{sym, refl, ◌∙◌, ap, subst, arith, inl, inr, get_or}
use Rattle.std.proofs.lemmas.Bool.{cases_eq, cases_lt, eq-eqb, eqb-true, false≢true}
use Rattle.std.proofs.lemmas.Option.{slice_get-get_or, slice_get_within}
use Rattle.std.proofs.lemmas.List.{length-set}
use Rattle.counted_pages.specs.Pages.{CountedPage}
use Rattle.page_map.proofs.Owners.{same_some}
use Rattle.page_map.proofs.Range.{inside, outside}
use Rattle.row_cells.specs.declared.Cell.{Cell}
use Rattle.row_cells.specs.declared.Cell.TheVariants.{Invalid, Table, Anon, File, Mapped, Swapped}
use Rattle.table_place.specs.declared.Place.{Place}
use Rattle.table_place.specs.Range.{within}
use Rattle.tree_lock.specs.Held.{IsInOrder, with_content}
use Rattle.tree_lock.specs.Order.{IsBefore}
use Rattle.table_place.specs.Place.{span_first}
use Rattle.range_cursor.proofs.Refusals.{is_within}
use Rattle.machine_plan.specs.HeldRows.{Row}
use Rattle.range_cursor.specs.declared.drawing.Drawn.{Drawn}
use Rattle.range_cursor.specs.declared.drawing.Drawn.TheVariants as drawn
use Rattle.range_cursor.specs.Drawing.{drawn_cell, drawn_from, frames_in, slots_in, frame_part, slot_part, leaf_place, IsAtPlace, CellOf, IsTaken, page_at, IsDrawnRow, AreDrawn, reaches, IsPartOf, ArePartsOf}

-- ---- lists

module _ {X : Type 0} where
  pub get_same : (xs : List X) (i : ℕ) (y : X) → i < length xs → slice_get (slice_set xs i y) i ≡ Some y
  get_same [] i y h = absurd (omega arith)
  get_same (x ∷ xs) zero y h = refl
  get_same (x ∷ xs) (suc i) y h = get_same xs i y (omega (arith, h))

  pub get_other : (xs : List X) (i j : ℕ) (y : X) → (j ≡ i → ⊥) → slice_get (slice_set xs i y) j ≡ slice_get xs j
  get_other [] i j y other = refl
  get_other (x ∷ xs) zero zero y other = absurd (other refl)
  get_other (x ∷ xs) zero (suc j) y other = refl
  get_other (x ∷ xs) (suc i) zero y other = refl
  get_other (x ∷ xs) (suc i) (suc j) y other = get_other xs i j y (λ e. other (ap suc e))

  pub any_default : (xs : List X) (k : ℕ) (d e : X) → k < length xs → get_or xs k d ≡ get_or xs k e
  any_default [] k d e h = absurd (omega arith)
  any_default (x ∷ xs) zero d e h = refl
  any_default (x ∷ xs) (suc k) d e h = any_default xs k d e (omega (arith, h))

pub with_same : (rows : List Row) (k : ℕ) (w : List Cell) (d : Row) → k < length rows → slice_index_or (with_content rows k w) k d ≡ record (slice_index_or rows k d) { content = w }
with_same [] k w d h = absurd (omega arith)
with_same (x ∷ xs) zero w d h = refl
with_same (x ∷ xs) (suc k) w d h = with_same xs k w d (omega (arith, h))

pub with_other : (rows : List Row) (k j : ℕ) (w : List Cell) (d : Row) → (j ≡ k → ⊥) → slice_index_or (with_content rows k w) j d ≡ slice_index_or rows j d
with_other [] k j w d other = refl
with_other (x ∷ xs) zero zero w d other = absurd (other refl)
with_other (x ∷ xs) zero (suc j) w d other = refl
with_other (x ∷ xs) (suc k) zero w d other = refl
with_other (x ∷ xs) (suc k) (suc j) w d other = with_other xs k j w d (λ e. other (ap suc e))

pub with_length : (rows : List Row) (k : ℕ) (w : List Cell) → length (with_content rows k w) ≡ length rows
with_length [] k w = refl
with_length (x ∷ xs) zero w = refl
with_length (x ∷ xs) (suc k) w = ap suc (with_length xs k w)

-- ---- the row of a position

pub equal_places : (p q : Place) → true ≡ (nat_eq p.space q.space && (nat_eq p.level q.level && nat_eq p.prefix q.prefix)) → p ≡ q
equal_places p q e = go (nat_eq p.space q.space) refl (nat_eq p.level q.level) refl (nat_eq p.prefix q.prefix) refl e
  where
    go : (a : Bool) → nat_eq p.space q.space ≡ a → (b : Bool) → nat_eq p.level q.level ≡ b → (c : Bool) → nat_eq p.prefix q.prefix ≡ c → true ≡ (a && (b && c)) → p ≡ q
    go true f true g true h e = λ i. record { space = eqb-true p.space q.space f i; level = eqb-true p.level q.level g i; prefix = eqb-true p.prefix q.prefix h i }
    go false f b g c h e = absurd (false≢true (sym e))
    go true f false g c h e = absurd (false≢true (sym e))
    go true f true g false h e = absurd (false≢true (sym e))

not_before : (p q : Place) → IsBefore p q → p ≡ q → ⊥
not_before p q b same =
    let level = b.level (ap (λ (x : Place). x.space) same) (ap span_first same) in
    let e : p.level ≡ q.level = ap (λ (x : Place). x.level) same in
    omega (arith, level, e)

pub only_one : (rows : List Row) (p : Place) (k : ℕ) → IsInOrder rows → k < length rows → ((d : Row) → (slice_index_or rows k d).place ≡ p) → IsAtPlace rows p k
only_one rows p k order within here = record { inside = within; here = here; only = only }
  where
    only : (j : ℕ) (d : Row) → j < length rows → (slice_index_or rows j d).place ≡ p → j ≡ k
    only j d inside there = elim (cases_eq j k) [
      | inl same ↦ same
      | inr other ↦ elim (cases_lt j k) [
        | inl less ↦ absurd (not_before _ _ (order j k d less within) (there ∙ sym (here d)))
        | inr not_less ↦ absurd (not_before _ _ (order k j d (more j k other not_less) inside) (here d ∙ sym there))
      ]
    ]
      where
        more : (j k : ℕ) → (j ≡ k → ⊥) → k ≤ j → k < j
        more j k other h = omega arith

-- ---- one page

abbrev pub Tests : ℕ → ℕ → ℕ → Row → ℕ → Bool
Tests space first n x index = nat_eq x.place.level 1 && reaches space first n x.place.space (page_at x index)

pub and_no : (a b : Bool) → (a && (b && false)) ≡ false
and_no true true = refl
and_no true false = refl
and_no false b = refl

pub past : (first n q : ℕ) → q ≡ first + n → within first n q ≡ false
past first n q at = go (within first n q) refl
  where
    go : (b : Bool) → within first n q ≡ b → b ≡ false
    go false e = refl
    go true e = absurd (omega (arith, at, (inside first n q e).1))

-- a page beyond the range is not drawn
pub not_reached : (space first n : ℕ) (x : Row) (index : ℕ) → page_at x index ≡ first + n → Tests space first n x index ≡ false
not_reached space first n x index at = ap (λ b. nat_eq x.place.level 1 && (nat_eq x.place.space space && b)) (past first n (page_at x index) at) ∙ and_no _ _

-- the range grows by a page
pub reached : (space first n : ℕ) (x : Row) (index : ℕ) → x.place.level ≡ 1 → x.place.space ≡ space → page_at x index ≡ first + n → Tests space first (suc n) x index ≡ true
reached space first n x index level of_space at =
    ap (λ b. b && reaches space first (suc n) x.place.space (page_at x index)) (eq-eqb x.place.level 1 level)
    ∙ ap (λ b. b && within first (suc n) (page_at x index)) (eq-eqb x.place.space space of_space)
    ∙ is_within first (suc n) (page_at x index) (omega (arith, at)) (omega (arith, at))

-- and by no other
pub as_before : (space first n : ℕ) (x : Row) (index : ℕ) → (x.place.level ≡ 1 → x.place.space ≡ space → page_at x index ≡ first + n → ⊥) → Tests space first (suc n) x index ≡ Tests space first n x index
as_before space first n x index other = go (nat_eq x.place.level 1) refl (nat_eq x.place.space space) refl
  where
    go : (a : Bool) → nat_eq x.place.level 1 ≡ a → (b : Bool) → nat_eq x.place.space space ≡ b
        → (a && (b && within first (suc n) (page_at x index))) ≡ (a && (b && within first n (page_at x index)))
    go false e b f = refl
    go true e false f = refl
    go true e true f = same (within first (suc n) (page_at x index)) refl (within first n (page_at x index)) refl
      where
        not_it : page_at x index ≡ first + n → ⊥
        not_it at = other (eqb-true x.place.level 1 e) (eqb-true x.place.space space f) at

        same : (g : Bool) → within first (suc n) (page_at x index) ≡ g → (h : Bool) → within first n (page_at x index) ≡ h → g ≡ h
        same true p true q = refl
        same false p false q = refl
        same true p false q = absurd (outside first n (page_at x index) q (inside first (suc n) (page_at x index) p).0 (less first n (page_at x index) (inside first (suc n) (page_at x index) p).1 not_it))
          where
            less : (first n q : ℕ) → q < first + suc n → (q ≡ first + n → ⊥) → q < first + n
            less first n q h other = omega arith
        same false p true q = absurd (outside first (suc n) (page_at x index) p (inside first n (page_at x index) q).0 (omega (arith, (inside first n (page_at x index) q).1)))

-- the row of a page
pub is_leaf_place : (p : Place) (space page index : ℕ) → index < 512 → p.level ≡ 1 → p.space ≡ space → 512 * p.prefix + index ≡ page → p ≡ leaf_place space page
is_leaf_place p space page index small level of_space at = λ i. record { space = of_space i; level = level i; prefix = prefix p.prefix page index small at i }
  where
    prefix : (q page index : ℕ) → index < 512 → 512 * q + index ≡ page → q ≡ page / 512
    prefix q page index small at = omega (arith, small, at)

module _ (space first n : ℕ) (rows0 rows1 rows2 : List Row) (so_far : AreDrawn (reaches space first n) rows0 rows1) where
  place_same : (j : ℕ) (d : Row) → j < length rows0 → (slice_index_or rows1 j d).place ≡ (slice_index_or rows0 j d).place
  place_same j d h = (so_far.each j d h).same_place

  -- a row that is another than the page's
  stays : (j : ℕ) (d : Row) → j < length rows0 → ((slice_index_or rows1 j d).place ≡ leaf_place space (first + n) → ⊥) → IsDrawnRow (reaches space first (suc n)) (slice_index_or rows0 j d) (slice_index_or rows1 j d)
  stays j d h other =
      let x0 = slice_index_or rows0 j d in
      let was = so_far.each j d h in
      record {
        same_row = was.same_row;
        same_place = was.same_place;
        same_generation = was.same_generation;
        whole = was.whole;
        each = λ index cell small at.
            was.each index cell small at
            ∙ ap (λ b. Some (cond b (drawn_cell cell) cell)) (sym (as_before space first n x0 index (λ level of_space page. other (place_same j d h ∙ is_leaf_place x0.place space (first + n) index small level of_space page))));
      }

  pub drawn_more : (taken : Drawn) → IsTaken space (first + n) rows1 rows2 taken → AreDrawn (reaches space first (suc n)) rows0 rows2
  drawn_more taken (inl (none, same, nothing)) = subst (λ rs. AreDrawn (reaches space first (suc n)) rows0 rs) (sym same) (record {
    as_many = so_far.as_many;
    each = λ j d h. stays j d h (λ e. none (slice_index_or rows1 j d) (j, omega (arith, h, so_far.as_many), any_default rows1 j (slice_index_or rows1 j d) d (omega (arith, h, so_far.as_many))) e);
  })
  drawn_more taken (inr (at, same, is)) = subst (λ rs. AreDrawn (reaches space first (suc n)) rows0 rs) (sym same) (record {
    as_many = with_length rows1 at.place _ ∙ so_far.as_many;
    each = λ j d h. elim (cases_eq j at.place) [
      | inl e ↦ here j d h e
      | inr other ↦ subst (λ x. IsDrawnRow (reaches space first (suc n)) (slice_index_or rows0 j d) x) (sym (with_other rows1 at.place j _ d other))
          (stays j d h (λ e. other (at.is_leaf.only j d (omega (arith, h, so_far.as_many)) e)))
    ];
  })
    where
      new : List Cell
      new = slice_set at.content ((first + n) % 512) (drawn_cell at.cell)

      here : (j : ℕ) (d : Row) → j < length rows0 → j ≡ at.place → IsDrawnRow (reaches space first (suc n)) (slice_index_or rows0 j d) (slice_index_or (with_content rows1 at.place new) j d)
      here j d h e =
          let x0 = slice_index_or rows0 j d in
          let x1 = slice_index_or rows1 j d in
          let was = so_far.each j d h in
          let page : ℕ = first + n in
          let inside1 : j < length rows1 = omega (arith, h, so_far.as_many) in
          let is_new : slice_index_or (with_content rows1 at.place new) j d ≡ record x1 { content = new } =
          subst (λ k. slice_index_or (with_content rows1 k new) j d ≡ record x1 { content = new }) e (with_same rows1 j new d inside1) in
          let content_is : x1.content ≡ at.content = ap (λ k. (slice_index_or rows1 k d).content) e ∙ at.content_is d in
          let leaf : x0.place ≡ leaf_place space page = sym (place_same j d h) ∙ (ap (λ k. (slice_index_or rows1 k d).place) e ∙ at.is_leaf.here d) in
          subst (λ x. IsDrawnRow (reaches space first (suc n)) x0 x) (sym is_new) (record {
            same_row = was.same_row;
            same_place = was.same_place;
            same_generation = was.same_generation;
            whole = length-set at.content (page % 512) (drawn_cell at.cell) ∙ (sym (ap length content_is) ∙ was.whole);
            each = λ index cell small there. elim (cases_eq index (page % 512)) [
              | inl it ↦
                  let at_page : page_at x0 index ≡ page = whole_page x0.place.prefix page index (ap (λ (p : Place). p.prefix) leaf) it in
                  let found : slice_get at.content index ≡ Some cell = ap (λ c. slice_get c index) (sym content_is) ∙ was.each index cell small there ∙ ap (λ b. Some (cond b (drawn_cell cell) cell)) (not_reached space first n x0 index at_page) in
                  let same_cell : at.cell ≡ cell = same_some (sym at.there ∙ (ap (slice_get at.content) (sym it) ∙ found)) in
                  ap (slice_get new) it ∙ get_same at.content (page % 512) (drawn_cell at.cell) (slice_get_within at.content (page % 512) at.cell at.there)
                  ∙ ap (λ c. Some (drawn_cell c)) same_cell
                  ∙ ap (λ b. Some (cond b (drawn_cell cell) cell)) (sym (reached space first n x0 index (ap (λ (p : Place). p.level) leaf) (ap (λ (p : Place). p.space) leaf) at_page))
              | inr other ↦
                  get_other at.content (page % 512) index (drawn_cell at.cell) other ∙ ap (λ c. slice_get c index) (sym content_is) ∙ was.each index cell small there
                  ∙ ap (λ b. Some (cond b (drawn_cell cell) cell)) (sym (as_before space first n x0 index (λ level of_space here. other (rest x0.place.prefix page index small here))))
            ];
          })
        where
          whole_page : (q page index : ℕ) → q ≡ page / 512 → index ≡ page % 512 → 512 * q + index ≡ page
          whole_page q page index a b = omega (arith, a, b)

          rest : (q page index : ℕ) → index < 512 → 512 * q + index ≡ page → index ≡ page % 512
          rest q page index small at = omega (arith, small, at)

  -- what is there was there at first
  pub part_at_first : (part : ℕ → Cell → List (ℕ × CountedPage)) (refs : List (ℕ × CountedPage)) → IsPartOf part space rows1 (first + n) refs → IsPartOf part space rows0 (first + n) refs
  part_at_first part refs (inl (none, is)) = inl (
    λ x held e. none (slice_index_or rows1 held.0 x) (held.0, omega (arith, held.1, so_far.as_many), any_default rows1 held.0 _ x (omega (arith, held.1, so_far.as_many)))
        (place_same held.0 x held.1 ∙ (ap (λ (y : Row). y.place) held.2 ∙ e)),
    is,
  )
  part_at_first part refs (inr (at, is)) = inr (cell_at_first, is)
    where
      within0 : at.place < length rows0
      within0 = omega (arith, at.is_leaf.inside, so_far.as_many)

      i : ℕ
      i = (first + n) % 512

      small : (page : ℕ) → page % 512 < 512
      small page = omega arith

      some_row : Row
      some_row = record { row = 0; place = leaf_place space 0; generation = 0; content = [] }

      cells : List Cell
      cells = (slice_index_or rows0 at.place some_row).content

      there : slice_get cells i ≡ Some at.cell
      there =
          let was = so_far.each at.place some_row within0 in
          let x0 = slice_index_or rows0 at.place some_row in
          let content_is = at.content_is some_row in
          let long : i < length cells = omega (arith, slice_get_within at.content i at.cell at.there, ap length content_is, was.whole) in
          let c0 : Cell = get_or cells i at.cell in
          let found : slice_get cells i ≡ Some c0 = slice_get-get_or cells i at.cell long in
          let at_page : page_at x0 i ≡ first + n = whole x0.place.prefix (first + n) (ap (λ (p : Place). p.prefix) (sym (place_same at.place some_row within0) ∙ at.is_leaf.here some_row)) in
          let now = was.each i c0 (small (first + n)) found ∙ ap (λ b. Some (cond b (drawn_cell c0) c0)) (not_reached space first n x0 i at_page) in
          found ∙ (sym now ∙ (ap (λ c. slice_get c i) content_is ∙ at.there))
        where
          whole : (q page : ℕ) → q ≡ page / 512 → 512 * q + page % 512 ≡ page
          whole q page e = omega (arith, e)

      cell_at_first : CellOf space (first + n) rows0
      cell_at_first = record {
        place = at.place;
        is_leaf = record {
          inside = within0;
          here = λ d. sym (place_same at.place d within0) ∙ at.is_leaf.here d;
          only = λ j d h e. at.is_leaf.only j d (omega (arith, h, so_far.as_many)) (place_same j d h ∙ e);
        };
        cell = at.cell;
        content = cells;
        content_is = λ d. ap (λ (x : Row). x.content) (any_default rows0 at.place d some_row within0);
        there = there;
      }

pub parts_more : (part : ℕ → Cell → List (ℕ × CountedPage)) (space first n : ℕ) (rows0 rows1 : List Row) → AreDrawn (reaches space first n) rows0 rows1 → (before here refs : List (ℕ × CountedPage)) → ArePartsOf part space rows0 first n before
    → IsPartOf part space rows1 (first + n) here → refs ≡ before ++ here → ArePartsOf part space rows0 first (suc n) refs
parts_more part space first n rows0 rows1 so_far before here refs was is refs_are =
    (before, was, record { here = here; is_part = part_at_first space first n rows0 rows1 rows1 so_far part here is; refs_are = refs_are })

frames_are : (page : ℕ) (c : Cell) → frames_in page (drawn_from c) ≡ frame_part page c
frames_are page Invalid = refl
frames_are page Table = refl
frames_are page (Anon perm) = refl
frames_are page (File perm file index) = refl
frames_are page (Mapped perm origin frame) = refl
frames_are page (Swapped perm origin slot) = refl

slots_are : (page : ℕ) (c : Cell) → slots_in page (drawn_from c) ≡ slot_part page c
slots_are page Invalid = refl
slots_are page Table = refl
slots_are page (Anon perm) = refl
slots_are page (File perm file index) = refl
slots_are page (Mapped perm origin frame) = refl
slots_are page (Swapped perm origin slot) = refl

pub taken_frames : (space page : ℕ) (rows rows' : List Row) (taken : Drawn) → IsTaken space page rows rows' taken → IsPartOf frame_part space rows page (frames_in page taken)
taken_frames space page rows rows' taken (inl (none, same, is)) = inl (none, ap (frames_in page) is)
taken_frames space page rows rows' taken (inr (at, same, is)) = inr (at, ap (frames_in page) is ∙ frames_are page at.cell)

pub taken_slots : (space page : ℕ) (rows rows' : List Row) (taken : Drawn) → IsTaken space page rows rows' taken → IsPartOf slot_part space rows page (slots_in page taken)
taken_slots space page rows rows' taken (inl (none, same, is)) = inl (none, ap (slots_in page) is)
taken_slots space page rows rows' taken (inr (at, same, is)) = inr (at, ap (slots_in page) is ∙ slots_are page at.cell)

pub short_frames : (page : ℕ) (taken : Drawn) → length (frames_in page taken) ≤ 1
short_frames page drawn.Nothing = omega arith
short_frames page (drawn.Frame frame) = omega arith
short_frames page (drawn.Slot slot) = omega arith

pub short_slots : (page : ℕ) (taken : Drawn) → length (slots_in page taken) ≤ 1
short_slots page drawn.Nothing = omega arith
short_slots page (drawn.Frame frame) = omega arith
short_slots page (drawn.Slot slot) = omega arith

pub none_drawn : (space first : ℕ) (rows : List Row) → AreDrawn (reaches space first 0) rows rows
none_drawn space first rows = record {
  as_many = refl;
  each = λ j d h. record {
    same_row = refl;
    same_place = refl;
    same_generation = refl;
    whole = refl;
    each = λ index cell small at. at ∙ ap (λ b. Some (cond b (drawn_cell cell) cell)) (sym (nothing (slice_index_or rows j d) index));
  };
}
  where
    none_within : (first q : ℕ) → within first 0 q ≡ false
    none_within first q = go (within first 0 q) refl
      where
        go : (b : Bool) → within first 0 q ≡ b → b ≡ false
        go false e = refl
        go true e = absurd (omega (arith, inside first 0 q e))

    nothing : (x : Row) (index : ℕ) → Tests space first 0 x index ≡ false
    nothing x index = ap (λ b. nat_eq x.place.level 1 && (nat_eq x.place.space space && b)) (none_within first (page_at x index)) ∙ and_no _ _
