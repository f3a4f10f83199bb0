-- Rows of a state have few references.
--     rows_have_few      no more than the state has frames, and slots
use Rattle.std.specs.Prelude.{◌≡◌, ℕ, zero, suc, ◌+◌, ◌-◌, ◌*◌, ◌/◌, ◌%◌, ◌^◌, ◌<◌, ◌≤◌, ◌&&◌, Bool, true, false, cond, List, [], ◌∷◌, length, slice_get, slice_index_or, is_some, Option, Some, None}
use Rattle.std.specs.Option.{option_map_or}
use Rattle.std.specs.List.{Contains, filter, flat_map}
use Rattle.std.specs.FinMap as fin
use Rattle.std.proofs.Common.{sym, refl, ◌∙◌, ap, subst, arith, inl, inr}
use Rattle.std.proofs.lemmas.List.{length-append, length-map}
use Rattle.counted_pages.specs.Pages.{CountedPage}
use Rattle.page_map.specs.declared.cell.Cell.{Cell as PageCell}
use Rattle.page_map.specs.Cell.{frame_of, slot_of, contents}
use Rattle.page_map.specs.State.{State, IsConsistent, SharersAgree, levels, cell_at, space_at}
use Rattle.page_map.proofs.Bounds.{few_numbered_in}
use Rattle.row_cells.specs.declared.Cell.{Cell}
use Rattle.table_place.specs.declared.Place.{Place}
use Rattle.table_place.specs.Place.{place_of, has_page, span_first}
use Rattle.table_place.specs.Range.{within}
use Rattle.machine_plan.specs.Agrees.{below, Shows}
use Rattle.machine_plan.specs.HeldRows.{Row, RowsShown}
use Rattle.machine_plan.specs.Uses.{Ref, ref_at, shown_ref, shown_refs}
use Rattle.machine_plan.proofs.Towers.{tower_has}
use Rattle.range_cursor.specs.Drawing.{leaf_place, CellOf, frame_part, slot_part, IsPartOf, ArePartsOf}
use Rattle.range_cursor.specs.Ranges.{RowsHaveFew}
use Rattle.range_cursor.proofs.Listing.{listed, one, listed_more}
use Rattle.range_cursor.proofs.Wanting.{page_cell, contained, no_link, stands, frames_there, slots_there}

module _ (number_of : PageCell → Option ℕ) (part : ℕ → Cell → List (ℕ × CountedPage)) (there : (p : ℕ) (c : Cell) (off : ℕ) → shown_refs (part p c) ≡ one (ref_at number_of) p (page_cell c off)) (st : State) (is : IsConsistent st) (rows : List Row) (shown : RowsShown st rows) (space : ℕ) where
  part_there : (p : ℕ) (refs : List (ℕ × CountedPage)) (at : CellOf space p rows) → refs ≡ part p at.cell → shown_refs refs ≡ one (ref_at number_of) p (cell_at st space p)
  part_there p refs at is_part =
      let x : Row = slice_index_or rows at.place some_row in
      let held : Contains rows x = contained rows at.place some_row at.is_leaf.inside in
      let q : Place = below (levels st) (leaf_place space p) (p % 512) in
      let shows : Shows st q at.cell = subst (λ y. Shows st (below (levels st) y (p % 512)) at.cell) (at.is_leaf.here some_row) ((shown x held).each (p % 512) at.cell (small p) (subst (λ cells. slice_get cells (p % 512) ≡ Some at.cell) (sym (at.content_is some_row)) at.there)) in
      let has : has_page q space p ≡ true = subst (λ y. has_page y space p ≡ true) (sym (page_place p)) (tower_has space 0 p (omega arith)) in
      ap shown_refs is_part ∙ there p at.cell (p - span_first q) ∙ ap (one (ref_at number_of) p) (sym (stands st q at.cell space p (no_link st is q at.cell refl shows) shows has))
    where
      some_row : Row
      some_row = record { row = 0; place = leaf_place space 0; generation = 0; content = [] }

      small : (p : ℕ) → p % 512 < 512
      small p = omega arith

      page_place : (p : ℕ) → below (levels st) (leaf_place space p) (p % 512) ≡ place_of space 0 p
      page_place p = λ i. record { space = space; level = 0; prefix = whole p i }
        where
          whole : (p : ℕ) → 512 * (p / 512) + p % 512 ≡ p / 512 ^ 0
          whole p = omega arith

  here_few : (p : ℕ) (refs : List (ℕ × CountedPage)) → IsPartOf part space rows p refs → length refs ≤ length (one (ref_at number_of) p (cell_at st space p))
  here_few p refs (inl (none, empty)) = omega (arith, ap length empty)
  here_few p refs (inr (at, is_part)) = omega (arith, length-map refs shown_ref, ap length (part_there p refs at is_part))

  parts_few : (first n : ℕ) (refs : List (ℕ × CountedPage)) → ArePartsOf part space rows first n refs → length refs ≤ length (listed (ref_at number_of) first n (fin.entries (space_at st space)))
  parts_few first zero refs are = omega (arith, ap length are)
  parts_few first (suc n) refs (before, was, more) =
      omega (
        arith,
        ap length more.refs_are,
        length-append before more.here,
        parts_few first n before was,
        here_few (first + n) more.here more.is_part,
        ap length (listed_more (ref_at number_of) (space_at st space) first n),
        length-append (listed (ref_at number_of) first n (fin.entries (space_at st space))) (one (ref_at number_of) (first + n) (cell_at st space (first + n))),
      )

  listed_few : (first n : ℕ) (es : List (ℕ × PageCell)) → length (listed (ref_at number_of) first n es) ≤ length (filter (λ e. within first n e.0 && is_some (number_of e.1)) es)
  unfolding listed
  listed_few first n [] = omega arith
  listed_few first n (e ∷ es) = go (within first n e.0) (number_of e.1) refl (listed_few first n es)
    where
      rest : List (ℕ × PageCell)
      rest = filter (λ e. within first n e.0) es

      passed : List (ℕ × PageCell)
      passed = filter (λ e. within first n e.0 && is_some (number_of e.1)) es

      go : (w : Bool) (o : Option ℕ) → number_of e.1 ≡ o → length (flat_map (ref_at number_of) rest) ≤ length passed → length (flat_map (ref_at number_of) (cond w (e ∷ rest) rest)) ≤ length (cond (w && is_some (number_of e.1)) (e ∷ passed) passed)
      go false o eq few = few
      go true (Some m) eq few =
          let one_ref = ap (λ x. length {A = Ref} (option_map_or (λ k. (e.0, (k, contents [] e.1)) ∷ []) x [])) eq in
          let one_cell = ap (λ x. length (cond (is_some x) (e ∷ passed) passed)) eq in
          omega (arith, few, length-append (ref_at number_of e) (flat_map (ref_at number_of) rest), one_ref, one_cell)
      go true None eq few =
          let no_ref = ap (λ x. length {A = Ref} (option_map_or (λ k. (e.0, (k, contents [] e.1)) ∷ []) x [])) eq in
          let no_cell = ap (λ x. length (cond (is_some x) (e ∷ passed) passed)) eq in
          omega (arith, few, length-append (ref_at number_of e) (flat_map (ref_at number_of) rest), no_ref, no_cell)

  pub refs_few : (limit : ℕ) → SharersAgree number_of st → ((s p n : ℕ) (c : PageCell) → cell_at st s p ≡ Some c → number_of c ≡ Some n → n < limit) → (first n : ℕ) (refs : List (ℕ × CountedPage)) → ArePartsOf part space rows first n refs → length refs ≤ limit
  refs_few limit shared low first n refs are =
      omega (
        arith,
        parts_few first n refs are,
        listed_few first n (fin.entries (space_at st space)),
        few_numbered_in number_of limit first n (λ c. is_some (number_of c)) st space shared low (λ c h. h),
        length-map (filter (λ e. within first n e.0 && is_some (number_of e.1)) (fin.entries (space_at st space))) (λ (e : ℕ × PageCell). e.0),
      )

pub rows_have_few : RowsHaveFew
rows_have_few st rows is frames slots shown = record {
  frames = λ space first n refs are. omega (arith, refs_few frame_of frame_part frames_there st is rows shown space st.limits.frames is.shared_frames is.frames first n refs are, frames);
  slots = λ space first n refs are. omega (arith, refs_few slot_of slot_part slots_there st is rows shown space st.limits.swap is.shared_slots is.slots first n refs are, slots);
}
