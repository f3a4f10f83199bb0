-- What `remap` lacks: the tables that the pages cut which it leaves or gets, and of a range that moves those of its pieces.
use Rattle.std.proofs.Common.{◌≡◌, ℕ, ◌+◌, ◌-◌, ◌<◌, ◌≤◌, Bool, true, false, cond, not, ◌&&◌, inl, inr, List, [], ◌++◌, refl, sym, ap, ◌∙◌, arith}
use mathlib.Core.Bool.{true≢false}
use Rattle.std.specs.Prelude.{Option, Some, None, nat_le}
use Rattle.std.specs.Option.{option_map, unwrap_or}
use Rattle.std.specs.List.{flat_map}
use Rattle.std.specs.FinMap as fin
use Rattle.std.proofs.lemmas.Bool.{and_parts, leb-true, lt-ltb, le-ltb, false_from_ne_true, cases_lt}
use Rattle.table_place.specs.Range.{within}
use Rattle.table_place.specs.Place.{cut_by}
use Rattle.table_place.proofs.Tables.{in_range, to_range}
use Rattle.page_map.specs.declared.cell.Cell.{Cell}
use Rattle.page_map.specs.Cell.{AddressSpace, perm_of, backing_of, goes_on}
use Rattle.page_map.specs.Alike.{unlike_tables}
use Rattle.page_map.specs.Cutting.{Changes, IsMove, ArePieces}
use Rattle.page_map.specs.Tables.{missing}
use Rattle.page_map.specs.Mapping.{gap}
use Rattle.page_map.specs.Remap.{Resize, grows, has_room, moves, last_cell, cell_for, remapped}
use Rattle.page_map.specs.State.{State, IsConsistent, levels, space_at}
use Rattle.page_map.proofs.Steps.{not_none}
use Rattle.page_map.proofs.Remapped.{remapped_at}
use Rattle.page_map.proofs.Alike.{none_alike, backed_alike}
use Rattle.page_map.proofs.NeedOf.{changed_lack, unchanged_lack}
use Rattle.page_map.proofs.NeedOfMoves.{move_lack}

out_of : (first n q : ℕ) → (first ≤ q → q < first + n → ⊥) → within first n q ≡ false
out_of first n q h = false_from_ne_true _ (λ w. h (in_range first n q w).0 (in_range first n q w).1)

module _ (L thread : ℕ) (r : Resize) (cells : AddressSpace) where
  -- ---- whether it moves

  pub shrunk_stays : r.new ≤ r.old → moves L cells r ≡ false
  shrunk_stays h = ap (λ b. b && not (has_room L cells r)) (le-ltb r.old r.new h)

  pub roomy_stays : has_room L cells r ≡ true → moves L cells r ≡ false
  roomy_stays h = ap (λ b. grows r && not b) h ∙ none (grows r)
    where
      none : (b : Bool) → (b && false) ≡ false
      none true = refl
      none false = refl

  abbrev new : AddressSpace
  new = remapped L thread r cells

  -- the cells where it starts at `to`
  abbrev at_place : ℕ → ℕ → Option Cell
  at_place to q = cond (within to r.new q) (cell_for cells r (q - to)) (cond (within r.first r.old q) None (fin.get cells q))

  stays_at : moves L cells r ≡ false → (q : ℕ) → fin.get new q ≡ at_place r.first q
  stays_at e q = remapped_at L thread r cells q ∙ ap (λ b. at_place (cond b (unwrap_or (gap thread cells r.new) 0) r.first) q) e

  moves_at : (to : ℕ) → moves L cells r ≡ true → gap thread cells r.new ≡ Some to → (q : ℕ) → fin.get new q ≡ at_place to q
  moves_at to e found q =
      remapped_at L thread r cells q ∙ ap (λ b. at_place (cond b (unwrap_or (gap thread cells r.new) 0) r.first) q) e ∙ ap (λ o. at_place (unwrap_or o 0) q) found

  within_new : (to q : ℕ) → within to r.new q ≡ true → at_place to q ≡ cell_for cells r (q - to)
  within_new to q w = ap (λ b. cond b (cell_for cells r (q - to)) (cond (within r.first r.old q) None (fin.get cells q))) w

  within_old : (to q : ℕ) → within to r.new q ≡ false → within r.first r.old q ≡ true → at_place to q ≡ None
  within_old to q w v = ap (λ b. cond b (cell_for cells r (q - to)) (cond (within r.first r.old q) None (fin.get cells q))) w ∙ ap (λ b. cond b None (fin.get cells q)) v

  within_none : (to q : ℕ) → within to r.new q ≡ false → within r.first r.old q ≡ false → at_place to q ≡ fin.get cells q
  within_none to q w v = ap (λ b. cond b (cell_for cells r (q - to)) (cond (within r.first r.old q) None (fin.get cells q))) w ∙ ap (λ b. cond b None (fin.get cells q)) v

  kept_cell : (i : ℕ) → i < r.old → cell_for cells r i ≡ fin.get cells (r.first + i)
  kept_cell i h = ap (λ b. cond b (fin.get cells (r.first + i)) (option_map (λ last. goes_on last (i + 1 - r.old)) (last_cell cells r))) (lt-ltb i r.old h)

  added_cell : (i : ℕ) → r.old ≤ i → cell_for cells r i ≡ option_map (λ last. goes_on last (i + 1 - r.old)) (last_cell cells r)
  added_cell i h = ap (λ b. cond b (fin.get cells (r.first + i)) (option_map (λ last. goes_on last (i + 1 - r.old)) (last_cell cells r))) (le-ltb i r.old h)

  back : (a q : ℕ) → a ≤ q → a + (q - a) ≡ q
  back a q h = omega (arith, h)

  kept_here : (q : ℕ) → r.first ≤ q → q < r.first + r.old → cell_for cells r (q - r.first) ≡ fin.get cells q
  kept_here q a b = kept_cell (q - r.first) (omega (arith, a, b)) ∙ ap (fin.get cells) (back r.first q a)

  -- what it leaves behind its new end is Invalid
  pub left_behind : moves L cells r ≡ false → (q : ℕ) → within (r.first + r.new) (r.old - r.new) q ≡ true → fin.get new q ≡ None
  left_behind stay q w =
      let at = in_range (r.first + r.new) (r.old - r.new) q w in
      stays_at stay q ∙ within_old r.first q (out_of r.first r.new q (λ _ c. omega (arith, at.0, c))) (to_range r.first r.old q (omega (arith, at.0)) (omega (arith, at.0, at.1)))

  module _ (some : 1 ≤ r.old) (mapped : (q : ℕ) → within r.first r.old q ≡ true → fin.get cells q ≡ None → ⊥) where
    there : (q : ℕ) → r.first ≤ q → q < r.first + r.old → fin.get cells q ≡ None → ⊥
    there q a b = mapped q (to_range r.first r.old q a b)

    a_last : (o : Option Cell) → (o ≡ None → ⊥) → (c : Cell) × (o ≡ Some c)
    a_last None h = absurd (h refl)
    a_last (Some c) h = (c, refl)

    last : (c : Cell) × (last_cell cells r ≡ Some c)
    last = a_last (last_cell cells r) (there (r.first + r.old - 1) (omega (arith, some)) (omega (arith, some)))

    -- ---- a range that gets shorter

    pub shrinks : r.new < r.old → Changes cells new (r.first + r.new) (r.old - r.new)
    shrinks less = record {
      some = omega (arith, less);
      out = λ q w. stays_at (shrunk_stays (omega (arith, less))) q ∙ by_new q w (within r.first r.new q) refl;
      alike = λ low n h _. none_alike new low n (λ q a b.
          let ends = and_parts (nat_le (r.first + r.new) low) (nat_le (low + n) (r.first + r.new + (r.old - r.new))) h in
          gone q (omega (arith, leb-true (r.first + r.new) low ends.0, a)) (omega (arith, leb-true (low + n) (r.first + r.new + (r.old - r.new)) ends.1, b, less)));
      starts = λ same. there (r.first + r.new) (omega arith) (omega (arith, less)) (sym same ∙ gone (r.first + r.new) (omega arith) (omega (arith, less)));
      stops = λ same. there (r.first + r.new + (r.old - r.new) - 1) (omega (arith, less)) (omega (arith, less)) (sym same ∙ gone (r.first + r.new + (r.old - r.new) - 1) (omega (arith, less)) (omega (arith, less)));
    }
      where
        gone : (q : ℕ) → r.first + r.new ≤ q → q < r.first + r.old → fin.get new q ≡ None
        gone q a b = left_behind (shrunk_stays (omega (arith, less))) q (to_range (r.first + r.new) (r.old - r.new) q a (omega (arith, b, less)))

        by_old : (q : ℕ) → within (r.first + r.new) (r.old - r.new) q ≡ false → within r.first r.new q ≡ false → (b : Bool) → within r.first r.old q ≡ b → at_place r.first q ≡ fin.get cells q
        by_old q w v false e = within_none r.first q v e
        by_old q w v true e =
            let at = in_range r.first r.old q e in
            absurd (true≢false (sym (to_range r.first r.new q at.0 (below at.0 at.1)) ∙ v))
          where
            below : r.first ≤ q → q < r.first + r.old → q < r.first + r.new
            below a b = elim (cases_lt q (r.first + r.new)) [
              | inl l ↦ l
              | inr m ↦ absurd (true≢false (sym (to_range (r.first + r.new) (r.old - r.new) q m (omega (arith, b, less))) ∙ w))
            ]

        by_new : (q : ℕ) → within (r.first + r.new) (r.old - r.new) q ≡ false → (b : Bool) → within r.first r.new q ≡ b → at_place r.first q ≡ fin.get cells q
        by_new q w true e = let at = in_range r.first r.new q e in within_new r.first q e ∙ kept_here q at.0 (omega (arith, at.1, less))
        by_new q w false e = by_old q w e (within r.first r.old q) refl

    -- ---- a range that keeps its length

    pub same_length : r.new ≡ r.old → (q : ℕ) → fin.get new q ≡ fin.get cells q
    same_length e q = stays_at (shrunk_stays (omega (arith, e))) q ∙ by_new (within r.first r.new q) refl
      where
        by_new : (b : Bool) → within r.first r.new q ≡ b → at_place r.first q ≡ fin.get cells q
        by_new true w = let at = in_range r.first r.new q w in within_new r.first q w ∙ kept_here q at.0 (omega (arith, at.1, e))
        by_new false w = within_none r.first q w (ap (λ n. within r.first n q) (sym e) ∙ w)

    -- ---- a range that grows where it stands

    pub grows_here : r.old < r.new → moves L cells r ≡ false → ((q : ℕ) → within (r.first + r.old) (r.new - r.old) q ≡ true → fin.get cells q ≡ None) → Changes cells new (r.first + r.old) (r.new - r.old)
    grows_here more stay free = record {
      some = omega (arith, more);
      out = λ q w. stays_at stay q ∙ by_new q w (within r.first r.new q) refl;
      alike = λ low n h _.
          let ends = and_parts (nat_le (r.first + r.old) low) (nat_le (low + n) (r.first + r.old + (r.new - r.old))) h in
          let lowest = leb-true (r.first + r.old) low ends.0 in
          let highest = leb-true (low + n) (r.first + r.old + (r.new - r.old)) ends.1 in
          backed_alike new low n (backing_of last.0) (perm_of last.0) (r.first + r.old - 1) (omega (arith, lowest)) (λ q a b.
          came q (omega (arith, lowest, a)) (omega (arith, highest, b, more)) ∙ ap (λ i. Some (goes_on last.0 i)) (index q (omega (arith, lowest, a))));
      starts = λ same. not_none (sym (came (r.first + r.old) (omega arith) (omega (arith, more))) ∙ same ∙ free (r.first + r.old) (to_range (r.first + r.old) (r.new - r.old) (r.first + r.old) (omega arith) (omega (arith, more))));
      stops = λ same. not_none (sym (came (r.first + r.old + (r.new - r.old) - 1) (omega (arith, more)) (omega (arith, more))) ∙ same
          ∙ free (r.first + r.old + (r.new - r.old) - 1) (to_range (r.first + r.old) (r.new - r.old) (r.first + r.old + (r.new - r.old) - 1) (omega (arith, more)) (omega (arith, more))));
    }
      where
        index : (q : ℕ) → r.first + r.old ≤ q → q - r.first + 1 - r.old ≡ q - (r.first + r.old - 1)
        index q a = omega (arith, a, some)

        came : (q : ℕ) → r.first + r.old ≤ q → q < r.first + r.new → fin.get new q ≡ Some (goes_on last.0 (q - r.first + 1 - r.old))
        came q a b =
            stays_at stay q ∙ within_new r.first q (to_range r.first r.new q (omega (arith, a)) b) ∙ added_cell (q - r.first) (omega (arith, a))
            ∙ ap (option_map (λ last. goes_on last (q - r.first + 1 - r.old))) last.1

        by_new : (q : ℕ) → within (r.first + r.old) (r.new - r.old) q ≡ false → (b : Bool) → within r.first r.new q ≡ b → at_place r.first q ≡ fin.get cells q
        by_new q w false e = within_none r.first q e (out_of r.first r.old q (λ a b. true≢false (sym (to_range r.first r.new q a (omega (arith, b, more))) ∙ e)))
        by_new q w true e = let at = in_range r.first r.new q e in within_new r.first q e ∙ kept_here q at.0 (below at.0 at.1)
          where
            below : r.first ≤ q → q < r.first + r.new → q < r.first + r.old
            below a b = elim (cases_lt q (r.first + r.old)) [
              | inl l ↦ l
              | inr m ↦ absurd (true≢false (sym (to_range (r.first + r.old) (r.new - r.old) q m (omega (arith, b, m))) ∙ w))
            ]

    -- ---- a range that moves

    pub moves_away : (to : ℕ) → moves L cells r ≡ true → gap thread cells r.new ≡ Some to → ((q : ℕ) → within to r.new q ≡ true → fin.get cells q ≡ None) → IsMove cells new r.first r.old to r.new
    moves_away to e found free = record {
      some = some;
      stood = mapped;
      left = λ q w. moves_at to e found q ∙ within_old to q (false_from_ne_true _ (λ v. mapped q w (free q v))) w;
      free = free;
      filled = λ q w none. filled q w (sym (moves_at to e found q ∙ within_new to q w) ∙ none);
      out = λ q v w. moves_at to e found q ∙ within_none to q w v;
    }
      where
        filled : (q : ℕ) → within to r.new q ≡ true → cell_for cells r (q - to) ≡ None → ⊥
        filled q w none = elim (cases_lt (q - to) r.old) [
          | inl l ↦ there (r.first + (q - to)) (omega arith) (omega (arith, l)) (sym (kept_cell (q - to) l) ∙ none)
          | inr m ↦ not_none (sym (added_cell (q - to) m ∙ ap (option_map (λ last. goes_on last (q - to + 1 - r.old))) last.1) ∙ none)
        ]

-- ---- the tables

module _ (st : State) (thread space : ℕ) (r : Resize) (ok : IsConsistent st) (some : 1 ≤ r.old) (mapped : (q : ℕ) → within r.first r.old q ≡ true → fin.get (space_at st space) q ≡ None → ⊥) where
  abbrev after : AddressSpace
  after = remapped (levels st) thread r (space_at st space)

  pub shrunk_lack : r.new < r.old → missing (unlike_tables (levels st) space after) st.tables ≡ missing (cut_by (levels st) space (r.first + r.new) (r.old - r.new)) st.tables
  shrunk_lack less = changed_lack st space ok after (r.first + r.new) (r.old - r.new) (shrinks (levels st) thread r (space_at st space) some mapped less)

  pub same_length_lack : r.new ≡ r.old → missing (unlike_tables (levels st) space after) st.tables ≡ missing [] st.tables
  same_length_lack e = unchanged_lack st space ok after (same_length (levels st) thread r (space_at st space) some mapped e)

  pub grown_lack : r.old < r.new → moves (levels st) (space_at st space) r ≡ false → ((q : ℕ) → within (r.first + r.old) (r.new - r.old) q ≡ true → fin.get (space_at st space) q ≡ None) →
      missing (unlike_tables (levels st) space after) st.tables ≡ missing (cut_by (levels st) space (r.first + r.old) (r.new - r.old)) st.tables
  grown_lack more stay free = changed_lack st space ok after (r.first + r.old) (r.new - r.old) (grows_here (levels st) thread r (space_at st space) some mapped more stay free)

  pub moved_lack : (to : ℕ) → moves (levels st) (space_at st space) r ≡ true → gap thread (space_at st space) r.new ≡ Some to → ((q : ℕ) → within to r.new q ≡ true → fin.get (space_at st space) q ≡ None) →
      {A : Type 0} (first_of count_of : A → ℕ) (ps : List A) → ArePieces first_of count_of after to (to + r.new) ps →
      missing (unlike_tables (levels st) space after) st.tables
      ≡ missing (cut_by (levels st) space r.first r.old ++ flat_map (λ p. cut_by (levels st) space (first_of p) (count_of p)) ps) st.tables
  moved_lack to e found free first_of count_of ps pieces =
      move_lack st space ok after r.first r.old to r.new (moves_away (levels st) thread r (space_at st space) some mapped to e found free) first_of count_of ps pieces
