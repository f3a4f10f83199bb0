-- Pages that move: the marks that go to the new place one run after another, and what is held over them.
--     movable      marks of cells that can move
--     marks_more      so many pages more stand at the new place
--     none_moved, part_moved, all_moved, added_moved      none yet;  one run more;  all old ones;  and the added ones
--     moved_cells      the cells after marks and held pages have moved;  with .._have_marks
--     kept_held      what is held once the new place is let go of again
use Rattle.std.proofs.Common.{◌≡◌, ℕ, ◌+◌, ◌-◌, ◌^◌, ◌<◌, ◌≤◌, Bool, true, false, cond, List, [], ◌∷◌, ◌++◌, refl, sym, ap, subst, ◌∙◌, arith}
use mathlib.Core.Bool.{true≢false}
use mathlib.Core.Logic.{inl, inr}
use Rattle.std.specs.Prelude.{Option, Some, None, IsSome, is_some}
use Rattle.std.specs.Option.{option_map}
use Rattle.std.specs.FinMap.{get}
use Rattle.std.proofs.lemmas.Bool.{cases_lt, lt-ltb, le-ltb, false_from_ne_true}
use Rattle.corten_base.specs.declared.calls.Backing.{Backing}
use Rattle.corten_base.specs.declared.calls.Backing.TheVariants as backing
use Rattle.table_place.specs.Range.{within}
use Rattle.table_place.proofs.Tables.{in_range, to_range}
use Rattle.page_map.specs.declared.cell.Cell.{Cell}
use Rattle.page_map.specs.Cell.{backed, backing_of, perm_of}
use Rattle.page_map.specs.Cell as cell
use Rattle.page_map.specs.Change.{change}
use Rattle.page_map.specs.Remap.{cell_for}
use Rattle.page_map.specs.State.{AddressSpace}
use Rattle.page_map.proofs.Range.{get-change}
use Rattle.page_runs.specs.declared.mark.Mark.{Mark}
use Rattle.page_runs.specs.declared.runs.Run.{Run}
use Rattle.page_runs.specs.declared.change.Change.{Change}
use Rattle.page_runs.specs.declared.change.Effect.TheVariants.{Map, Unmap}
use Rattle.page_runs.specs.Mark.{backing_after, goes_on, index_of}
use Rattle.page_runs.specs.Runs.{HasNone, IsPart}
use Rattle.page_runs.specs.Spans.{Marks, mapped}
use Rattle.page_runs.specs.Changes.{IsChange, after_change, after_changes}
use Rattle.page_runs.proofs.Parts.{goes_on-zero}
use Rattle.page_runs.proofs.Split.{goes_on-goes_on}
use Rattle.space_cells.specs.declared.held.HeldPage.{HeldPage}
use Rattle.space_cells.specs.declared.moving.Relocation.{Relocation}
use Rattle.space_cells.specs.Held.{HeldPages, held_at, Clears}
use Rattle.space_cells.specs.Cells.{HaveMarks, cell_of, cells_of}
use Rattle.space_cells.specs.Moving.{ArePlaced, CanMove, HaveMoved, IsMovable, mark_for, moved, resize_of}
use Rattle.space_cells.proofs.Seen.{backing_of_cell, cells_are, get_cells, none_unmarked, over, perm_of_cell, same_some}
use Rattle.space_cells.proofs.Changing.{backed_on}

pub some_none : {A : Type 0} {o : Option A} → IsSome o → o ≡ None → ⊥
some_none h e = true≢false (sym h ∙ ap is_some e)

same_index : (what : Backing) → cell.index_of what ≡ index_of what
same_index backing.Zero = refl
same_index (backing.File file index) = refl

index_after : (what : Backing) (i : ℕ) → index_of (backing_after what i) ≤ index_of what + i
index_after backing.Zero i = omega arith
index_after (backing.File file index) i = omega arith

-- marks of cells that can move
pub movable : (marks : Marks) (pages : HeldPages) (r : Relocation) → CanMove (cells_of marks pages) r → IsMovable marks r
movable marks pages r can = record {
  some = can.some;
  grows = can.grows;
  pages = can.pages;
  places = can.places;
  there = λ q w. sym (same_some marks pages q) ∙ can.there q w;
  free = λ q w. unmarked q (get marks q) (sym (get_cells marks pages q) ∙ can.free q w);
  indexes = λ q m w e.
      let h = held_at pages q in
      let low = can.indexes q (cell_of m h) w (get_cells marks pages q ∙ ap (over h) e) in
      let same : cell.index_of (backing_of (cell_of m h)) ≡ index_of m.backing = ap cell.index_of (backing_of_cell m h) ∙ same_index m.backing in
      omega (arith, low, same);
}
  where
    unmarked : (q : ℕ) (o : Option Mark) → over (held_at pages q) o ≡ None → o ≡ None
    unmarked q None e = refl
    unmarked q (Some m) e = absurd (none e)
      where
        none : {c : Cell} → ◌≡◌ {A = Option Cell} (Some c) None → ⊥
        none h = cc

-- one change more
pub after_more : (cs : List Change) (m : Marks) (c : Change) → after_changes m (cs ++ c ∷ []) ≡ after_change (after_changes m cs) c
after_more [] m c = refl
after_more (d ∷ ds) m c = after_more ds (after_change m d) c

module _ (m : Marks) (r : Relocation) (can : IsMovable m r) where
  -- the old place and the new one have no page in common
  pub apart : (q : ℕ) → within r.first r.old q ≡ true → within r.to r.new q ≡ false
  apart q w = false_from_ne_true _ (λ v. some_none (can.there q w) (can.free q v))

  pub apart_old : (q : ℕ) → within r.first r.old q ≡ true → within r.to r.old q ≡ false
  apart_old q w = false_from_ne_true _ (λ v. true≢false (sym (to_range r.to r.new q (in_range r.to r.old q v).0 (omega (arith, (in_range r.to r.old q v).1, can.grows))) ∙ apart q w))

  module _ (new : Marks) (d count : ℕ) (mark : Mark) (so_far : HaveMoved r d m new) (high : d + count ≤ r.new) (goes : (j : ℕ) → j < count → Some (goes_on mark j) ≡ mark_for m r (d + j)) where
    seen : (q : ℕ) → get (mapped new (r.to + d) count mark) q ≡ cond (within (r.to + d) count q) (Some (goes_on mark (q - (r.to + d)))) (get new q)
    seen q = get-change new (r.to + d) count (λ page _. Some (goes_on mark (page - (r.to + d)))) q

    stays : (q : ℕ) → within (r.to + d) count q ≡ false → get (mapped new (r.to + d) count mark) q ≡ get new q
    stays q w = seen q ∙ ap (λ b. cond b (Some (goes_on mark (q - (r.to + d)))) (get new q)) w

    -- so many pages more stand at the new place
    pub marks_more : HaveMoved r (d + count) m (mapped new (r.to + d) count mark)
    marks_more = record {
      left = λ q w. stays q (false_from_ne_true _ (λ v. true≢false (sym (to_range r.to r.new q (omega (arith, (in_range (r.to + d) count q v).0)) (omega (arith, high, (in_range (r.to + d) count q v).1))) ∙ apart q w))) ∙ so_far.left q w;
      there = λ i low. elim (cases_lt i d) [
        | inl before ↦ stays (r.to + i) (false_from_ne_true _ (λ v. absurd (omega (arith, before, (in_range (r.to + d) count (r.to + i) v).0)))) ∙ so_far.there i before
        | inr after ↦
            let place : r.to + i - (r.to + d) ≡ i - d = omega arith in
            let back : d + (i - d) ≡ i = omega (arith, after) in
            seen (r.to + i)
            ∙ ap (λ b. cond b (Some (goes_on mark (r.to + i - (r.to + d)))) (get new (r.to + i))) (to_range (r.to + d) count (r.to + i) (omega (arith, after)) (omega (arith, low)))
            ∙ ap (λ k. Some (goes_on mark k)) place ∙ goes (i - d) (omega (arith, low, after)) ∙ ap (mark_for m r) back
      ];
      others = λ q w v.
          stays q (false_from_ne_true _ (λ u. true≢false (sym (to_range r.to (d + count) q (omega (arith, (in_range (r.to + d) count q u).0)) (omega (arith, (in_range (r.to + d) count q u).1))) ∙ v)))
          ∙ so_far.others q w (false_from_ne_true _ (λ u. true≢false (sym (to_range r.to (d + count) q (in_range r.to d q u).0 (omega (arith, (in_range r.to d q u).1))) ∙ v)));
    }

  -- the old pages lose their marks
  pub none_moved : HaveMoved r 0 m (after_changes m (record { first = r.first; count = r.old; effect = Unmap } ∷ []))
  none_moved = record {
    left = λ q w. gone q ∙ ap (λ b. cond b None (get m q)) w;
    there = λ i low. absurd (omega (arith, low));
    others = λ q w v. gone q ∙ ap (λ b. cond b None (get m q)) w;
  }
    where
      gone : (q : ℕ) → get (after_changes m (record { first = r.first; count = r.old; effect = Unmap } ∷ [])) q ≡ cond (within r.first r.old q) None (get m q)
      gone q = get-change m r.first r.old (λ _ _. None) q

  -- a page of the old place, seen at the new one
  for_old : (i : ℕ) → i < r.old → mark_for m r i ≡ get m (r.first + i)
  for_old i low = ap (λ b. cond b (get m (r.first + i)) (option_map (λ last. goes_on last (i + 1 - r.old)) (get m (r.first + r.old - 1)))) (lt-ltb i r.old low)

  for_new : (i : ℕ) → r.old ≤ i → mark_for m r i ≡ option_map (λ last. goes_on last (i + 1 - r.old)) (get m (r.first + r.old - 1))
  for_new i high = ap (λ b. cond b (get m (r.first + i)) (option_map (λ last. goes_on last (i + 1 - r.old)) (get m (r.first + r.old - 1)))) (le-ltb i r.old high)

  module _ (cs : List Change) (next : ℕ) (low : r.first ≤ next) (so_far : HaveMoved r (next - r.first) m (after_changes m cs)) where
    -- no page of the old place is without a mark
    pub run_starts : (run : Run) → IsPart m next (r.first + r.old) run → run.first ≡ next
    run_starts run part = elim (cases_lt next run.first) [
      | inl less ↦ absurd (some_none (can.there next (to_range r.first r.old next low (omega (arith, less, part.some, part.within)))) (part.none_before next (omega arith) less))
      | inr at ↦ omega (arith, at, part.from)
    ]

    pub part_moved : (run : Run) (c : Change) → IsPart m next (r.first + r.old) run → c ≡ record { first = r.to + (run.first - r.first); count = run.count; effect = Map run.mark } →
        HaveMoved r (run.first + run.count - r.first) m (after_changes m (cs ++ c ∷ []))
    part_moved run c part is =
        let at = run_starts run part in
        let d = run.first - r.first in
        let same : next - r.first ≡ d = omega (arith, at) in
        let all : d + run.count ≡ run.first + run.count - r.first = omega (arith, at, low) in
        let fits : d + run.count ≤ r.old = omega (arith, at, low, part.within) in
        subst (λ n. HaveMoved r n m (after_changes m (cs ++ c ∷ []))) all
        (subst (λ new. HaveMoved r (d + run.count) m new) (sym (after_more cs m c ∙ ap (after_change (after_changes m cs)) is))
        (marks_more (after_changes m cs) d run.count run.mark (subst (λ n. HaveMoved r n m (after_changes m cs)) same so_far) (omega (arith, fits, can.grows)) (λ j below.
        let here : run.first + j ≡ r.first + (d + j) = omega (arith, at, low) in
        sym (part.there j below) ∙ ap (get m) here ∙ sym (for_old (d + j) (omega (arith, fits, below))))))

    pub all_moved : next ≤ r.first + r.old → HasNone m next (r.first + r.old) → HaveMoved r r.old m (after_changes m cs)
    all_moved high none = elim (cases_lt next (r.first + r.old)) [
      | inl less ↦ absurd (some_none (can.there next (to_range r.first r.old next low less)) (none next (omega arith) less))
      | inr at ↦ let all : next - r.first ≡ r.old = omega (arith, at, high) in subst (λ n. HaveMoved r n m (after_changes m cs)) all so_far
    ]

  -- the change by which a run comes to the new place
  pub part_fits : (next : ℕ) → r.first ≤ next → (run : Run) → IsPart m next (r.first + r.old) run → IsChange (record { first = r.to + (run.first - r.first); count = run.count; effect = Map run.mark })
  part_fits next low run part =
      let here : get m run.first ≡ Some run.mark = ap (get m) (omega arith) ∙ part.there 0 part.some ∙ ap Some (goes_on-zero run.mark) in
      let index = can.indexes run.first run.mark (to_range r.first r.old run.first (omega (arith, low, part.from)) (omega (arith, part.some, part.within))) here in
      record {
        pages = omega (arith, can.places, can.grows, part.within, part.from, low);
        indexes = omega (arith, index, can.pages, part.within);
      }

  module _ (last : Mark) (here : get m (r.first + r.old - 1) ≡ Some last) where
    pub last_low : index_of last.backing ≤ 2 ^ 62
    last_low = can.indexes (r.first + r.old - 1) last (to_range r.first r.old (r.first + r.old - 1) (omega (arith, can.some)) (omega (arith, can.some))) here

    abbrev pub added_change : Change
    added_change = record { first = r.to + r.old; count = r.new - r.old; effect = Map (goes_on last 1) }

    pub added_fits : IsChange added_change
    added_fits = record {
      pages = omega (arith, can.places, can.grows);
      indexes = omega (arith, last_low, index_after last.backing 1, can.places);
    }

    pub added_moved : (cs : List Change) → HaveMoved r r.old m (after_changes m cs) → HaveMoved r r.new m (after_changes m (cs ++ added_change ∷ []))
    added_moved cs so_far =
        let all : r.old + (r.new - r.old) ≡ r.new = omega (arith, can.grows) in
        subst (λ n. HaveMoved r n m (after_changes m (cs ++ added_change ∷ []))) all
        (subst (λ new. HaveMoved r (r.old + (r.new - r.old)) m new) (sym (after_more cs m added_change))
        (marks_more (after_changes m cs) r.old (r.new - r.old) (goes_on last 1) so_far (omega (arith, can.grows)) (λ j below.
        let place : 1 + j ≡ r.old + j + 1 - r.old = omega arith in
        ap Some (goes_on-goes_on last 1 j ∙ ap (goes_on last) place) ∙ sym (for_new (r.old + j) (omega arith) ∙ ap (option_map (λ last. goes_on last (r.old + j + 1 - r.old))) here))))

-- a cell that goes on from another is that of the mark that goes on
pub onward_cell : (k : ℕ) (h : Option HeldPage) (o : Option Mark) → over None (option_map (λ last. goes_on last k) o) ≡ option_map (λ last. cell.goes_on last k) (over h o)
onward_cell k h None = refl
onward_cell k h (Some mark) = ap Some (backed_on mark.backing mark.perm k ∙ (λ i. backed (sym (backing_of_cell mark h) i) (sym (perm_of_cell mark h) i) k))

module _ (marks marks' : Marks) (pages placed pages' : HeldPages) (r : Relocation) (have : HaveMarks marks pages) (can : IsMovable marks r) where
  free_held : (q : ℕ) → within r.to r.new q ≡ true → held_at pages q ≡ None
  free_held q w = none_unmarked (get marks q) (held_at pages q) (have q) (can.free q w)

  pub free_old : (q : ℕ) → within r.to r.old q ≡ true → held_at pages q ≡ None
  free_old q w = free_held q (to_range r.to r.new q (in_range r.to r.old q w).0 (omega (arith, (in_range r.to r.old q w).1, can.grows)))

  module _ (others : (q : ℕ) → within r.to r.old q ≡ false → held_at placed q ≡ held_at pages q) where
    -- without what is held at the new place, all is as before
    pub kept_held : Clears r.to (r.to + r.old) placed pages' → (q : ℕ) → held_at pages' q ≡ held_at pages q
    kept_held clears q = elim (cases_lt q r.to) [
      | inl before ↦ clears.below q before ∙ others q (false_from_ne_true _ (λ w. absurd (omega (arith, before, (in_range r.to r.old q w).0))))
      | inr from ↦ elim (cases_lt q (r.to + r.old)) [
        | inl to ↦ clears.inside q from to ∙ sym (free_old q (to_range r.to r.old q from to))
        | inr past ↦ clears.above q past ∙ others q (false_from_ne_true _ (λ w. absurd (omega (arith, past, (in_range r.to r.old q w).1))))
      ]
    ]

    module _ (is_placed : ArePlaced r.first r.old r.to pages placed) (clears : Clears r.first (r.first + r.old) placed pages') (moves : HaveMoved r r.new marks marks') where
      outside_old : (q : ℕ) → within r.first r.old q ≡ false → held_at pages' q ≡ held_at placed q
      outside_old q w = elim (cases_lt q r.first) [
        | inl before ↦ clears.below q before
        | inr from ↦ elim (cases_lt q (r.first + r.old)) [
          | inl to ↦ absurd (true≢false (sym (to_range r.first r.old q from to) ∙ w))
          | inr past ↦ clears.above q past
        ]
      ]

      not_old : (q : ℕ) → within r.to r.new q ≡ true → within r.first r.old q ≡ false
      not_old q w = false_from_ne_true _ (λ v. true≢false (sym w ∙ apart marks r can q v))

      -- what is held at the new place, and elsewhere
      held_old : (i : ℕ) → i < r.old → held_at pages' (r.to + i) ≡ held_at pages (r.first + i)
      held_old i low = outside_old (r.to + i) (not_old (r.to + i) (to_range r.to r.new (r.to + i) (omega arith) (omega (arith, low, can.grows)))) ∙ is_placed i low

      held_new : (i : ℕ) → r.old ≤ i → i < r.new → held_at pages' (r.to + i) ≡ None
      held_new i high low =
          let w = to_range r.to r.new (r.to + i) (omega arith) (omega (arith, low)) in
          outside_old (r.to + i) (not_old (r.to + i) w) ∙ others (r.to + i) (false_from_ne_true _ (λ v. absurd (omega (arith, high, (in_range r.to r.old (r.to + i) v).1)))) ∙ free_held (r.to + i) w

      held_else : (q : ℕ) → within r.first r.old q ≡ false → within r.to r.new q ≡ false → held_at pages' q ≡ held_at pages q
      held_else q w v =
          outside_old q w ∙ others q (false_from_ne_true _ (λ u. true≢false (sym (to_range r.to r.new q (in_range r.to r.old q u).0 (omega (arith, (in_range r.to r.old q u).1, can.grows))) ∙ v)))

      abbrev cells : AddressSpace
      cells = cells_of marks pages

      -- page i of the new place
      placed_cell : (i : ℕ) → i < r.new → cell_for cells (resize_of r) i ≡ over (held_at pages' (r.to + i)) (get marks' (r.to + i))
      placed_cell i low = elim (cases_lt i r.old) [
        | inl old ↦
            ap (λ b. cond b (get cells (r.first + i)) (option_map (λ last. cell.goes_on last (i + 1 - r.old)) (get cells (r.first + r.old - 1)))) (lt-ltb i r.old old)
            ∙ get_cells marks pages (r.first + i)
            ∙ sym (λ k. over (held_old i old k) ((moves.there i low ∙ for_old marks r can i old) k))
        | inr new ↦
            ap (λ b. cond b (get cells (r.first + i)) (option_map (λ last. cell.goes_on last (i + 1 - r.old)) (get cells (r.first + r.old - 1)))) (le-ltb i r.old new)
            ∙ ap (option_map (λ last. cell.goes_on last (i + 1 - r.old))) (get_cells marks pages (r.first + r.old - 1))
            ∙ sym (onward_cell (i + 1 - r.old) (held_at pages (r.first + r.old - 1)) (get marks (r.first + r.old - 1)))
            ∙ sym (λ k. over (held_new i new low k) ((moves.there i low ∙ for_new marks r can i new) k))
      ]

      pub moved_cells : cells_of marks' pages' ≡ moved r (cells_of marks pages)
      unfolding moved
      moved_cells = cells_are marks' pages' (moved r (cells_of marks pages)) (λ q.
          get-change (change cells r.first r.old (λ _ _. None)) r.to r.new (λ page _. cell_for cells (resize_of r) (page - r.to)) q
          ∙ ap (cond (within r.to r.new q) (cell_for cells (resize_of r) (q - r.to))) (get-change cells r.first r.old (λ _ _. None) q)
          ∙ go q (within r.to r.new q) refl (within r.first r.old q) refl)
        where
          go : (q : ℕ) (b : Bool) → within r.to r.new q ≡ b → (d : Bool) → within r.first r.old q ≡ d →
              cond b (cell_for cells (resize_of r) (q - r.to)) (cond d None (get cells q)) ≡ over (held_at pages' q) (get marks' q)
          go q true w d v =
              let at = in_range r.to r.new q w in
              let back : r.to + (q - r.to) ≡ q = omega (arith, at.0) in
              placed_cell (q - r.to) (omega (arith, at.0, at.1)) ∙ ap (λ k. over (held_at pages' k) (get marks' k)) back
          go q false w true v = sym (ap (over (held_at pages' q)) (moves.left q v))
          go q false w false v = get_cells marks pages q ∙ sym (λ k. over (held_else q v w k) (moves.others q v w k))

      pub moved_have_marks : HaveMarks marks' pages'
      moved_have_marks q some = go (within r.to r.new q) refl (within r.first r.old q) refl
        where
          go : (b : Bool) → within r.to r.new q ≡ b → (d : Bool) → within r.first r.old q ≡ d → IsSome (get marks' q)
          go true w d v =
              let at = in_range r.to r.new q w in
              let i = q - r.to in
              let back : r.to + i ≡ q = omega (arith, at.0) in
              elim (cases_lt i r.old) [
                | inl old ↦
                    ap is_some (ap (get marks') (sym back) ∙ moves.there i (omega (arith, at.0, at.1)) ∙ for_old marks r can i old)
                    ∙ have (r.first + i) (ap is_some (sym (held_old i old) ∙ ap (held_at pages') back) ∙ some)
                | inr new ↦ absurd (some_none some (ap (held_at pages') (sym back) ∙ held_new i new (omega (arith, at.0, at.1))))
              ]
          go false w true v = absurd (some_none some (clears.inside q (in_range r.first r.old q v).0 (in_range r.first r.old q v).1))
          go false w false v = ap is_some (moves.others q v w) ∙ have q (ap is_some (sym (held_else q v w)) ∙ some)
