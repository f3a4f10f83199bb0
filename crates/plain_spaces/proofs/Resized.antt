-- The cells after a range got another length, in the three ways in which it may.
--     shrunk_is, grown_is, moved_is      where it shrinks, grows where it is, and moves
--     has_room_is, last_is      whether there is room behind it;  and whether its last page would be too far in a file
--     backed_onward, onward_backing      pages that go on
--     few_index, few_after      the number of the file's page from which a page comes, and from which the next one does
--     mapped_behind      pages that go on from the last, as a mapping puts them
use Rattle.std.proofs.Common.{◌≡◌, ℕ, ◌+◌, ◌-◌, ◌*◌, ◌^◌, ◌<◌, ◌≤◌, Bool, true, false, cond, not, ◌&&◌, refl, sym, ap, ◌∙◌, arith}
use mathlib.Core.Bool.{true≢false}
use Rattle.std.specs.Prelude.{Option, Some, None, is_none, is_some, nat_le, nat_lt}
use Rattle.std.specs.Option.{option_map, option_map_or, unwrap_or}
use Rattle.std.specs.FinMap.{get}
use Rattle.std.proofs.lemmas.Bool.{and_from, ltb-true, ltb-false, le-leb, le-ltb, lt-ltb}
use Rattle.corten_base.specs.declared.calls.Backing.{Backing}
use Rattle.corten_base.specs.declared.calls.Backing.TheVariants as backing
use Rattle.corten_base.specs.declared.permissions.Perm.{Perm}
use Rattle.page_map.specs.declared.cell.Cell.{Cell}
use Rattle.page_map.specs.declared.cell.Cell.TheVariants.{File}
use Rattle.page_map.specs.Cell.{backed, backing_of, goes_on, index_of, perm_of}
use Rattle.page_map.specs.Change.{change, least}
use Rattle.page_map.specs.Mapping.{gap, is_free}
use Rattle.page_map.specs.Remap.{Resize, cell_for, grows, has_room, is_too_far, moves, remapped}
use Rattle.page_map.specs.State.{AddressSpace}
use Rattle.page_map.proofs.Least.{least_passes, unanswered}
use Rattle.page_map.proofs.Range.{change_none}
use Rattle.page_map.proofs.NeedOfRemap.{shrunk_stays, roomy_stays}
use Rattle.page_map.proofs.Steps.{not_none}
use Rattle.page_runs.specs.declared.mark.Mark.{Mark}
use Rattle.page_runs.specs.Mark as mark
use Rattle.page_runs.specs.Mark.{backing_after}
use Rattle.plain_counts.proofs.Free.{free_range, taken_range}
use Rattle.space_cells.specs.declared.held.HeldPage.{HeldPage}
use Rattle.space_cells.specs.Cells.{cell_of}
use Rattle.space_cells.specs.Moving.{moved}
use Rattle.space_cells.proofs.Seen.{backing_of_cell, perm_of_cell}
use Rattle.plain_spaces.specs.Resizing.{AreNear, grown}
use Rattle.plain_spaces.proofs.FirstPages.{change_alike}

module _ (levels thread : ℕ) (r : Resize) (cells : AddressSpace) where
  abbrev left : (b : Bool) → AddressSpace
  left b = change cells (cond b r.first (r.first + r.new)) (cond b r.old (r.old - r.new)) (λ page _. None)

  abbrev place : Bool → ℕ
  place b = cond b (unwrap_or (gap thread cells r.new) 0) r.first

  abbrev filled : (b : Bool) → AddressSpace
  filled b = change (left b) (cond b (place b) (r.first + r.old)) (cond b r.new (r.new - r.old)) (λ page _. cell_for cells r (page - place b))

  by_moves : (b : Bool) → moves levels cells r ≡ b → remapped levels thread r cells ≡ filled b
  unfolding remapped
  by_moves b e = ap filled e

  pub shrunk_is : grows r ≡ false → remapped levels thread r cells ≡ change cells (r.first + r.new) (r.old - r.new) (λ page _. None)
  shrunk_is h =
      let less : r.new ≤ r.old = ltb-false r.old r.new h in
      let none : r.new - r.old ≡ 0 = omega (arith, less) in
      by_moves false (shrunk_stays levels thread r cells less)
      ∙ ap (λ n. change (left false) (r.first + r.old) n (λ page _. cell_for cells r (page - r.first))) none
      ∙ change_none (left false) (r.first + r.old) (λ page _. cell_for cells r (page - r.first))

  pub grown_is : grows r ≡ true → has_room levels cells r ≡ true → remapped levels thread r cells ≡ grown r cells
  grown_is h room =
      let more : r.old < r.new = ltb-true r.old r.new h in
      let none : r.old - r.new ≡ 0 = omega (arith, more) in
      by_moves false (roomy_stays levels thread r cells room)
      ∙ ap (λ m. change m (r.first + r.old) (r.new - r.old) (λ page _. cell_for cells r (page - r.first)))
      (ap (λ n. change cells (r.first + r.new) n (λ page _. None)) none ∙ change_none cells (r.first + r.new) (λ page _. None))

  pub moved_is : (to : ℕ) → moves levels cells r ≡ true → gap thread cells r.new ≡ Some to → remapped levels thread r cells ≡ moved (record { first = r.first; old = r.old; to = to; new = r.new }) cells
  unfolding moved
  moved_is to h found = by_moves true h ∙ (λ i. change (left true) (unwrap_or (found i) 0) r.new (λ page _. cell_for cells r (page - unwrap_or (found i) 0)))

-- a mark that goes on one page stands for a mapping that begins a page before
backed_onward : (what : Backing) (perm : Perm) (k : ℕ) → backed (backing_after what 1) perm k ≡ backed what perm (1 + k)
backed_onward backing.Zero perm k = refl
backed_onward (backing.File file index) perm k = ap (File perm file) (grouped index)
  where
    grouped : (n : ℕ) → n + 1 + k ≡ n + (1 + k)
    grouped n = omega arith

-- the page of a file that a page so many further comes from
onward_backing : (what : Backing) (perm : Perm) (k : ℕ) → backing_of (backed what perm k) ≡ backing_after what k
onward_backing backing.Zero perm k = refl
onward_backing (backing.File file index) perm k = refl

same_index : (what : Backing) → index_of what ≡ mark.index_of what
same_index backing.Zero = refl
same_index (backing.File file index) = refl

later_index : (what : Backing) (k : ℕ) → mark.index_of (backing_after what k) ≤ mark.index_of what + k
later_index backing.Zero k = omega arith
later_index (backing.File file index) k = omega arith

-- the number of the file's page from which a page comes, and from which the next one does
module _ (cells : AddressSpace) (few : AreNear cells) (q : ℕ) (m : Mark) (held : Option HeldPage) (here : get cells q ≡ Some (cell_of m held)) where
  pub few_index : mark.index_of m.backing ≤ 2 ^ 62
  few_index = omega (arith, few q (cell_of m held) here, ap index_of (backing_of_cell m held), same_index m.backing)

  pub few_after : (next : Mark) → next ≡ mark.goes_on m 1 → mark.index_of next.backing ≤ 2 ^ 62 + 1
  few_after next is = omega (arith, few_index, later_index m.backing 1, ap (λ (m : Mark). mark.index_of m.backing) is)

-- ---- a range that grows where it is

module _ (r : Resize) (cells : AddressSpace) where
  -- the pages behind the last one go on from it
  grown_cells : (last : Cell) → get cells (r.first + r.old - 1) ≡ Some last → 0 < r.old →
      change cells (r.first + r.old) (r.new - r.old) (λ page _. Some (backed (backing_of last) (perm_of last) (1 + (page - (r.first + r.old))))) ≡ grown r cells
  grown_cells last here some =
      change_alike cells _ _ (r.first + r.old) (r.new - r.old) (λ q a b.
      let place : 1 + (q - (r.first + r.old)) ≡ q - r.first + 1 - r.old = omega (arith, a) in
      let high : r.old ≤ q - r.first = omega (arith, a) in
      ap (λ k. Some (goes_on last k)) place
      ∙ sym (ap (λ b. cond b (get cells (r.first + (q - r.first))) (option_map (λ last. goes_on last (q - r.first + 1 - r.old)) (get cells (r.first + r.old - 1)))) (le-ltb (q - r.first) r.old high)
      ∙ ap (option_map (λ last. goes_on last (q - r.first + 1 - r.old))) here))

  -- and so do pages that are mapped there with the next mark
  pub mapped_behind : (m : Mark) (held : Option HeldPage) → get cells (r.first + r.old - 1) ≡ Some (cell_of m held) → 0 < r.old → (next : Mark) → next ≡ mark.goes_on m 1 →
      change cells (r.first + r.old) (r.new - r.old) (λ page _. Some (backed next.backing next.perm (page - (r.first + r.old)))) ≡ grown r cells
  mapped_behind m held here some next is =
      change_alike cells _ _ (r.first + r.old) (r.new - r.old) (λ q a b.
      let k = q - (r.first + r.old) in
      (λ i. Some (backed (is i).backing (is i).perm k))
      ∙ ap Some (backed_onward m.backing m.perm k)
      ∙ sym (λ i. Some (backed (backing_of_cell m held i) (perm_of_cell m held i) (1 + k))))
      ∙ grown_cells (cell_of m held) here some

-- ---- whether there is room

no_cell : (q : ℕ) (o : Option Cell) → ◌≡◌ {A = Option ℕ} (cond (is_some o) (Some q) None) None → o ≡ None
no_cell q None h = refl
no_cell q (Some c) h = absurd (not_none h)

-- a range of pages is free where none of them has a cell
pub free_is : (cells : AddressSpace) (first count : ℕ) → is_none (least first count (λ page. is_some (get cells page))) ≡ is_free cells first count
free_is cells first count = go (least first count (λ page. is_some (get cells page))) refl
  where
    go : (o : Option ℕ) → least first count (λ page. is_some (get cells page)) ≡ o → is_none o ≡ is_free cells first count
    go None e = sym (free_range cells first count (λ q a b. no_cell q (get cells q) (unanswered (λ n. cond (is_some (get cells n)) (Some n) None) first count e q a b)))
    go (Some page) e =
        let at = least_passes first count (λ page. is_some (get cells page)) page e in
        sym (taken_range cells first count page at.0 at.1 at.2)

-- There is room behind it where the pages that it lacks are user pages, and none of them has a cell.
pub has_room_is : (levels : ℕ) (r : Resize) (cells : AddressSpace) → r.old < r.new → 16 ≤ r.first + r.old → r.first + r.new < 2 ^ (9 * levels - 1) →
    (o : Option ℕ) → o ≡ least (r.first + r.old) (r.first + r.new - (r.first + r.old)) (λ page. is_some (get cells page)) → (b : Bool) → is_some o ≡ not b → b ≡ has_room levels cells r
has_room_is levels r cells more low high o found b is =
    let first = r.first + r.old in
    let count = r.new - r.old in
    let same : r.first + r.new - first ≡ count = omega arith in
    let end : first + count < 2 ^ (9 * levels - 1) = omega (arith, high, more) in
    by_none o b is
    ∙ ap is_none (found ∙ ap (λ n. least first n (λ page. is_some (get cells page))) same)
    ∙ free_is cells first count
    ∙ sym (ap (λ b. b && is_free cells first count) (and_from (nat_le 16 first) (nat_lt (first + count) (2 ^ (9 * levels - 1))) (le-leb 16 first low) (lt-ltb (first + count) (2 ^ (9 * levels - 1)) end)))
  where
    by_none : (o : Option ℕ) (b : Bool) → is_some o ≡ not b → b ≡ is_none o
    by_none None true h = refl
    by_none None false h = absurd (true≢false (sym h))
    by_none (Some x) true h = absurd (true≢false h)
    by_none (Some x) false h = refl

module _ (r : Resize) (cells : AddressSpace) where
  abbrev is_late : Option Cell → Bool
  is_late o = option_map_or (λ last. nat_lt (2 ^ 62) (index_of (backing_of (goes_on last (r.new - r.old))))) o false

  pub last_is : r.old < r.new → (m : Mark) (held : Option HeldPage) → get cells (r.first + r.old - 1) ≡ Some (cell_of m held) →
      is_too_far cells r ≡ nat_lt (2 ^ 62) (mark.index_of (backing_after m.backing (r.new - r.old)))
  last_is h m held here =
      let n = r.new - r.old in
      let cell = cell_of m held in
      ap (λ b. b && is_late (get cells (r.first + r.old - 1))) (lt-ltb r.old r.new h) ∙ ap is_late here
      ∙ ap (λ what. nat_lt (2 ^ 62) (index_of what)) (onward_backing (backing_of cell) (perm_of cell) n)
      ∙ ap (λ what. nat_lt (2 ^ 62) (index_of (backing_after what n))) (backing_of_cell m held)
      ∙ ap (nat_lt (2 ^ 62)) (same_index (backing_after m.backing n))
