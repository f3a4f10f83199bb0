-- The numbers of pages that move: each cell carries after the move what it carried before, so the counts stay.
--     moved_follow      counts that stay follow cells that move
use Rattle.std.proofs.Common.{◌≡◌, ℕ, ◌+◌, ◌-◌, ◌<◌, ◌≤◌, Bool, true, false, cond, refl, sym, ap, ◌∙◌, arith}
use Rattle.std.specs.Prelude.{Option, None, Some, slice_index}
use Rattle.std.specs.Option.{option_and_then, option_map}
use Rattle.std.specs.FinMap.{get}
use Rattle.std.proofs.lemmas.Bool.{lt-ltb, le-ltb}
use Rattle.corten_base.specs.declared.calls.Backing.{Backing}
use Rattle.corten_base.specs.declared.calls.Backing.TheVariants as backing
use Rattle.corten_base.specs.declared.permissions.Perm.{Perm}
use Rattle.table_place.specs.Range.{within}
use Rattle.table_place.proofs.Tables.{to_range}
use Rattle.page_map.specs.declared.cell.Cell.{Cell}
use Rattle.page_map.specs.Cell.{backed, backing_of, frame_of, goes_on, perm_of, slot_of}
use Rattle.page_map.specs.Change.{change}
use Rattle.page_map.specs.Remap.{cell_for}
use Rattle.page_map.specs.State.{AddressSpace}
use Rattle.page_map.proofs.Range.{change_is, get-change}
use Rattle.plain_counts.specs.declared.counts.Counts.{Counts}
use Rattle.plain_counts.specs.Counts.{carried, Follow}
use Rattle.space_cells.specs.declared.held.Number.{Number}
use Rattle.space_cells.specs.declared.moving.Relocation.{Relocation}
use Rattle.space_cells.specs.Cells.{number_at, number_of}
use Rattle.space_cells.specs.Moving.{CanMove, moved, resize_of}
use Rattle.plain_spaces.specs.Numbers.{frame_in, slot_in}
use Rattle.plain_spaces.proofs.Released.{Agree, frames_agree, slots_agree, gone, in_range, quiet, same_in, split}

no_number : (what : Backing) (perm : Perm) (k : ℕ) → number_of (backed what perm k) ≡ None
no_number backing.Zero perm k = refl
no_number (backing.File file index) perm k = refl

none_onward : (o : Option Cell) (k : ℕ) → option_and_then number_of (option_map (λ last. goes_on last k) o) ≡ None
none_onward None k = refl
none_onward (Some cell) k = no_number (backing_of cell) (perm_of cell) k

module _ (cells : AddressSpace) (r : Relocation) (can : CanMove cells r) where
  abbrev without : AddressSpace
  without = change cells r.first r.old (λ _ _. None)

  -- page i of the new place
  pub there : (i : ℕ) → i < r.new → get (moved r cells) (r.to + i) ≡ cell_for cells (resize_of r) i
  unfolding moved
  there i low =
      let place : r.to + i - r.to ≡ i = omega arith in
      get-change without r.to r.new (λ page _. cell_for cells (resize_of r) (page - r.to)) (r.to + i)
      ∙ ap (λ b. cond b (cell_for cells (resize_of r) (r.to + i - r.to)) (get without (r.to + i))) (to_range r.to r.new (r.to + i) (omega arith) (omega (arith, low)))
      ∙ ap (cell_for cells (resize_of r)) place

  old_number : (i : ℕ) → i < r.old → number_at (moved r cells) (r.to + i) ≡ number_at cells (r.first + i)
  old_number i low =
      ap (option_and_then number_of) (there i (omega (arith, low, can.grows))
      ∙ ap (λ b. cond b (get cells (r.first + i)) (option_map (λ last. goes_on last (i + 1 - r.old)) (get cells (r.first + r.old - 1)))) (lt-ltb i r.old low))

  new_number : (i : ℕ) → r.old ≤ i → i < r.new → number_at (moved r cells) (r.to + i) ≡ None
  new_number i high low =
      ap (option_and_then number_of) (there i low
      ∙ ap (λ b. cond b (get cells (r.first + i)) (option_map (λ last. goes_on last (i + 1 - r.old)) (get cells (r.first + r.old - 1)))) (le-ltb i r.old high))
      ∙ none_onward (get cells (r.first + r.old - 1)) (i + 1 - r.old)

  -- without the new place, the cells are those without the old one
  emptied : without ≡ change (moved r cells) r.to r.new (λ _ _. None)
  unfolding moved
  emptied = change_is (moved r cells) r.to r.new (λ _ _. None) without (λ q. go q (within r.to r.new q) refl)
    where
      free : (q : ℕ) → within r.to r.new q ≡ true → get without q ≡ None
      free q w = get-change cells r.first r.old (λ _ _. None) q ∙ ap (cond (within r.first r.old q) None) (can.free q w) ∙ either (within r.first r.old q)
        where
          either : (b : Bool) → ◌≡◌ {A = Option Cell} (cond b None None) None
          either true = refl
          either false = refl

      go : (q : ℕ) (b : Bool) → within r.to r.new q ≡ b → get without q ≡ cond (within r.to r.new q) None (get (moved r cells) q)
      go q true w = free q w ∙ sym (ap (λ b. cond b None (get (moved r cells) q)) w)
      go q false w =
          sym (ap (λ b. cond b None (get (moved r cells) q)) w
          ∙ get-change without r.to r.new (λ page _. cell_for cells (resize_of r) (page - r.to)) q
          ∙ ap (λ b. cond b (cell_for cells (resize_of r) (q - r.to)) (get without q)) w)

  module _ (kind : Number → Option ℕ) (cell_number : Cell → Option ℕ) (agree : Agree kind cell_number) (n : ℕ) where
    same_numbers : in_range kind (moved r cells) n r.to r.new ≡ in_range kind cells n r.first r.old
    same_numbers =
        let all : in_range kind (moved r cells) n r.to r.new ≡ in_range kind (moved r cells) n r.to (r.old + (r.new - r.old)) = ap (in_range kind (moved r cells) n r.to) (omega (arith, can.grows)) in
        let rest = quiet kind (moved r cells) n (r.new - r.old) (r.to + r.old) (λ q a b.
        let i : r.to + (q - r.to) ≡ q = omega (arith, a) in
        ap (number_at (moved r cells)) (sym i) ∙ new_number (q - r.to) (omega (arith, a)) (omega (arith, a, b, can.grows))) in
        omega (arith, all, rest, split kind (moved r cells) n (r.new - r.old) r.old r.to, same_in kind n (moved r cells) cells r.old r.to r.first old_number)

    pub moved_carried : carried cell_number n (moved r cells) ≡ carried cell_number n cells
    moved_carried =
        let out = gone kind cell_number agree cells n r.first (λ _ _. None) (λ q o. refl) r.old in
        let back = gone kind cell_number agree (moved r cells) n r.to (λ _ _. None) (λ q o. refl) r.new in
        let same = ap (carried cell_number n) emptied in
        omega (arith, out, back, same, same_numbers)

  pub moved_follow : (counts : Counts) → Follow counts counts cells (moved r cells)
  moved_follow counts = record {
    frames = record { numbers = refl; counts = λ n. ap (λ k. slice_index counts.frames n + k) (sym (moved_carried frame_in frame_of frames_agree n)) };
    slots = record { numbers = refl; counts = λ n. ap (λ k. slice_index counts.slots n + k) (sym (moved_carried slot_in slot_of slots_agree n)) };
  }
