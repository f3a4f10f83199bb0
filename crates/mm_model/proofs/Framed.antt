-- The frame of a page, by its number.
use Rattle.std.proofs.Common.{◌≡◌, ℕ, ◌^◌, ◌≤◌, refl, ap, ◌∙◌, arith}
use Rattle.std.specs.Prelude.{Option, Some, None}
use Rattle.std.specs.Option.{option_and_then}
use Rattle.std.specs.FinMap.{get}
use Rattle.page_map.specs.declared.cell.Cell.{Cell}
use Rattle.page_map.specs.declared.cell.Cell.TheVariants.{Anon, File, Mapped, Swapped}
use Rattle.page_map.specs.Cell.{AddressSpace, frame_of}
use Rattle.page_map.specs.State.{State, IsConsistent, levels, cell_at}
use Rattle.page_map.proofs.Mappings.{user_few}
use Rattle.space_cells.specs.declared.held.Number.{Number}
use Rattle.space_cells.specs.declared.held.Number.TheVariants.{Frame, Slot}
use Rattle.space_cells.specs.Cells.{number_of, number_at}
use Rattle.mm_model.specs.Pages.{frame_in, frame_at}

abbrev pub frame_number : Number → Option ℕ
frame_number (Frame frame) = Some frame
frame_number (Slot slot) = None

of_cell : (cell : Cell) → frame_of cell ≡ option_and_then frame_number (number_of cell)
of_cell (Anon perm) = refl
of_cell (File perm file index) = refl
of_cell (Mapped perm origin frame bytes) = refl
of_cell (Swapped perm origin slot bytes) = refl

pub frame_by_number : (cells : AddressSpace) (q : ℕ) (o : Option Number) → number_at cells q ≡ o → frame_in cells q ≡ option_and_then frame_number o
frame_by_number cells q o is = go (get cells q) ∙ ap (option_and_then frame_number) is
  where
    go : (c : Option Cell) → option_and_then frame_of c ≡ option_and_then frame_number (option_and_then number_of c)
    go None = refl
    go (Some cell) = of_cell cell

-- no page past the user pages has a frame
pub high_unmapped : (st : State) (s p : ℕ) → IsConsistent st → 2 ^ 44 ≤ p → frame_at st s p ≡ None
high_unmapped st s p facts far = go (cell_at st s p) refl
  where
    go : (c : Option Cell) → cell_at st s p ≡ c → option_and_then frame_of c ≡ None
    go None is = refl
    go (Some cell) is = absurd (omega (arith, user_few (levels st) p 1 facts.few_levels (facts.pages s p cell is), far))
