-- Cells without a frame or a slot.
--     is_reference      whether a cell has one
--     HasNone      none of the cells of a row has one
use Rattle.std.specs.Prelude.{◌≡◌, ℕ, ◌<◌, Bool, true, false, List, slice_get, Some}
use Rattle.row_cells.specs.declared.Cell.{Cell}
use Rattle.row_cells.specs.declared.Cell.TheVariants.{Invalid, Table, Anon, File, Mapped, Swapped}

abbrev pub is_reference : Cell → Bool
is_reference (Mapped perm origin frame) = true
is_reference (Swapped perm origin slot) = true
is_reference Invalid = false
is_reference Table = false
is_reference (Anon perm) = false
is_reference (File perm file index) = false

abbrev pub HasNone : List Cell → Type 0
HasNone cells = (index : ℕ) (c : Cell) → index < 512 → slice_get cells index ≡ Some c → is_reference c ≡ false
