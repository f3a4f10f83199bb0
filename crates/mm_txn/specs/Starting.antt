-- What a new machine is made of.
--     first_directory      the cells of the directory with the root of space 0 alone
--     AreBlank, AreFirstRows      rows without a cell in use;  those of a new table
--     IsReadyKit      an empty kit with all its room, and an empty list with room for so many rows
use Rattle.std.specs.Prelude.{◌≡◌, ℕ, ◌<◌, ◌≤◌, List, [], length, slice_set}
use mathlib.Core.Option.{some}
use lib.ListN.{get_elem?}
use Rattle.row_cells.specs.declared.Cell.{Cell}
use Rattle.row_cells.specs.declared.Cell.TheVariants.{Table}
use Rattle.row_cells.specs.Cells.{blank}
use Rattle.machine_plan.specs.declared.kit.Kit.{Kit}
use Rattle.machine_plan.specs.Kits.{HasRoom, IsUngranted, IsIdle, IsUnplanned}
use Rattle.tree_lock.specs.Held.{HeldList}

abbrev pub first_directory : List Cell
first_directory = slice_set blank 0 Table

pub record AreBlank (count : ℕ) (rows : List (List Cell)) : Type 0 where
  pub count_is : length rows ≡ count
  pub blanks : (r : ℕ) (x : List Cell) → get_elem? rows r ≡ some x → x ≡ blank

pub record AreFirstRows (count : ℕ) (rows : List (List Cell)) : Type 0 where
  pub count_is : length rows ≡ count
  pub directory : (x : List Cell) → get_elem? rows 0 ≡ some x → x ≡ first_directory
  pub others : (r : ℕ) (x : List Cell) → 0 < r → get_elem? rows r ≡ some x → x ≡ blank

abbrev pub IsReadyKit : ℕ → Kit × HeldList (List Cell) → Type 0
IsReadyKit rows k = HasRoom k.0 × IsUngranted k.0 × IsIdle k.0 × IsUnplanned k.0 × (k.1.rows ≡ []) × (rows ≤ k.1.room)
