-- References that come back into the cells of pages that a call names and leaves them, before its changes are made.
--     IsPageAt      an entry of a row is that of a page
--     IsBackCell, IsBackRow, ArePutBack      a cell, a row and the rows of a list, each with the references of its pages
--     PutsBack      for rows of one space
use Rattle.std.specs.Prelude.{◌≡◌, ℕ, ◌%◌, ◌⊎◌, List, length, slice_get, Some}
use Rattle.std.specs.List.{Contains}
use Rattle.counted_pages.specs.Pages.{CountedPage}
use Rattle.row_cells.specs.declared.Cell.{Cell}
use Rattle.machine_plan.specs.HeldRows.{Row, AreOf}
use Rattle.machine_plan.specs.Kits.{Refs}
use Rattle.cursor_apply.specs.declared.putting.Reference.{Reference}
use Rattle.cursor_apply.specs.Putting.{filled_cell, IsLeafOf}

abbrev pub IsPageAt : Row → ℕ → ℕ → Type 0
IsPageAt x i page = IsLeafOf x page × (i ≡ page % 512)

abbrev pub IsRefAt : (CountedPage → Reference) → Refs → Row → ℕ → Cell → Cell → Type 0
IsRefAt to refs x i was now = (r : ℕ × CountedPage) × Contains refs r × IsPageAt x i r.0 × (now ≡ filled_cell was (to r.1))

-- a cell keeps what it has where none of the references is that of its page
pub record IsBackCell (to : CountedPage → Reference) (refs : Refs) (x : Row) (i : ℕ) (now : Cell) : Type 0 where
  pub was : Cell
  pub there : slice_get x.content i ≡ Some was
  pub is : ((now ≡ was) × ((r : ℕ × CountedPage) → Contains refs r → IsPageAt x i r.0 → ⊥)) ⊎ IsRefAt to refs x i was now

pub record IsBackRow (to : CountedPage → Reference) (refs : Refs) (rows : List Row) (y : Row) : Type 0 where
  pub was : Row
  pub held : Contains rows was
  pub same_row : was.row ≡ y.row
  pub same_place : was.place ≡ y.place
  pub whole : length y.content ≡ length was.content
  pub cells : (i : ℕ) (cell : Cell) → slice_get y.content i ≡ Some cell → IsBackCell to refs was i cell

abbrev pub ArePutBack : (CountedPage → Reference) → Refs → List Row → List Row → Type 0
ArePutBack to refs rows rows' = (y : Row) → Contains rows' y → IsBackRow to refs rows y

abbrev pub PutsBack : (CountedPage → Reference) → Refs → List Row → List Row → Type 0
PutsBack to refs rows rows' = (space : ℕ) → AreOf space rows → ArePutBack to refs rows rows'
