-- References that come into the cells of the pages of one space, among rows of any spaces.
--     IsFilledIn, IsPlacedIn      a reference came into the cell of its page;  it did where a row has the page
--     AreShortIn      rows whose cells lack the references of some pages, in this space and in others
use Rattle.std.specs.Prelude.{◌≡◌, ◌≢◌, ℕ, ◌%◌, ◌⊎◌, List, slice_get, slice_index_or, slice_set, Some, None}
use Rattle.std.specs.List.{Contains}
use Rattle.row_cells.specs.declared.Cell.{Cell}
use Rattle.row_table.specs.declared.view.HeldRow.{HeldRow as KnownRow}
use Rattle.tree_lock.specs.Held.{IsInOrder, with_content}
use Rattle.machine_plan.specs.Books.{BookData}
use Rattle.machine_plan.specs.HeldRows.{Row}
use Rattle.cursor_apply.specs.declared.putting.Reference.{Reference}
use Rattle.cursor_apply.specs.Putting.{filled_cell, IsShort}
use Rattle.cursor_apply.specs.Sharing.{IsLeafRow}

pub record IsFilledIn (space page : ℕ) (r : Reference) (rows rows' : List Row) : Type 0 where
  pub at : ℕ
  pub is_leaf : IsLeafRow space rows page (Some at)
  pub row : Row
  pub is_row : (d : Row) → slice_index_or rows at d ≡ row
  pub cell : Cell
  pub there : slice_get row.content (page % 512) ≡ Some cell
  pub now : rows' ≡ with_content rows at (slice_set row.content (page % 512) (filled_cell cell r))

pub record IsPlacedIn (space page : ℕ) (r : Reference) (rows rows' : List Row) : Type 0 where
  pub order : IsInOrder rows
  pub put : (IsLeafRow space rows page None × (rows' ≡ rows)) ⊎ IsFilledIn space page r rows rows'

-- frames, slots: the pages of this space whose references are out;  rest: those of the others
abbrev pub AreShortIn : BookData → List (KnownRow (List Cell)) → ℕ → List ℕ → List ℕ → List ℕ × List ℕ → List Row → Type 0
AreShortIn b known space frames slots rest rows = (x : Row) → Contains rows x → (x.place.space ≡ space → IsShort b known frames slots x) × (x.place.space ≢ space → IsShort b known rest.0 rest.1 x)
