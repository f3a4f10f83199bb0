-- References that are taken out of the cells of held rows.
--     cell_from, drawn_cell, drawn_from      a cell whose reference was taken out: what it came from, with its permissions;  what was taken
--     filled_cell      a cell with what was taken out of it
--     leaf_place, IsLeafRow      the position of the row of level 1 that has a page;  where in a list that row is
--     IsTaken      the reference of one page was taken out of the row that has it
--     page_at, IsDrawnRow, AreDrawn      rows of which the references of the pages that pass were taken out
--     frame_part, slot_part      what was taken, as lists
--     DrawsPages      the references of a range of pages were taken out, and are listed in ascending order
use Rattle.std.specs.Prelude.{◌≡◌, ℕ, zero, suc, ◌+◌, ◌*◌, ◌/◌, ◌%◌, ◌<◌, ◌⊎◌, ◌&&◌, Bool, cond, List, [], ◌∷◌, ◌++◌, length, nat_eq, slice_get, slice_set, slice_index_or, Option, Some, None}
use Rattle.std.specs.List.{Contains}
use Rattle.corten_base.specs.declared.calls.Backing.{Backing}
use Rattle.corten_base.specs.declared.calls.Backing.TheVariants as backing
use Rattle.corten_base.specs.declared.permissions.Perm.{Perm}
use Rattle.counted_pages.specs.Pages.{CountedPage}
use Rattle.row_cells.specs.declared.Cell.{Cell}
use Rattle.row_cells.specs.declared.Cell.TheVariants.{Invalid, Table, Anon, File, Mapped, Swapped}
use Rattle.table_place.specs.declared.Place.{Place}
use Rattle.table_place.specs.Range.{within}
use Rattle.tree_lock.specs.Held.{with_content}
use Rattle.machine_plan.specs.HeldRows.{Row}
use Rattle.range_cursor.specs.declared.drawing.Drawn.{Drawn}
use Rattle.range_cursor.specs.declared.drawing.Drawn.TheVariants as drawn

-- a page without its reference shows what it came from
abbrev pub cell_from : Backing → Perm → Cell
cell_from backing.Zero perm = Anon perm
cell_from (backing.File file index) perm = File perm file index

abbrev pub drawn_cell : Cell → Cell
drawn_cell (Mapped perm origin frame) = cell_from origin perm
drawn_cell (Swapped perm origin slot) = cell_from origin perm
drawn_cell Invalid = Invalid
drawn_cell Table = Table
drawn_cell (Anon perm) = Anon perm
drawn_cell (File perm file index) = File perm file index

abbrev pub drawn_from : Cell → Drawn
drawn_from (Mapped perm origin frame) = drawn.Frame frame
drawn_from (Swapped perm origin slot) = drawn.Slot slot
drawn_from Invalid = drawn.Nothing
drawn_from Table = drawn.Nothing
drawn_from (Anon perm) = drawn.Nothing
drawn_from (File perm file index) = drawn.Nothing

-- a cell with what was taken out of it
abbrev pub filled_cell : Cell → Drawn → Cell
filled_cell (Anon perm) (drawn.Frame frame) = Mapped perm backing.Zero frame
filled_cell (Anon perm) (drawn.Slot slot) = Swapped perm backing.Zero slot
filled_cell (Anon perm) drawn.Nothing = Anon perm
filled_cell Invalid taken = Invalid
filled_cell Table taken = Table
filled_cell (File perm file index) (drawn.Frame frame) = Mapped perm (backing.File file index) frame
filled_cell (File perm file index) (drawn.Slot slot) = Swapped perm (backing.File file index) slot
filled_cell (File perm file index) drawn.Nothing = File perm file index
filled_cell (Mapped perm origin frame) taken = Mapped perm origin frame
filled_cell (Swapped perm origin slot) taken = Swapped perm origin slot

abbrev pub frames_in : ℕ → Drawn → List (ℕ × CountedPage)
frames_in page (drawn.Frame frame) = (page, frame) ∷ []
frames_in page (drawn.Slot slot) = []
frames_in page drawn.Nothing = []

abbrev pub slots_in : ℕ → Drawn → List (ℕ × CountedPage)
slots_in page (drawn.Slot slot) = (page, slot) ∷ []
slots_in page (drawn.Frame frame) = []
slots_in page drawn.Nothing = []

abbrev pub leaf_place : ℕ → ℕ → Place
leaf_place space page = record { space = space; level = 1; prefix = page / 512 }

-- there, and nowhere else
pub record IsAtPlace (rows : List Row) (p : Place) (k : ℕ) : Type 0 where
  pub inside : k < length rows
  pub here : (d : Row) → (slice_index_or rows k d).place ≡ p
  pub only : (j : ℕ) (d : Row) → j < length rows → (slice_index_or rows j d).place ≡ p → j ≡ k

abbrev pub IsLeafRow : List Row → Place → Option ℕ → Type 0
IsLeafRow rows p None = (x : Row) → Contains rows x → ¬ (x.place ≡ p)
IsLeafRow rows p (Some k) = IsAtPlace rows p k

-- the cell of a page in the row that has it
pub record CellOf (space page : ℕ) (rows : List Row) : Type 0 where
  pub place : ℕ
  pub is_leaf : IsAtPlace rows (leaf_place space page) place
  pub cell : Cell
  pub content : List Cell
  pub content_is : (d : Row) → (slice_index_or rows place d).content ≡ content
  pub there : slice_get content (page % 512) ≡ Some cell

abbrev pub IsTaken : ℕ → ℕ → List Row → List Row → Drawn → Type 0
IsTaken space page rows rows' taken =
    (((x : Row) → Contains rows x → ¬ (x.place ≡ leaf_place space page)) × (rows' ≡ rows) × (taken ≡ drawn.Nothing))
    ⊎ ((at : CellOf space page rows) × (rows' ≡ with_content rows at.place (slice_set at.content (page % 512) (drawn_cell at.cell))) × (taken ≡ drawn_from at.cell))

abbrev pub page_at : Row → ℕ → ℕ
page_at x index = 512 * x.place.prefix + index

pub record IsDrawnRow (uses : ℕ → ℕ → Bool) (old new : Row) : Type 0 where
  pub same_row : new.row ≡ old.row
  pub same_place : new.place ≡ old.place
  pub same_generation : new.generation ≡ old.generation
  pub whole : length new.content ≡ length old.content
  pub each : (index : ℕ) (cell : Cell) → index < 512 → slice_get old.content index ≡ Some cell
      → slice_get new.content index ≡ Some (cond (nat_eq old.place.level 1 && uses old.place.space (page_at old index)) (drawn_cell cell) cell)

pub record AreDrawn (uses : ℕ → ℕ → Bool) (old new : List Row) : Type 0 where
  pub as_many : length new ≡ length old
  pub each : (k : ℕ) (d : Row) → k < length old → IsDrawnRow uses (slice_index_or old k d) (slice_index_or new k d)

abbrev pub reaches : ℕ → ℕ → ℕ → ℕ → ℕ → Bool
reaches space first count s page = nat_eq s space && within first count page

abbrev pub frame_part : ℕ → Cell → List (ℕ × CountedPage)
frame_part page (Mapped perm origin frame) = (page, frame) ∷ []
frame_part page (Swapped perm origin slot) = []
frame_part page Invalid = []
frame_part page Table = []
frame_part page (Anon perm) = []
frame_part page (File perm file index) = []

abbrev pub slot_part : ℕ → Cell → List (ℕ × CountedPage)
slot_part page (Swapped perm origin slot) = (page, slot) ∷ []
slot_part page (Mapped perm origin frame) = []
slot_part page Invalid = []
slot_part page Table = []
slot_part page (Anon perm) = []
slot_part page (File perm file index) = []

-- what the row of level 1 that has a page has there
abbrev pub IsPartOf : (ℕ → Cell → List (ℕ × CountedPage)) → ℕ → List Row → ℕ → List (ℕ × CountedPage) → Type 0
IsPartOf part space rows page refs =
    (((x : Row) → Contains rows x → ¬ (x.place ≡ leaf_place space page)) × (refs ≡ []))
    ⊎ ((at : CellOf space page rows) × (refs ≡ part page at.cell))

-- the parts of a page behind those of the pages before it
pub record HasPart (part : ℕ → Cell → List (ℕ × CountedPage)) (space : ℕ) (rows : List Row) (page : ℕ) (before refs : List (ℕ × CountedPage)) : Type 0 where
  pub here : List (ℕ × CountedPage)
  pub is_part : IsPartOf part space rows page here
  pub refs_are : refs ≡ before ++ here

-- the parts of so many pages in turn
abbrev pub ArePartsOf : (ℕ → Cell → List (ℕ × CountedPage)) → ℕ → List Row → ℕ → ℕ → List (ℕ × CountedPage) → Type 0
ArePartsOf part space rows first zero refs = refs ≡ []
ArePartsOf part space rows first (suc n) refs = (before : List (ℕ × CountedPage)) × ArePartsOf part space rows first n before × HasPart part space rows (first + n) before refs

pub record DrawsPages (space first count : ℕ) (rows rows' : List Row) (frames slots : List (ℕ × CountedPage)) : Type 0 where
  pub drawn : AreDrawn (reaches space first count) rows rows'
  pub frames_are : ArePartsOf frame_part space rows first count frames
  pub slots_are : ArePartsOf slot_part space rows first count slots
