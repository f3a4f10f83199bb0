-- The held rows as a reader of their list sees them.
--     is_table      whether a cell is a link
--     RowsShown      the cells of each row are those of a state
--     AreOf      the rows but the directory are of one space
--     IsAt, IsAsked      a row's cell for a page, which is no link;  rows of one space, one of which has such a cell
--     status_at      what such a cell says of the page, by the page's place among those below its entry
--     AreAsked      each page of a range is so
--     TellsPage, Says      what a row's cell tells of a page;  what a cell tells
--     Answers, AnswersGap      what is told of a page;  of a range
use Rattle.std.specs.Prelude.{◌≡◌, ℕ, ◌+◌, ◌^◌, ◌%◌, ◌-◌, ◌<◌, ◌≤◌, Bool, true, false, List, slice_get, Option, Some, None}
use Rattle.std.specs.List.{Contains}
use Rattle.corten_base.specs.declared.numbers.Status.{Status}
use Rattle.corten_base.specs.declared.numbers.Status.TheVariants as status
use Rattle.page_map.specs.Cell.{status_of}
use Rattle.page_map.specs.Change.{least}
use Rattle.page_map.specs.Mapping.{is_free}
use Rattle.page_map.specs.State.{State, cell_at, space_at}
use Rattle.row_cells.specs.declared.Cell.{Cell}
use Rattle.row_cells.specs.declared.Cell.TheVariants.{Invalid, Table, Anon, File, Mapped, Swapped}
use Rattle.table_place.specs.Place.{has_page, index_at}
use Rattle.table_place.specs.Range.{within}
use Rattle.tree_lock.specs.declared.held.HeldRow.{HeldRow}
use Rattle.machine_plan.specs.Agrees.{Shown}

abbrev pub is_table : Cell → Bool
is_table Table = true
is_table Invalid = false
is_table (Anon perm) = false
is_table (File perm file index) = false
is_table (Mapped perm origin frame) = false
is_table (Swapped perm origin slot) = false

abbrev pub Row : Type 0
Row = HeldRow (List Cell)

abbrev pub RowsShown : State → List Row → Type 0
RowsShown st rows = (h : Row) → Contains rows h → Shown st h.place h.content

abbrev pub AreOf : ℕ → List Row → Type 0
AreOf space rows = (h : Row) → Contains rows h → h.place.level < 6 → h.place.space ≡ space

pub record IsAt (h : Row) (page : ℕ) : Type 0 where
  pub deep : 1 ≤ h.place.level
  pub low : h.place.level < 6
  pub has : has_page h.place h.place.space page ≡ true
  pub cell : Cell
  pub there : slice_get h.content (index_at h.place.level page) ≡ Some cell
  pub no_link : is_table cell ≡ false

pub record IsAsked (space : ℕ) (rows : List Row) (page : ℕ) : Type 0 where
  pub of_space : AreOf space rows
  pub row : Row
  pub held : Contains rows row
  pub at : IsAt row page

abbrev pub status_at : Cell → ℕ → Status
status_at Table offset = status.Invalid
status_at Invalid offset = status.Invalid
status_at (Anon perm) offset = status.Anon perm
status_at (File perm file index) offset = status.File perm file ((index + offset) % 2 ^ 64)
status_at (Mapped perm origin frame) offset = status.Mapped perm frame.number
status_at (Swapped perm origin slot) offset = status.Swapped perm slot.number

-- a row's cell for the page says this of it
abbrev pub TellsPage : Row → ℕ → Status → Type 0
TellsPage h page answer = (at : IsAt h page) × (answer ≡ status_at at.cell (page % 512 ^ (h.place.level - 1)))

-- the answer where the cell is no link, and none where it is
abbrev pub Says : Cell → ℕ → Option Status → Type 0
Says cell offset None = is_table cell ≡ true
Says cell offset (Some answer) = (is_table cell ≡ false) × (answer ≡ status_at cell offset)

-- What rows of one space that are those of a state tell of a page, where one of them has it below an entry that is no link. It is asked of a list whose state is known later.
abbrev pub Answers : List Row → ℕ → Status → Type 0
Answers rows page answer = (space : ℕ) (st : State) → IsAsked space rows page → RowsShown st rows → answer ≡ status_of (cell_at st space page)

abbrev pub AreAsked : ℕ → List Row → ℕ → ℕ → Type 0
AreAsked space rows first count = (page : ℕ) → within first count page ≡ true → IsAsked space rows page

-- the least start in the range with so many free pages
abbrev pub AnswersGap : List Row → ℕ → ℕ → ℕ → Option ℕ → Type 0
AnswersGap rows first count wanted answer =
    (space : ℕ) (st : State) → AreAsked space rows first count → RowsShown st rows → answer ≡ least first (count + 1 - wanted) (λ start. is_free (space_at st space) start wanted)
