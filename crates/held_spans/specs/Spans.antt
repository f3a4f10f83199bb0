-- The pages below one entry of a held row that is no link.
--     IsAround      a span of a level has the page, and its pages are numbers of 64 bits
--     status_in, origin_in      what a cell says of the first page below it;  what that page came from
--     Tells      what is told of a cell, and nothing where it is a link
--     IsSpanIn      the span of a held row's entry that is no link and has the page
--     IsSpanAmong, LacksFrom      the span of an entry of one of the rows;  none of the rows from one on has such an entry
--     further, pages_on      what stands so many pages behind the first one;  what such a page came from
--     is_there, has_number, EndsWithin      something stands there;  a frame or a slot does;  a file's pages are numbers of 64 bits
--     wrapped, base_of      what stands there, as a call computes it;  what a page came from, by what stands there
--     StandsAs, Stands      what stands at a page that lies so many pages behind one;  at a page of a span
--     IsSpanOf      what a span says of a state
--     AnswersSpan      what is told of a page's span
use Rattle.std.specs.Prelude.{◌≡◌, ℕ, ◌+◌, ◌-◌, ◌*◌, ◌/◌, ◌%◌, ◌^◌, ◌<◌, ◌≤◌, Bool, true, false, List, length, slice_index_or, Option, Some, None}
use Rattle.std.specs.Option.{option_map}
use Rattle.std.specs.List.{Contains}
use Rattle.std.specs.FinSet as set
use Rattle.corten_base.specs.declared.calls.Backing.{Backing}
use Rattle.corten_base.specs.declared.calls.Backing.TheVariants as backing
use Rattle.corten_base.specs.declared.numbers.Status.{Status}
use Rattle.corten_base.specs.declared.numbers.Status.TheVariants as status
use Rattle.page_map.specs.declared.cell.Cell.{Cell as PageCell}
use Rattle.page_map.specs.Cell.{backing_of, status_of}
use Rattle.page_map.specs.State.{State, cell_at}
use Rattle.row_cells.specs.declared.Cell.{Cell}
use Rattle.row_cells.specs.declared.Cell.TheVariants.{Invalid, Table, Anon, File, Mapped, Swapped}
use Rattle.table_place.specs.Place.{place_of}
use Rattle.table_place.specs.Range.{within}
use Rattle.machine_plan.specs.HeldRows.{Row, RowsShown, IsAt, IsAsked, is_table}
use Rattle.held_spans.specs.declared.spans.Span.{Span}

pub record IsAround (page : ℕ) (s : Span) : Type 0 where
  pub low : s.level < 5
  pub count : s.count ≡ 512 ^ s.level
  pub first : s.first ≡ page / s.count * s.count
  pub from : s.first ≤ page
  pub to : page < s.first + s.count
  pub ends : s.first + s.count ≤ 2 ^ 64

-- What a cell says

abbrev pub status_in : Cell → Status
status_in Table = status.Invalid
status_in Invalid = status.Invalid
status_in (Anon perm) = status.Anon perm
status_in (File perm file index) = status.File perm file index
status_in (Mapped perm origin frame) = status.Mapped perm frame.number
status_in (Swapped perm origin slot) = status.Swapped perm slot.number

abbrev pub origin_in : Cell → Backing
origin_in Table = backing.Zero
origin_in Invalid = backing.Zero
origin_in (Anon perm) = backing.Zero
origin_in (File perm file index) = backing.File file index
origin_in (Mapped perm origin frame) = origin
origin_in (Swapped perm origin slot) = origin

abbrev pub Tells : Cell → Option (Status × Backing) → Type 0
Tells cell None = is_table cell ≡ true
Tells cell (Some answer) = (is_table cell ≡ false) × (answer.0 ≡ status_in cell) × (answer.1 ≡ origin_in cell)

pub record IsSpanIn (h : Row) (page : ℕ) (s : Span) : Type 0 where
  pub at : IsAt h page
  pub around : IsAround page s
  pub level : s.level + 1 ≡ h.place.level
  pub same_status : s.status ≡ status_in at.cell
  pub same_origin : s.origin ≡ origin_in at.cell

-- the span of an entry of one of the rows
pub record IsSpanAmong (rows : List Row) (page : ℕ) (s : Span) : Type 0 where
  pub row : Row
  pub held : Contains rows row
  pub is : IsSpanIn row page s

-- no row from a place of the list on has such an entry
abbrev pub LacksFrom : List Row → ℕ → ℕ → Type 0
LacksFrom rows from page = (k : ℕ) (d : Row) → from ≤ k → k < length rows → ¬ IsAt (slice_index_or rows k d) page

-- What a span says of a state

abbrev pub further : Status → ℕ → Status
further status.Invalid i = status.Invalid
further (status.Anon perm) i = status.Anon perm
further (status.File perm file index) i = status.File perm file (index + i)
further (status.Mapped perm frame) i = status.Mapped perm frame
further (status.Swapped perm slot) i = status.Swapped perm slot

abbrev pub pages_on : Backing → ℕ → Backing
pages_on backing.Zero i = backing.Zero
pages_on (backing.File file index) i = backing.File file (index + i)

-- the same as a call computes it
abbrev pub wrapped : Status → ℕ → Status
wrapped status.Invalid i = status.Invalid
wrapped (status.Anon perm) i = status.Anon perm
wrapped (status.File perm file index) i = status.File perm file ((index + i) % 2 ^ 64)
wrapped (status.Mapped perm frame) i = status.Mapped perm frame
wrapped (status.Swapped perm slot) i = status.Swapped perm slot

-- what a page came from, where a frame or a slot came from this
abbrev pub base_of : Status → Backing → Backing
base_of status.Invalid origin = backing.Zero
base_of (status.Anon perm) origin = backing.Zero
base_of (status.File perm file index) origin = backing.File file index
base_of (status.Mapped perm frame) origin = origin
base_of (status.Swapped perm slot) origin = origin

abbrev pub is_there : Status → Bool
is_there status.Invalid = false
is_there (status.Anon perm) = true
is_there (status.File perm file index) = true
is_there (status.Mapped perm frame) = true
is_there (status.Swapped perm slot) = true

abbrev pub has_number : Status → Bool
has_number status.Invalid = false
has_number (status.Anon perm) = false
has_number (status.File perm file index) = false
has_number (status.Mapped perm frame) = true
has_number (status.Swapped perm slot) = true

abbrev pub EndsWithin : Status → ℕ → Type 0
EndsWithin (status.File perm file index) count = index + count ≤ 2 ^ 64
EndsWithin _ count = Unit {0}

-- what stands i pages behind a page of which this is told
pub record StandsAs (what : Status) (base : Backing) (i : ℕ) (cell : Option PageCell) : Type 0 where
  pub status : status_of cell ≡ further what i
  pub origin : is_there what ≡ true → option_map backing_of cell ≡ Some (pages_on base i)

abbrev pub Stands : Span → ℕ → Option PageCell → Type 0
Stands s i cell = StandsAs s.status s.origin i cell

-- The table of the span's entry is there, and no table below the entry. Each page of the span stands as the span says.
pub record IsSpanOf (st : State) (space page : ℕ) (s : Span) : Type 0 where
  pub table : set.contains st.tables (place_of space (s.level + 1) page) ≡ true
  pub lone : set.contains st.tables (place_of space s.level page) ≡ false
  pub each : (n : ℕ) → within s.first s.count n ≡ true → Stands s (n - s.first) (cell_at st space n)
  pub single : has_number s.status ≡ true → s.level ≡ 0
  pub fits : EndsWithin s.status s.count

-- It is asked of rows whose state is known later.
abbrev pub AnswersSpan : List Row → ℕ → Span → Type 0
AnswersSpan rows page s = (space : ℕ) (st : State) → IsAsked space rows page → RowsShown st rows → IsSpanOf st space page s
