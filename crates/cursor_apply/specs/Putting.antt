-- References that come back into the cells from which they were taken.
--     with_reference, filled_cell      a page with a reference;  a cell without one, with it again
--     brought, owned_again      the spare that a second body brought;  a reference of which a second body was made, as it was before
--     IsLeafAt, IsPut      where in a list the row of level 1 is that has a page;  a reference came back into its cell
--     IsRefOf, AreRefs      a reference is that of a page of the state, and may stand in a cell again;  each of a list is
--     IsLacking, IsShortCell, IsShort, AreShort      a cell whose reference is at one of these pages of frames or slots;  a cell that agrees with a book but for that;  a row whose cells do;  rows
--     AgreesNow, AreAgreed      a row that agrees with a book;  rows that do
--     IsReturnable      rows that agree but for the references of a kit, which may come back
use Rattle.std.specs.Prelude.{◌≡◌, ℕ, ◌/◌, ◌%◌, ◌<◌, ◌⊎◌, true, List, [], map, length, slice_get, slice_index, slice_index_or, slice_set, Option, Some, None}
use Rattle.std.specs.List.{All, Contains}
use Rattle.corten_base.specs.Body.{PageBody}
use Rattle.corten_base.specs.declared.permissions.Perm.{Perm}
use Rattle.corten_base.specs.declared.calls.Backing.{Backing}
use Rattle.corten_base.specs.declared.calls.Backing.TheVariants as backing
use Rattle.counted_pages.specs.Pages.{CountedPage, PageCounts}
use Rattle.page_map.specs.declared.cell.Cell.{Cell as PageCell}
use Rattle.page_map.specs.Cell.{contents, frame_of, slot_of}
use Rattle.page_map.specs.State.{State, IsConsistent, levels, cell_at}
use Rattle.row_cells.specs.declared.Cell.{Cell}
use Rattle.row_cells.specs.declared.Cell.TheVariants.{Invalid, Table, Anon, File, Mapped, Swapped}
use Rattle.row_table.specs.declared.view.HeldRow.{HeldRow as KnownRow}
use Rattle.table_place.specs.declared.Place.{Place}
use Rattle.tree_lock.specs.Held.{IsInOrder, with_content}
use Rattle.machine_plan.specs.declared.kit.Kit.{Kit}
use Rattle.machine_plan.specs.Agrees.{below, Agrees, HasBytes, IsTableOf, Shows, Spells}
use Rattle.machine_plan.specs.Books.{BookData, state_of}
use Rattle.machine_plan.specs.HeldRows.{Row, AreOf}
use Rattle.machine_plan.specs.Kits.{Refs, Seconds, AreBacked, AreSeconds}
use Rattle.cursor_detach.specs.Left.{came_from}
use Rattle.cursor_apply.specs.declared.putting.Reference.{Reference}
use Rattle.cursor_apply.specs.declared.putting.Reference.TheVariants as reference

abbrev pub with_reference : Perm → Backing → Reference → Cell
with_reference perm origin (reference.Frame frame) = Mapped perm origin frame
with_reference perm origin (reference.Slot slot) = Swapped perm origin slot

abbrev pub filled_cell : Cell → Reference → Cell
filled_cell (Anon perm) r = with_reference perm backing.Zero r
filled_cell (File perm file index) r = with_reference perm (backing.File file index) r
filled_cell Invalid r = Invalid
filled_cell Table r = Table
filled_cell (Mapped perm origin frame) r = Mapped perm origin frame
filled_cell (Swapped perm origin slot) r = Swapped perm origin slot

abbrev pub brought : Option (PageBody × Option (List ℕ)) → Option (List ℕ)
brought None = None
brought (Some second) = second.1

-- with a spare it has its bytes for itself again
abbrev pub owned_again : CountedPage → Option (List ℕ) → CountedPage
owned_again r None = r
owned_again r (Some spare) = record r { body = record { bytes = r.body.bytes; own = true } }

abbrev pub IsLeafOf : Row → ℕ → Type 0
IsLeafOf x page = (x.place.level ≡ 1) × (x.place.prefix ≡ page / 512)

abbrev pub IsLeafAt : List Row → ℕ → Option ℕ → Type 0
IsLeafAt rows page None = (x : Row) → Contains rows x → ¬ IsLeafOf x page
IsLeafAt rows page (Some at) = (at < length rows) × ((d : Row) → IsLeafOf (slice_index_or rows at d) page)

-- the reference is in the cell of its page, where a row of the list has the page
pub record IsFilled (page : ℕ) (r : Reference) (rows rows' : List Row) : Type 0 where
  pub at : ℕ
  pub is_leaf : IsLeafAt rows page (Some at)
  pub row : Row
  pub is_row : (d : Row) → slice_index_or rows at d ≡ row
  pub cell : Cell
  pub there : slice_get row.content (page % 512) ≡ Some cell
  pub now : rows' ≡ with_content rows at (slice_set row.content (page % 512) (filled_cell cell r))

pub record IsPut (page : ℕ) (r : Reference) (rows rows' : List Row) : Type 0 where
  pub order : IsInOrder rows
  pub put : (IsLeafAt rows page None × (rows' ≡ rows)) ⊎ IsFilled page r rows rows'

-- the page has this number and these bytes
pub record IsRefOf (st : State) (space : ℕ) (number_of : PageCell → Option ℕ) (page : ℕ) (r : CountedPage) : Type 0 where
  pub cell : PageCell
  pub there : cell_at st space page ≡ Some cell
  pub carries : number_of cell ≡ Some r.number
  pub bytes : contents [] cell ≡ r.body.bytes

abbrev pub AreRefs : State → ℕ → (PageCell → Option ℕ) → Refs → Type 0
AreRefs st space number_of refs = All (λ r. IsRefOf st space number_of r.0 r.1) refs

-- the references may stand in cells again, or there are second bodies for them
abbrev pub AreBackable : PageCounts → Refs → Seconds → Type 0
AreBackable counts refs seconds = (AreBacked counts refs × (seconds ≡ [])) ⊎ AreSeconds counts refs seconds

abbrev pub IsLacking : List ℕ → List ℕ → Place → Cell → Cell → Type 0
IsLacking frames slots q (Mapped perm origin frame) cell = (cell ≡ came_from origin perm) × Contains frames q.prefix
IsLacking frames slots q (Swapped perm origin slot) cell = (cell ≡ came_from origin perm) × Contains slots q.prefix
IsLacking frames slots q Invalid cell = ⊥
IsLacking frames slots q Table cell = ⊥
IsLacking frames slots q (Anon perm) cell = ⊥
IsLacking frames slots q (File perm file index) cell = ⊥

-- at a position with this word beside the cell
pub record IsShortCell (b : BookData) (frames slots : List ℕ) (q : Place) (word : ℕ) (cell : Cell) : Type 0 where
  pub was : Cell
  pub shows : Shows (state_of b) q was
  pub spells : Spells (state_of b) was word
  pub is : ((cell ≡ was) × HasBytes b was) ⊎ IsLacking frames slots q was cell

-- among the rows that the pass knows
pub record IsShort (b : BookData) (known : List (KnownRow (List Cell))) (frames slots : List ℕ) (x : Row) : Type 0 where
  pub row : KnownRow (List Cell)
  pub held : Contains known row
  pub same_row : row.row ≡ x.row
  pub same_place : row.place ≡ x.place
  pub table : IsTableOf (state_of b) x.place
  pub whole : length x.content ≡ 512
  pub cells : (i : ℕ) (cell : Cell) → i < 512 → slice_get x.content i ≡ Some cell → IsShortCell b frames slots (below (levels (state_of b)) x.place i) (slice_index row.words i) cell

abbrev pub AreShort : BookData → List (KnownRow (List Cell)) → List ℕ → List ℕ → List Row → Type 0
AreShort b known frames slots rows = (x : Row) → Contains rows x → IsShort b known frames slots x

abbrev pub pages_of : Refs → List ℕ
pages_of refs = map (λ r. r.0) refs

-- a row of the pass and of the list that agrees with the book
pub record AgreesNow (b : BookData) (known : List (KnownRow (List Cell))) (x : Row) : Type 0 where
  pub row : KnownRow (List Cell)
  pub held : Contains known row
  pub same_row : row.row ≡ x.row
  pub same_place : row.place ≡ x.place
  pub agrees : Agrees b row.place row.words x.content

abbrev pub AreAgreed : BookData → List (KnownRow (List Cell)) → List Row → Type 0
AreAgreed b known rows = (x : Row) → Contains rows x → AgreesNow b known x

-- Where there is a reference the rows but the directory are of this space.
pub record IsReturnable (b : BookData) (space : ℕ) (known : List (KnownRow (List Cell))) (rows : List Row) (kit : Kit) : Type 0 where
  pub consistent : IsConsistent (state_of b)
  pub frames : AreRefs (state_of b) space frame_of kit.own_frames.items
  pub slots : AreRefs (state_of b) space slot_of kit.own_slots.items
  pub frames_backable : 0 < length kit.own_frames.items → AreBackable b.frames kit.own_frames.items kit.second_frames.items
  pub slots_backable : 0 < length kit.own_slots.items → AreBackable b.slots kit.own_slots.items kit.second_slots.items
  pub frames_of_space : 0 < length kit.own_frames.items → AreOf space rows
  pub slots_of_space : 0 < length kit.own_slots.items → AreOf space rows
  pub short : AreShort b known (pages_of kit.own_frames.items) (pages_of kit.own_slots.items) rows

abbrev pub row_place : Row → ℕ × Place
row_place x = (x.row, x.place)
