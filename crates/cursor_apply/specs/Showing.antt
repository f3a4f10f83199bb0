-- Words of pages whose references are in the kit, before the references come into their cells.
--     own_leaf, sole_leaf      the leaf of a page whose frame no other page has;  by what stands at the page
--     IsLeafNow      such a leaf where it has to be, and else one that the state allows
--     IsWholeCell, IsDrawnCell, IsWritableCell      a cell that agrees with a book;  one whose reference is in the kit;  either
--     IsWritableRow, AreWritable      a row with such cells;  the rows of a pass, some of whose pages lack their words
--     IsSoleAt, AreSole      a page has a frame that no other page has;  each of a list has
--     IsSlotAt, AreSlots      a page is in swap;  each of a list is
--     own_pages      the pages that keep their frames, where the call writes
--     MayShow, Shows, MayHide, Hides      what a call that writes such words asks and makes
use Rattle.std.specs.Prelude.{◌≡◌, ℕ, ◌<◌, ◌≤◌, ◌⊎◌, Bool, true, false, cond, List, [], ◌++◌, length, slice_get, slice_index, Some, None}
use Rattle.std.specs.List.{All, Contains}
use Rattle.corten_base.specs.declared.permissions.Perm.{Perm}
use Rattle.corten_base.specs.declared.calls.Call.{Call}
use Rattle.page_map.specs.declared.cell.Cell.{Cell as PageCell}
use Rattle.page_map.specs.declared.cell.Cell.TheVariants as page
use Rattle.page_map.specs.Cell.{backing_of, frame_of, perm_of, slot_of}
use Rattle.page_map.specs.State.{State, IsConsistent, levels, cell_at, frame_owners}
use Rattle.row_cells.specs.declared.Cell.{Cell}
use Rattle.row_cells.specs.declared.Cell.TheVariants.{Invalid, Table, Anon, File, Mapped, Swapped}
use Rattle.row_table.specs.declared.view.PassView.{PassView}
use Rattle.row_table.specs.declared.view.HeldRow.{HeldRow as KnownRow}
use Rattle.row_table.specs.Moves.{NotInHand}
use Rattle.table_place.specs.declared.Place.{Place}
use Rattle.tree_lock.specs.Release.{HoldsExactly}
use Rattle.walk_core.specs.Words.{is_link, leaf_word, leaf_write}
use Rattle.machine_plan.specs.Agrees.{below, HasBytes, IsLeafOf, IsNoTable, IsTableOf, Shows as Says, Spells}
use Rattle.machine_plan.specs.Books.{BookData, state_of}
use Rattle.machine_plan.specs.Held.{AllGiven}
use Rattle.machine_plan.specs.HeldRows.{Row, AreOf}
use Rattle.machine_plan.specs.Kits.{Refs}
use Rattle.machine_plan.specs.Uses.{uses_page}
use Rattle.cursor_detach.specs.Left.{came_from}
use Rattle.cursor_apply.specs.Applying.{is_store}
use Rattle.cursor_apply.specs.Putting.{pages_of}

abbrev pub own_leaf : Perm → ℕ → ℕ
own_leaf perm frame = cond perm.read (leaf_word frame perm.write perm.exec) 0

abbrev pub sole_leaf : Cell → ℕ → ℕ
sole_leaf Invalid frame = 0
sole_leaf Table frame = 0
sole_leaf (Anon perm) frame = own_leaf perm frame
sole_leaf (File perm file index) frame = own_leaf perm frame
sole_leaf (Mapped perm origin old) frame = own_leaf perm frame
sole_leaf (Swapped perm origin slot) frame = own_leaf perm frame

-- where the call writes, the leaf has the writing bit if its page may be read and written
pub record IsLeafNow (st : State) (c : Call) (perm : Perm) (frame word : ℕ) : Type 0 where
  pub leaf : IsLeafOf st perm frame word
  pub full : is_store c ≡ true → perm.read ≡ true → perm.write ≡ true → leaf_write word ≡ true

-- the reference of the page is at one of these pages of frames or slots
abbrev pub IsListed : Call → List ℕ → List ℕ → Place → PageCell → Type 0
IsListed c frames slots q (page.Mapped perm origin frame bytes) = Contains frames q.prefix
IsListed c frames slots q (page.Swapped perm origin slot bytes) = Contains slots q.prefix × (is_store c ≡ false)
IsListed c frames slots q (page.Anon perm) = ⊥
IsListed c frames slots q (page.File perm file index) = ⊥

-- the word is that of the page, or the page is one of these, whose words are still to be written
abbrev pub HasWord : State → Call → List ℕ → List ℕ → Place → ℕ → PageCell → Type 0
HasWord st c frames slots q word (page.Mapped perm origin frame bytes) = IsLeafNow st c perm frame word ⊎ ((is_link word ≡ false) × Contains frames q.prefix)
HasWord st c frames slots q word (page.Swapped perm origin slot bytes) = (word ≡ 0) ⊎ ((is_link word ≡ false) × Contains slots q.prefix)
HasWord st c frames slots q word (page.Anon perm) = ⊥
HasWord st c frames slots q word (page.File perm file index) = ⊥

-- where the call writes, nothing stands at such a page that it uses
pub record IsWholeCell (b : BookData) (thread : ℕ) (c : Call) (q : Place) (word : ℕ) (cell : Cell) : Type 0 where
  pub shows : Says (state_of b) q cell
  pub spells : Spells (state_of b) cell word
  pub bytes : HasBytes b cell
  pub unused : is_store c ≡ true → q.level ≡ 0 → uses_page (state_of b) thread c q.space q.prefix ≡ true → cell_at (state_of b) q.space q.prefix ≡ None

-- frames, slots: the pages of the kit's references; to_show, to_hide: those whose words are still to be written
pub record IsDrawnCell (b : BookData) (c : Call) (frames slots to_show to_hide : List ℕ) (q : Place) (word : ℕ) (cell : Cell) : Type 0 where
  pub page : PageCell
  pub lone : IsNoTable (state_of b) q
  pub low : q.level ≡ 0
  pub there : cell_at (state_of b) q.space q.prefix ≡ Some page
  pub is : cell ≡ came_from (backing_of page) (perm_of page)
  pub listed : IsListed c frames slots q page
  pub has_word : HasWord (state_of b) c to_show to_hide q word page

abbrev pub IsWritableCell : BookData → ℕ → Call → List ℕ → List ℕ → List ℕ → List ℕ → Place → ℕ → Cell → Type 0
IsWritableCell b thread c frames slots to_show to_hide q word cell = IsWholeCell b thread c q word cell ⊎ IsDrawnCell b c frames slots to_show to_hide q word cell

module _ {B E : Type 0} where
  pub record IsWritableRow (b : BookData) (thread : ℕ) (c : Call) (frames slots to_show to_hide : List ℕ) (v : PassView (List Cell) B E) (x : Row) : Type 0 where
    pub known : KnownRow (List Cell)
    pub held : Contains v.rows known
    pub same_row : known.row ≡ x.row
    pub same_place : known.place ≡ x.place
    pub linked : NotInHand v x.row
    pub table : IsTableOf (state_of b) x.place
    pub whole : length x.content ≡ 512
    pub cells : (i : ℕ) (cell : Cell) → i < 512 → slice_get x.content i ≡ Some cell
        → IsWritableCell b thread c frames slots to_show to_hide (below (levels (state_of b)) x.place i) (slice_index known.words i) cell

  pub record AreWritable (b : BookData) (thread : ℕ) (c : Call) (space : ℕ) (frames slots to_show to_hide : List ℕ) (v : PassView (List Cell) B E) (rows : List Row) : Type 0 where
    pub consistent : IsConsistent (state_of b)
    pub few_frames : (state_of b).limits.frames ≤ 4096
    pub of_space : AreOf space rows
    pub exact : HoldsExactly rows v.core.held v.rows
    pub given : AllGiven v
    pub hand : (v.hand ≡ []) × (v.core.granted ≡ [])
    pub each : (x : Row) → Contains rows x → IsWritableRow b thread c frames slots to_show to_hide v x

-- so a leaf that shows it may have the writing bit
pub record IsSoleAt (st : State) (space page frame : ℕ) : Type 0 where
  pub cell : PageCell
  pub there : cell_at st space page ≡ Some cell
  pub carries : frame_of cell ≡ Some frame
  pub one : frame_owners st frame ≡ 1

abbrev pub AreSole : State → ℕ → Refs → Type 0
AreSole st space refs = All (λ r. IsSoleAt st space r.0 r.1.number) refs

-- so no leaf stands for it
pub record IsSlotAt (st : State) (space page : ℕ) : Type 0 where
  pub cell : PageCell
  pub there : cell_at st space page ≡ Some cell
  pub slot : ℕ
  pub carries : slot_of cell ≡ Some slot

abbrev pub AreSlots : State → ℕ → Refs → Type 0
AreSlots st space refs = All (λ r. IsSlotAt st space r.0) refs

abbrev pub own_pages : Bool → Refs → List ℕ
own_pages writes refs = cond writes (pages_of refs) []

module _ {B E : Type 0} where
  -- The words of these pages are to be written into rows of some book, and the pages are as they have to be.
  abbrev pub MayShow : List ℕ → (BookData → ℕ → Type 0) → PassView (List Cell) B E → List Row → Type 0
  MayShow pages AreRight v rows = (b : BookData) × (thread : ℕ) × (c : Call) × (space : ℕ) × (frames : List ℕ) × (slots : List ℕ) × (to_show : List ℕ) × (to_hide : List ℕ)
      × AreWritable b thread c space frames slots (pages ++ to_show) to_hide v rows × AreRight b space

  abbrev pub MayHide : List ℕ → (BookData → ℕ → Type 0) → PassView (List Cell) B E → List Row → Type 0
  MayHide pages AreRight v rows = (b : BookData) × (thread : ℕ) × (c : Call) × (space : ℕ) × (frames : List ℕ) × (slots : List ℕ) × (to_show : List ℕ) × (to_hide : List ℕ)
      × AreWritable b thread c space frames slots to_show (pages ++ to_hide) v rows × AreRight b space

  -- They are written.
  abbrev pub Shows : List ℕ → (BookData → ℕ → Type 0) → PassView (List Cell) B E → PassView (List Cell) B E → List Row → Type 0
  Shows pages AreRight v w rows = (b : BookData) (thread : ℕ) (c : Call) (space : ℕ) (frames slots to_show to_hide : List ℕ)
      → AreWritable b thread c space frames slots (pages ++ to_show) to_hide v rows → AreRight b space → AreWritable b thread c space frames slots to_show to_hide w rows

  abbrev pub Hides : List ℕ → (BookData → ℕ → Type 0) → PassView (List Cell) B E → PassView (List Cell) B E → List Row → Type 0
  Hides pages AreRight v w rows = (b : BookData) (thread : ℕ) (c : Call) (space : ℕ) (frames slots to_show to_hide : List ℕ)
      → AreWritable b thread c space frames slots to_show (pages ++ to_hide) v rows → AreRight b space → AreWritable b thread c space frames slots to_show to_hide w rows
