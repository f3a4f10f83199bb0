-- Leaves of pages whose frames other pages have too. None has the writing bit.
--     common_leaf, shared_leaf      the leaf of such a page;  by what stands at the page
--     leaf_place      the table of level 1 above a page
--     IsLeafRow      where in a list the row is that has the page
--     IsSharingCell      a cell that agrees with a book but that its reference may be out, and its word may be an old one
--     IsSharingRow, AreSharing      a row with such cells;  the rows of a pass, where some pages of a space lack their words
--     IsFrameAt, AreFramesAt      a page has this frame;  each of a list has its
--     MayShare, Shares      what a call asks that writes such words, and what it makes
use Rattle.std.specs.Prelude.{◌≡◌, ℕ, ◌/◌, ◌<◌, ◌≤◌, ◌⊎◌, false, cond, List, [], ◌++◌, length, slice_get, slice_index, slice_index_or, Option, Some, None}
use Rattle.std.specs.List.{All, Contains}
use Rattle.corten_base.specs.declared.permissions.Perm.{Perm}
use Rattle.page_map.specs.declared.cell.Cell.{Cell as PageCell}
use Rattle.page_map.specs.Cell.{frame_of}
use Rattle.page_map.specs.State.{State, IsConsistent, levels, cell_at}
use Rattle.row_cells.specs.declared.Cell.{Cell}
use Rattle.row_cells.specs.declared.Cell.TheVariants.{Invalid, Table, Anon, File, Mapped, Swapped}
use Rattle.row_table.specs.declared.view.PassView.{PassView}
use Rattle.row_table.specs.declared.view.HeldRow.{HeldRow as KnownRow}
use Rattle.row_table.specs.Moves.{NotInHand}
use Rattle.table_place.specs.declared.Place.{Place}
use Rattle.tree_lock.specs.Release.{HoldsExactly}
use Rattle.walk_core.specs.Words.{is_link, leaf_word}
use Rattle.machine_plan.specs.Agrees.{below, HasBytes, IsTableOf, Shows, Spells}
use Rattle.machine_plan.specs.Books.{BookData, state_of}
use Rattle.machine_plan.specs.Held.{AllGiven}
use Rattle.machine_plan.specs.HeldRows.{Row}
use Rattle.machine_plan.specs.Kits.{Refs}
use Rattle.cursor_detach.specs.Left.{drawn_cell}

abbrev pub common_leaf : Perm → ℕ → ℕ
common_leaf perm frame = cond perm.read (leaf_word frame false perm.exec) 0

abbrev pub shared_leaf : Cell → ℕ → ℕ
shared_leaf Invalid frame = 0
shared_leaf Table frame = 0
shared_leaf (Anon perm) frame = common_leaf perm frame
shared_leaf (File perm file index) frame = common_leaf perm frame
shared_leaf (Mapped perm origin old) frame = common_leaf perm frame
shared_leaf (Swapped perm origin slot) frame = common_leaf perm frame

abbrev pub leaf_place : ℕ → ℕ → Place
leaf_place space page = record { space = space; level = 1; prefix = page / 512 }

abbrev pub IsLeafRow : ℕ → List Row → ℕ → Option ℕ → Type 0
IsLeafRow space rows page None = (x : Row) → Contains rows x → ¬ (x.place ≡ leaf_place space page)
IsLeafRow space rows page (Some at) = (at < length rows) × ((d : Row) → (slice_index_or rows at d).place ≡ leaf_place space page)

-- the word of a page that is still to get its own
pub record IsOldWord (space : ℕ) (to_share : List ℕ) (q : Place) (word : ℕ) : Type 0 where
  pub low : q.level ≡ 0
  pub of_space : q.space ≡ space
  pub listed : Contains to_share q.prefix
  pub no_link : is_link word ≡ false

-- beside: another space, and its pages that are to get their words too
pub record IsSharingCell (b : BookData) (space : ℕ) (to_share : List ℕ) (beside : ℕ × List ℕ) (q : Place) (word : ℕ) (cell : Cell) : Type 0 where
  pub was : Cell
  pub shows : Shows (state_of b) q was
  pub is : ((cell ≡ was) × HasBytes b was) ⊎ (cell ≡ drawn_cell was)
  pub spells : Spells (state_of b) was word ⊎ IsOldWord space to_share q word ⊎ IsOldWord beside.0 beside.1 q word

module _ {B E : Type 0} where
  pub record IsSharingRow (b : BookData) (space : ℕ) (to_share : List ℕ) (beside : ℕ × List ℕ) (v : PassView (List Cell) B E) (x : Row) : Type 0 where
    pub known : KnownRow (List Cell)
    pub held : Contains v.rows known
    pub same_row : known.row ≡ x.row
    pub same_place : known.place ≡ x.place
    pub linked : NotInHand v x.row
    pub table : IsTableOf (state_of b) x.place
    pub whole : length x.content ≡ 512
    pub cells : (i : ℕ) (cell : Cell) → i < 512 → slice_get x.content i ≡ Some cell → IsSharingCell b space to_share beside (below (levels (state_of b)) x.place i) (slice_index known.words i) cell

  -- the rows may be of any spaces
  pub record AreSharing (b : BookData) (space : ℕ) (to_share : List ℕ) (beside : ℕ × List ℕ) (v : PassView (List Cell) B E) (rows : List Row) : Type 0 where
    pub consistent : IsConsistent (state_of b)
    pub few_frames : (state_of b).limits.frames ≤ 4096
    pub exact : HoldsExactly rows v.core.held v.rows
    pub given : AllGiven v
    pub hand : (v.hand ≡ []) × (v.core.granted ≡ [])
    pub each : (x : Row) → Contains rows x → IsSharingRow b space to_share beside v x

pub record IsFrameAt (st : State) (space page frame : ℕ) : Type 0 where
  pub cell : PageCell
  pub there : cell_at st space page ≡ Some cell
  pub carries : frame_of cell ≡ Some frame

abbrev pub AreFramesAt : State → ℕ → Refs → Type 0
AreFramesAt st space refs = All (λ r. IsFrameAt st space r.0 r.1.number) refs

module _ {B E : Type 0} where
  abbrev pub MayShare : ℕ → List ℕ → (BookData → Type 0) → PassView (List Cell) B E → List Row → Type 0
  MayShare space pages AreRight v rows = (b : BookData) × (to_share : List ℕ) × (beside : ℕ × List ℕ) × AreSharing b space (pages ++ to_share) beside v rows × AreRight b

  abbrev pub Shares : ℕ → List ℕ → (BookData → Type 0) → PassView (List Cell) B E → PassView (List Cell) B E → List Row → Type 0
  Shares space pages AreRight v w rows = (b : BookData) (to_share : List ℕ) (beside : ℕ × List ℕ) → AreSharing b space (pages ++ to_share) beside v rows → AreRight b → AreSharing b space to_share beside w rows
