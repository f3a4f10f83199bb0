-- The cover of a zone, where page tables have so many levels: of the rows that a pass holds. It is the same for each view with these rows.
--     IsLowest, IsTop      no link of a row leads on to a row that may cover the zone;  a row is the top of the zone's cover
--     HoldsAt      one of the rows is at this position
--     LinksHeld      each link of a row to a position that the zone meets leads to one of the rows
--     LinkedBy      one of the rows links the row at an entry whose position the zone meets
--     IsOfCover      what is true of each row of a cover, whose top this is
--     CoversZone      the rows are the cover of the zone
--     AreInTree      the rows that a pass holds are in the tree of links
--     IsListed, IsListOf      a row of a list is one of the rows, in which nothing was changed;  a list of all rows that the pass holds
use Rattle.std.specs.Prelude.{◌≡◌, ◌≢◌, ℕ, ◌<◌, ◌≤◌, true, false, List, slice_index, Some}
use Rattle.std.specs.List.{Contains}
use Rattle.table_place.specs.declared.Place.{Place}
use Rattle.table_place.specs.Place.{directory, entry_place}
use Rattle.walk_core.specs.Words.{is_link, link_row}
use Rattle.row_table.specs.declared.view.PassView.{PassView}
use Rattle.row_table.specs.declared.view.HeldRow.{HeldRow as KnownRow}
use Rattle.row_table.specs.Known.{IsPlaced}
use Rattle.row_table.specs.Moves.{NotInHand}
use Rattle.tree_lock.specs.declared.zone.Zone.{Zone}
use Rattle.tree_lock.specs.declared.zone.Zone.TheVariants.{Pages, Space, Directory}
use Rattle.tree_lock.specs.declared.held.HeldRow.{HeldRow}
use Rattle.tree_lock.specs.Release.{HoldsExactly}
use Rattle.tree_lock.specs.Zone.{IsMet, Meets, Spans}

module _ {R : Type 0} (levels : ℕ) where
  abbrev pub IsLowest : Zone → KnownRow R → Type 0
  IsLowest zone h = (index : ℕ) → index < 512 → Spans zone (entry_place levels h.place index) → is_link (slice_index h.words index) ≡ false

  abbrev pub IsTop : Zone → KnownRow R → Type 0
  IsTop (Pages s f c b) h = Spans (Pages s f c b) h.place × IsLowest (Pages s f c b) h
  IsTop (Space s) h = (h.row ≡ 0) × (h.place ≡ directory)
  IsTop Directory h = (h.row ≡ 0) × (h.place ≡ directory)

module _ {R : Type 0} where
  pub record HoldsAt (rows : List (KnownRow R)) (row : ℕ) (place : Place) : Type 0 where
    pub known : KnownRow R
    pub held : Contains rows known
    pub same_row : known.row ≡ row
    pub same_place : known.place ≡ place

  -- the row's position, its generation word, and the content that its grab found
  pub record IsListed (rows : List (KnownRow R)) (x : HeldRow R) : Type 0 where
    pub known : KnownRow R
    pub held : Contains rows known
    pub same_row : known.row ≡ x.row
    pub same_place : known.place ≡ x.place
    pub same_generation : known.generation ≡ x.generation
    pub found : known.found ≡ Some x.content
    pub not_given : known.is_given ≡ false
    pub same_words : known.words ≡ known.words_found

  -- of a pass that holds the rows of these numbers
  pub record IsListOf (numbers : List ℕ) (rows : List (KnownRow R)) (xs : List (HeldRow R)) : Type 0 where
    pub exact : HoldsExactly xs numbers rows
    pub each : (x : HeldRow R) → Contains xs x → IsListed rows x

module _ {R : Type 0} (levels : ℕ) where
  abbrev pub LinksHeld : Zone → List (KnownRow R) → KnownRow R → Type 0
  LinksHeld zone rows h = (index : ℕ) → index < 512 → is_link (slice_index h.words index) ≡ true → Meets zone (entry_place levels h.place index)
      → HoldsAt rows (link_row (slice_index h.words index)) (entry_place levels h.place index)

  pub record LinkedBy (zone : Zone) (rows : List (KnownRow R)) (row : ℕ) (place : Place) : Type 0 where
    pub linker : KnownRow R
    pub held : Contains rows linker
    pub index : ℕ
    pub inside : index < 512
    pub link : is_link (slice_index linker.words index) ≡ true
    pub to_row : link_row (slice_index linker.words index) ≡ row
    pub is_below : place ≡ entry_place levels linker.place index
    pub meets : Meets zone place

  module _ (count : ℕ) where
    -- one of so many rows of the table, and at a position that the zone meets, or the directory's; row 0 is the directory, and no other row
    pub record IsOfCover (zone : Zone) (top h : KnownRow R) : Type 0 where
      pub there : h.row < count
      pub placed : IsPlaced levels h.row h.place
      pub met : IsMet levels zone h.place
      pub level : h.place.level ≤ top.place.level

    pub record CoversZone (zone : Zone) (rows : List (KnownRow R)) : Type 0 where
      pub top : KnownRow R
      pub held : Contains rows top
      pub is_top : IsTop levels zone top
      pub each : (h : KnownRow R) → Contains rows h → IsOfCover zone top h
      pub links : (h : KnownRow R) → Contains rows h → LinksHeld zone rows h
      pub linked : (h : KnownRow R) → Contains rows h → h.row ≢ top.row → LinkedBy zone rows h.row h.place

module _ {R B E : Type 0} where
  abbrev pub AreInTree : PassView R B E → Type 0
  AreInTree v = (h : KnownRow R) → Contains v.rows h → NotInHand v h.row
