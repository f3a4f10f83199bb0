-- The cover of a zone by the links that stand in the words of a table.
--     Links      an entry of a row links another row
--     IsBelowIn, IsBelow      so many links and one more lead from a row to another;  some links do
--     IsTopRow      of the rows that links from row 0 reach, a lowest one whose span may cover the zone
--     IsInCover      a row of the cover of the zone
--     HasOneTop, IsAbsent      one row is the top;  a space that has no tables
--     ShowsCover      the pass's view tells that it covers the zone
--     HoldsCover      the pass holds each row of the cover
--     ShownAreHeld      a pass whose view tells that it covers a zone holds the rows of the cover and no others
--     ListsAreCovers      a list of all rows that a pass holds, whose view tells that it covers a zone, has the rows of the cover
--     CoversAreApart      the covers that two passes hold are of zones without a common page
--     cover_part, CoverStays      what a cover says of a row;  rows with the same parts are covers of the same zones
--     GivenStays      so are the rows of a pass once it gave the book
use Rattle.std.specs.Prelude.{◌≡◌, ◌≢◌, ℕ, zero, suc, ◌<◌, ◌≤◌, ◌⊎◌, ◌↔◌, true, false, List, map, slice_index}
use Rattle.std.specs.List.{Contains}
use Rattle.table_place.specs.declared.Place.{Place}
use Rattle.walk_core.specs.Words.{entry_at, is_link, link_row}
use Rattle.walk_core.specs.Lists.{Has}
use Rattle.row_table.specs.declared.view.PassView.{PassView}
use Rattle.row_table.specs.declared.view.HeldRow.{HeldRow as KnownRow}
use Rattle.row_table.specs.Rows.{place_at}
use Rattle.row_layout.specs.declared.places.Layout.{Layout}
use Rattle.row_table.specs.Rule.{Table}
use Rattle.row_table.specs.Close.{IsReached}
use Rattle.row_table.specs.Books.{given}
use Rattle.tree_lock.specs.declared.zone.Zone.{Zone}
use Rattle.tree_lock.specs.declared.zone.Zone.TheVariants.{Pages, Space, Directory}
use Rattle.tree_lock.specs.declared.held.HeldRow.{HeldRow}
use Rattle.tree_lock.specs.Held.{row_numbers}
use Rattle.tree_lock.specs.Zone.{ZoneHas, IsZone, Meets, Spans}
use Rattle.tree_lock.specs.Covers.{CoversZone, AreInTree, IsListOf}

pub record Links (words : List ℕ) (row child : ℕ) : Type 0 where
  pub index : ℕ
  pub inside : index < 512
  pub link : is_link (slice_index words (entry_at row index)) ≡ true
  pub to_row : link_row (slice_index words (entry_at row index)) ≡ child

abbrev pub IsBelowIn : List ℕ → ℕ → ℕ → ℕ → Type 0
IsBelowIn words zero row below = Links words row below
IsBelowIn words (suc n) row below = (between : ℕ) × IsBelowIn words n row between × Links words between below

abbrev pub IsBelow : List ℕ → ℕ → ℕ → Type 0
IsBelow words row below = (n : ℕ) × IsBelowIn words n row below

pub record IsTopRow (zone : Zone) (words : List ℕ) (row : ℕ) : Type 0 where
  pub reached : IsReached words row
  pub spans : Spans zone (place_at words row)
  pub lowest : (r : ℕ) → IsReached words r → Spans zone (place_at words r) → (place_at words row).level ≤ (place_at words r).level

-- for pages the top and the rows below it that the zone meets, for a space row 0 and the space's rows
abbrev pub IsInCover : Zone → List ℕ → ℕ → Type 0
IsInCover (Pages s f c b) words row = (top : ℕ) × IsTopRow (Pages s f c b) words top × ((row ≡ top) ⊎ (IsBelow words top row × Meets (Pages s f c b) (place_at words row)))
IsInCover (Space s) words row = (row ≡ 0) ⊎ (IsReached words row × ((place_at words row).space ≡ s))
IsInCover Directory words row = row ≡ 0

pub record HasOneTop (zone : Zone) (words : List ℕ) : Type 0 where
  pub top : ℕ
  pub is_top : IsTopRow zone words top
  pub only : (row : ℕ) → IsTopRow zone words row → row ≡ top

-- row 0 links no root of the space
abbrev pub IsAbsent : List ℕ → ℕ → Type 0
IsAbsent words space = is_link (slice_index words (entry_at 0 space)) ≡ false

module _ {R B E : Type 0} (k : Layout) where
  pub record ShowsCover (zone : Zone) (v : PassView R B E) : Type 0 where
    pub is_zone : IsZone k.levels zone
    pub covers : CoversZone k.levels k.rows zone v.rows
    pub in_tree : AreInTree v

  pub record HoldsCover (zone : Zone) (words : List ℕ) (v : PassView R B E) : Type 0 where
    pub is_zone : IsZone k.levels zone
    pub all : (row : ℕ) → IsInCover zone words row → Has v.core.held row

  abbrev pub ShownAreHeld : Table R B E → Type 0
  ShownAreHeld s = (seat : List (PassView R B E)) → Contains s.views seat → (v : PassView R B E) → Contains seat v
      → (zone : Zone) → ShowsCover zone v → (row : ℕ) → Has v.core.held row ↔ IsInCover zone s.words row

  abbrev pub ListsAreCovers : Table R B E → Type 0
  ListsAreCovers s = (seat : List (PassView R B E)) → Contains s.views seat → (v : PassView R B E) → Contains seat v
      → (zone : Zone) → ShowsCover zone v
      → (xs : List (HeldRow R)) → IsListOf v.core.held v.rows xs → (row : ℕ) → Has (row_numbers xs) row ↔ IsInCover zone s.words row

  abbrev pub CoversAreApart : Table R B E → Type 0
  CoversAreApart s = (one other : List (PassView R B E)) → Contains s.views one → Contains s.views other → (u v : PassView R B E) → Contains one u → Contains other v → u.number ≢ v.number
      → (y z : Zone) → HoldsCover y s.words u → HoldsCover z s.words v → (space page : ℕ) → ZoneHas y space page → ¬ ZoneHas z space page

-- its number, its position and its entry words
abbrev pub cover_part : {R : Type 0} → KnownRow R → ℕ × Place × List ℕ
cover_part h = (h.row, h.place, h.words)

abbrev pub CoverStays : (R : Type 0) → Type 0
CoverStays R = (levels count : ℕ) (zone : Zone) (old new : List (KnownRow R)) → map cover_part new ≡ map cover_part old → CoversZone levels count zone old → CoversZone levels count zone new

abbrev pub GivenStays : (R : Type 0) → Type 0
GivenStays R = (levels count : ℕ) (zone : Zone) (rows : List (KnownRow R)) → CoversZone levels count zone rows → CoversZone levels count zone (map given rows)
