-- What a pass knows of rows by what it stands on and holds.
--     AreWhole      each held row has 512 entry words
--     LinksRow      a held row has an entry that links the row
--     IsKnownPlace, IsKnownGeneration      where a row is and what generation it has, as far as the pass knows
--     IsHolder, IsAnother, IsLoose      which pass holds a row, another pass, and a row that nobody may take
--     LinksBelow, LinksLead      the rows that entry words link are there, and at positions of tables
--     LinksDown      no entry word links row 0
--     IsPlaced      row 0 is the directory, and any other row is at the position of a table
--     IsRight      what is always true of what a pass knows
--     IsCounted      an epoch number is odd where the pass is inside, and has not gone past its end
--     HasPlaces      samples have a place for each pass
--     IsSized      what a pass keeps of the sizes of its table and of the rows of its view
use Rattle.std.specs.Prelude.{◌≡◌, ◌≢◌, ℕ, ◌+◌, ◌%◌, ◌^◌, ◌<◌, ◌≤◌, ◌⊎◌, true, List, map, length, slice_index, Option, Some}
use Rattle.std.specs.List.{Contains}
use Rattle.atomic_table.specs.Seated.{TableId}
use Rattle.table_place.specs.declared.Place.{Place}
use Rattle.table_place.specs.Place.{directory, entry_place, is_place}
use Rattle.walk_core.specs.declared.pass.SampleBounds.{SampleBounds}
use Rattle.walk_core.specs.declared.pass.Stand.{Stand}
use Rattle.walk_core.specs.declared.pass.UnlinkedRow.{UnlinkedRow}
use Rattle.walk_core.specs.Words.{is_link, link_row, link_generation}
use Rattle.walk_core.specs.Lists.{Has, IsDistinct}
use Rattle.walk_core.specs.Core.{granted_rows}
use Rattle.walk_core.specs.Good.{inside as inside_now}
use Rattle.row_layout.specs.Places.{word_count}
use Rattle.row_table.specs.declared.view.PassView.{PassView}
use Rattle.row_table.specs.declared.view.HeldRow.{HeldRow}
use Rattle.row_table.specs.Rule.{row_part, hand_part}

-- so many enters and leaves are counted, and the pass has this stand
pub record IsCounted (epoch : ℕ) (stand : Option Stand) : Type 0 where
  pub parity : epoch % 2 ≡ inside_now stand
  pub bounded : epoch ≤ 2 ^ 62

-- where there are so many rows
abbrev pub LinksBelow : ℕ → List ℕ → Type 0
LinksBelow rows words = (index : ℕ) → index < 512 → is_link (slice_index words index) ≡ true → link_row (slice_index words index) < rows

-- where there are so many levels: the links of a row at this position lead to positions of tables
abbrev pub LinksLead : ℕ → Place → List ℕ → Type 0
LinksLead levels place words = (index : ℕ) → index < 512 → is_link (slice_index words index) ≡ true → is_place levels (entry_place levels place index) ≡ true

abbrev pub LinksDown : List ℕ → Type 0
LinksDown words = (index : ℕ) → index < 512 → is_link (slice_index words index) ≡ true → link_row (slice_index words index) ≢ 0

-- of a row in the tree, where there are so many levels
abbrev pub IsPlaced : ℕ → ℕ → Place → Type 0
IsPlaced levels row place = ((row ≡ 0) × (place ≡ directory)) ⊎ ((row ≢ 0) × (is_place levels place ≡ true))

-- the samples since the turn and those of each row that was unlinked have a place for each pass
abbrev pub HasPlaces : List (Option SampleBounds) → List UnlinkedRow → Type 0
HasPlaces samples unlinked = (length samples ≡ 8) × ((u : UnlinkedRow) → Contains unlinked u → length u.samples ≡ 8)

module _ {R B E : Type 0} where
  -- There are four or five levels. The rows of the view are those that the pass holds, each once and with 512 entry words, and those of its hand the ones that it was granted. Its epoch is odd where it is inside.
  pub record IsRight (v : PassView R B E) : Type 0 where
    pub levels : (4 ≤ v.layout.levels) × (v.layout.levels ≤ 5)
    pub number : v.number < v.layout.passes
    pub rows : map row_part v.rows ≡ v.core.held
    pub once : IsDistinct v.core.held
    pub long : (h : HeldRow R) → Contains v.rows h → length h.words ≡ 512
    pub hand : map hand_part v.hand ≡ granted_rows v.core
    pub parity : v.epoch % 2 ≡ inside_now v.core.stand
    pub bounded : v.epoch ≤ 2 ^ 62

  abbrev pub AreWhole : PassView R B E → Type 0
  AreWhole v = (h : HeldRow R) → Contains v.rows h → length h.words ≡ 512

  pub record LinksRow (v : PassView R B E) (row : ℕ) : Type 0 where
    pub linker : HeldRow R
    pub held : Contains v.rows linker
    pub index : ℕ
    pub inside : index < 512
    pub link : is_link (slice_index linker.words index) ≡ true
    pub to_row : link_row (slice_index linker.words index) ≡ row

  -- the place of the stand on the row, of the held row, and of the entry of a held row that links it
  pub record IsKnownPlace (v : PassView R B E) (row : ℕ) (place : Place) : Type 0 where
    pub of_stand : (s : Stand) → v.core.stand ≡ Some s → s.row ≡ row → place ≡ s.place
    pub of_held : (h : HeldRow R) → Contains v.rows h → h.row ≡ row → place ≡ h.place
    pub of_entry : (l : LinksRow v row) → place ≡ entry_place v.layout.levels l.linker.place l.index

  -- the generation of the stand on the row, of the held row, and in the entry of a held row that links it
  pub record IsKnownGeneration (v : PassView R B E) (row generation : ℕ) : Type 0 where
    pub of_stand : (s : Stand) → v.core.stand ≡ Some s → s.row ≡ row → generation ≡ s.generation
    pub of_held : (h : HeldRow R) → Contains v.rows h → h.row ≡ row → generation ≡ h.generation
    pub of_entry : (l : LinksRow v row) → generation ≡ link_generation (slice_index l.linker.words l.index)

  -- the pass s holds the row: it is the pass itself where that holds the row, and else another one
  pub record IsHolder (v : PassView R B E) (row s : ℕ) : Type 0 where
    pub there : s < v.layout.passes
    pub own : Has v.core.held row → s ≡ v.number
    pub other : (s ≢ v.number) ⊎ Has v.core.held row

  -- the pass is there, and is not this one
  pub record IsAnother (v : PassView R B E) (s : ℕ) : Type 0 where
    pub there : s < v.layout.passes
    pub other : s ≢ v.number

  -- the row is not row 0, the pass does not hold it, and no row that it holds links it
  pub record IsLoose (v : PassView R B E) (row : ℕ) : Type 0 where
    pub not_root : row ≢ 0
    pub not_held : ¬ Has v.core.held row
    pub unlinked : ¬ LinksRow v row

  -- the pass n of a table with so many rows, whose epoch word has this number: the rows of its view are those that it holds, and the rows that it stands on, that held rows link and that it was granted are there
  pub record IsSized (n rows epoch : ℕ) (id : TableId) (v : PassView R B E) : Type 0 where
    pub slots : id.slots ≡ rows + 1
    pub words : id.words ≡ word_count v.layout
    pub rows_are : rows ≡ v.layout.rows
    pub number : n < v.layout.passes
    pub same_epoch : v.epoch ≡ epoch
    pub counted : IsCounted v.epoch v.core.stand
    pub held_rows : map row_part v.rows ≡ v.core.held
    pub long : (h : HeldRow R) → Contains v.rows h → length h.words ≡ 512
    pub stand : (s : Stand) → v.core.stand ≡ Some s → s.row < rows
    pub links : (h : HeldRow R) → Contains v.rows h → LinksBelow rows h.words
    -- the rows of its hand are those that it was granted, and are there
    pub granted : (map hand_part v.hand ≡ granted_rows v.core) × ((r : ℕ) → Has (granted_rows v.core) r → r < rows)
    pub places : HasPlaces v.core.samples v.core.unlinked
