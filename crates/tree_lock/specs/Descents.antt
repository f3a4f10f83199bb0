-- What the functions of the descent ask and do.
--     IsFromTop      a zone that is no range of pages is covered from row 0 on
--     IsOver      the row of a stand may cover the zone
--     Stands, HasLevels      a pass that stands there and holds nothing;  a pass of a table with so many levels
--     has_looked, Saw      the pass after it read an entry of the row of a stand;  an entry of it was seen without a link
--     LooksOn      a look at an entry of the row of a stand, which a link leads on
--     IsShown, Shows      what is found at the entry below which a strict zone is a whole span
--     IsGot, IsMissed, IsTopOf      what a descent comes to
--     IsLastOf      the same where a link may have appeared
use Rattle.std.specs.Prelude.{◌≡◌, ℕ, ◌<◌, true, false, List, [], ◌∷◌, ◌++◌, slice_index, Option, None, Some}
use Rattle.std.specs.List.{Contains}
use Rattle.table_place.specs.declared.Place.{Place}
use Rattle.table_place.specs.Place.{directory, is_place, entry_place}
use Rattle.walk_core.specs.declared.pass.Stand.{Stand}
use Rattle.walk_core.specs.Words.{is_link, held_by, stale}
use Rattle.row_table.specs.declared.view.PassView.{PassView}
use Rattle.row_table.specs.declared.view.HeldRow.{HeldRow as KnownRow}
use Rattle.row_table.specs.Known.{IsAnother, IsPlaced}
use Rattle.row_table.specs.Moves.{finding, NotInHand}
use Rattle.tree_lock.specs.declared.zone.Zone.{Zone}
use Rattle.tree_lock.specs.declared.zone.Zone.TheVariants.{Pages, Space, Directory}
use Rattle.tree_lock.specs.declared.held.HeldRow.{HeldRow}
use Rattle.tree_lock.specs.declared.ways.Way.{Way}
use Rattle.tree_lock.specs.declared.ways.Way.TheVariants.{Down, Just, Here}
use Rattle.row_table.specs.declared.view.Finding.{Finding}
use Rattle.tree_lock.specs.declared.descent.Top.{Top}
use Rattle.tree_lock.specs.declared.descent.Top.TheVariants.{Got, Busy, Stale}
use Rattle.tree_lock.specs.declared.descent.Last.{Last}
use Rattle.tree_lock.specs.declared.descent.Last.TheVariants.{End, On}
use Rattle.tree_lock.specs.Zone.{Spans, IsTable}
use Rattle.tree_lock.specs.Reached.{LastGrab, IsReached, IsGrabbed}
use Rattle.tree_lock.specs.Covers.{IsTop, IsListed}
use Rattle.tree_lock.specs.Tries.{IsPages}

abbrev pub IsFromTop : Zone → ℕ → Place → Type 0
IsFromTop (Pages s f c b) row place = Unit {0}
IsFromTop (Space s) row place = (row ≡ 0) × (place ≡ directory)
IsFromTop Directory row place = (row ≡ 0) × (place ≡ directory)

pub record IsOver (levels : ℕ) (zone : Zone) (row : ℕ) (place : Place) : Type 0 where
  pub few : levels < 6
  pub table : IsTable levels place
  pub spans : Spans zone place
  pub from_top : IsFromTop zone row place

abbrev pub IsShown : Way → Stand → List Finding → Type 0
IsShown (Down index) at after = after ≡ []
IsShown (Just index) at after = (word : ℕ) × (after ≡ finding at.row at.place (Some index) word ∷ [])
IsShown Here at after = after ≡ []

module _ {R B E : Type 0} where
  pub record Stands (v : PassView R B E) (at : Stand) : Type 0 where
    pub on : v.core.stand ≡ Some at
    pub holds_none : v.core.held ≡ []
    pub no_rows : v.rows ≡ []

  abbrev pub has_looked : PassView R B E → Stand → ℕ → ℕ → Option Stand → PassView R B E
  has_looked v at index word stand = record v { core = record v.core { stand = stand }; findings = v.findings ++ finding at.row at.place (Some index) word ∷ [] }

  pub record Saw (v : PassView R B E) (at : Stand) (index : ℕ) : Type 0 where
    pub word : ℕ
    pub look : Contains v.findings (finding at.row at.place (Some index) word)
    pub none : is_link word ≡ false

  abbrev pub Shows : Way → Stand → PassView R B E → PassView R B E → Type 0
  Shows way at v w = (after : List Finding) × IsShown way at after × ((s : Stand) × (w ≡ record v { core = record v.core { stand = Some s }; findings = v.findings ++ after }))

  -- the levels of the pass's table
  abbrev pub HasLevels : ℕ → PassView R B E → Type 0
  HasLevels levels v = (levels < 6) × (v.layout.levels ≡ levels)

module _ {R B E : Type 0} (levels : ℕ) where
  abbrev pub LooksOn : PassView R B E → Stand → ℕ → Option Stand → PassView R B E → Type 0
  LooksOn v at index None w = (word : ℕ) × (w ≡ has_looked v at index word (Some at)) × (is_link word ≡ false) × ((h : KnownRow R) → Contains v.rows h → h.row ≡ at.row → word ≡ slice_index h.words index)
  LooksOn v at index (Some next) w = (word : ℕ) × (w ≡ has_looked v at index word (Some next)) × (next.place ≡ entry_place levels at.place index) × (is_place levels next.place ≡ true)

  -- the only row that the pass holds
  pub record IsGot (zone : Zone) (w : PassView R B E) (x : HeldRow R) : Type 0 where
    pub only : KnownRow R
    pub rows : w.rows ≡ only ∷ []
    pub held : w.core.held ≡ only.row ∷ []
    pub same_row : only.row ≡ x.row
    pub same_place : only.place ≡ x.place
    pub listed : IsListed w.rows x
    pub in_tree : NotInHand w x.row
    pub is_top : IsTop levels zone only
    pub over : IsOver levels zone x.row x.place
    pub there : x.row < w.layout.rows
    pub placed : IsPlaced levels x.row x.place
    pub reached : IsReached levels zone w.findings x.row x.place
    pub grabbed : IsGrabbed w.findings x.row x.place

  pub record IsMissed (zone : Zone) (w : PassView R B E) (row word : ℕ) : Type 0 where
    pub holds_none : w.core.held ≡ []
    pub no_rows : w.rows ≡ []
    pub place : Place
    pub last : LastGrab w.findings row place word
    pub reached : IsReached levels zone w.findings row place

  abbrev pub IsTopOf : Zone → Top R → PassView R B E → Type 0
  IsTopOf zone (Got x) w = IsGot zone w x
  IsTopOf zone (Busy row seat) w = IsAnother w seat × IsMissed zone w row (held_by seat)
  IsTopOf zone (Stale row) w = IsPages zone × IsMissed zone w row stale

  abbrev pub IsLastOf : Zone → Stand → ℕ → Last R → PassView R B E → Type 0
  IsLastOf zone at index (End top) w = IsTopOf zone top w
  IsLastOf zone at index (On next) w = Stands w next × (next.place ≡ entry_place levels at.place index) × (is_place levels next.place ≡ true)
