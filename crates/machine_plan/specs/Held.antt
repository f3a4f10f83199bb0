-- The held rows and the book: one fact from the turn to the release.
--     IsHeldWith, HeldWith      a row of the list agrees with a book as the pass's view shows it;  the list is that of all rows that the pass holds, and each agrees
--     AllGiven      the pass has given the book since it got each row
--     TurnAgrees      after the turn the cover's list agrees with the book
--     MayRelease      a list that agrees with the book that the pass gave last may be released
--     GiveGivesAll      after a give each held row counts as given
--     ListIsCover      so the list has the cover of the zone by the book's state
use Rattle.std.specs.Prelude.{◌≡◌, ℕ, true, List, Some}
use Rattle.std.specs.List.{Contains}
use Rattle.page_map.specs.State.{IsConsistent}
use Rattle.row_cells.specs.declared.Cell.{Cell}
use Rattle.row_table.specs.declared.view.PassView.{PassView}
use Rattle.row_table.specs.declared.view.HeldRow.{HeldRow as KnownRow}
use Rattle.row_table.specs.Books.{Learns, turned, gave, IsHeldAt}
use Rattle.row_table.specs.Moves.{NotInHand}
use Rattle.table_place.specs.declared.Place.{Place}
use Rattle.tree_lock.specs.declared.zone.Zone.{Zone}
use Rattle.tree_lock.specs.Covers.{AreInTree, IsListOf}
use Rattle.tree_lock.specs.Linked.{ShowsCover}
use Rattle.tree_lock.specs.Release.{HoldsExactly, MayReleaseAll}
use Rattle.machine_plan.specs.Books.{BookData, state_of}
use Rattle.machine_plan.specs.Agrees.{Agrees}
use Rattle.machine_plan.specs.Follows.{machine}
use Rattle.machine_plan.specs.Cover.{View, HasLevelsOf, HasCover}
use Rattle.machine_plan.specs.HeldRows.{Row}

module _ {B E : Type 0} where
  pub record IsHeldWith (b : BookData) (v : PassView (List Cell) B E) (x : Row) : Type 0 where
    pub known : KnownRow (List Cell)
    pub held : Contains v.rows known
    pub same_row : known.row ≡ x.row
    pub same_place : known.place ≡ x.place
    pub linked : NotInHand v x.row
    pub agrees : Agrees b known.place known.words x.content

  pub record HeldWith (b : BookData) (v : PassView (List Cell) B E) (rows : List Row) : Type 0 where
    pub exact : HoldsExactly rows v.core.held v.rows
    pub each : (x : Row) → Contains rows x → IsHeldWith b v x

  abbrev pub AllGiven : PassView (List Cell) B E → Type 0
  AllGiven v = (h : KnownRow (List Cell)) → Contains v.rows h → h.is_given ≡ true

abbrev pub TurnAgrees : Type 0
TurnAgrees = (count : ℕ) (v : View) (rows : List Row) (b : BookData) → AreInTree v → IsListOf v.core.held v.rows rows → Learns machine count v b → HeldWith b (turned machine v b) rows

abbrev pub MayRelease : Type 0
MayRelease = (b : BookData) (v : View) (rows : List Row) → HeldWith b v rows → AllGiven v → v.last ≡ Some b → MayReleaseAll machine rows v

-- the positions of the rows of a list
abbrev pub ListHolds : List Row → Place → Type 0
ListHolds rows p = (x : Row) × Contains rows x × (x.place ≡ p)

abbrev pub ListIsCover : Type 0
ListIsCover = (zone : Zone) (count : ℕ) (v : View) (rows : List Row) (b : BookData) → IsConsistent (state_of b) → HasLevelsOf b v → ShowsCover v.layout zone v → IsListOf v.core.held v.rows rows → Learns machine count v b
    → HasCover zone (state_of b) (IsHeldAt (turned machine v b)) × HasCover zone (state_of b) (ListHolds rows)

-- after a give each held row counts as given, and the book is the last one
abbrev pub GiveGivesAll : Type 0
GiveGivesAll = (v : View) (a b : BookData) (generation : ℕ → ℕ) → AllGiven (gave machine v a b generation) × ((gave machine v a b generation).last ≡ Some b)
