-- The rows that a call must hold, by the tables of a state.
--     InCover      a row of the cover of a zone
--     HasCover      the rows at these positions have the cover
--     HeldAgree      each row that a pass holds agrees with a book
--     HasLevelsOf      a pass is of a table that has the levels of a book's limits
--     CoverIsHeld      what a pass's view tells of a cover is the cover by the state, where its rows agree with the book
use Rattle.std.specs.Prelude.{◌≡◌, ℕ, ◌<◌, ◌⊎◌, true, List}
use Rattle.std.specs.List.{Contains}
use Rattle.std.specs.FinSet as set
use Rattle.corten_base.specs.declared.calls.Entry.{Entry}
use Rattle.page_map.specs.State.{State, IsConsistent, levels}
use Rattle.row_cells.specs.declared.Cell.{Cell}
use Rattle.row_table.specs.declared.view.PassView.{PassView}
use Rattle.row_table.specs.declared.view.HeldRow.{HeldRow as KnownRow}
use Rattle.row_table.specs.Books.{IsHeldAt}
use Rattle.table_place.specs.declared.Place.{Place}
use Rattle.table_place.specs.Place.{directory}
use Rattle.tree_lock.specs.declared.zone.Zone.{Zone}
use Rattle.tree_lock.specs.declared.zone.Zone.TheVariants.{Pages, Space, Directory}
use Rattle.tree_lock.specs.Zone.{Meets, Spans}
use Rattle.tree_lock.specs.Linked.{ShowsCover}
use Rattle.machine_plan.specs.Books.{BookData, state_of}
use Rattle.machine_plan.specs.Agrees.{below, IsTableOf, IsNoTable, Agrees}

-- a row that the zone meets, of which no entry leads to a table that may cover the zone too
pub record MetRow (zone : Zone) (st : State) (p : Place) : Type 0 where
  pub table : IsTableOf st p
  pub meets : Meets zone p
  pub lowest : (index : ℕ) → index < 512 → Spans zone (below (levels st) p index) → IsNoTable st (below (levels st) p index)

abbrev pub InCover : Zone → State → Place → Type 0
InCover (Pages space first count strict) st p = MetRow (Pages space first count strict) st p
InCover (Space space) st p = (p ≡ directory) ⊎ ((set.contains st.tables p ≡ true) × (p.space ≡ space))
InCover Directory st p = p ≡ directory

abbrev pub HasCover : Zone → State → (Place → Type 0) → Type 0
HasCover zone st holds = (p : Place) → InCover zone st p → holds p

module _ {B E : Type 0} where
  abbrev pub HeldAgree : BookData → PassView (List Cell) B E → Type 0
  HeldAgree b v = (h : KnownRow (List Cell)) → Contains v.rows h → (cells : List Cell) × Agrees b h.place h.words cells

  abbrev pub HasLevelsOf : BookData → PassView (List Cell) B E → Type 0
  HasLevelsOf b v = v.layout.levels ≡ b.limits.levels

abbrev pub View : Type 0
View = PassView (List Cell) BookData Entry

abbrev pub CoverIsHeld : Type 0
CoverIsHeld = (zone : Zone) (b : BookData) (v : View) → IsConsistent (state_of b) → HasLevelsOf b v → HeldAgree b v → ShowsCover v.layout zone v → HasCover zone (state_of b) (IsHeldAt v)
