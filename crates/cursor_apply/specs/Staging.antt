-- The rows between: as far as pages go those of the book before the call, with the tables of the book after it.
--     with_tables      a state with other tables
--     IsStagedCell, IsStaged      a cell, and a row, that agree with the book before the call but for its tables, and but for what the kit has
--     AreStaged      each row of a list is such a row
--     Staged      after all granted rows were linked
use Rattle.std.specs.Prelude.{◌≡◌, ℕ, ◌<◌, ◌⊎◌, true, false, cond, List, [], length, slice_get, slice_index, Some}
use Rattle.std.specs.List.{Contains}
use Rattle.std.specs.FinSet as set
use Rattle.corten_base.specs.declared.calls.Call.{Call}
use Rattle.page_map.specs.State.{State, levels}
use Rattle.page_map.specs.Tables.{Tables}
use Rattle.row_cells.specs.declared.Cell.{Cell}
use Rattle.row_cells.specs.declared.Cell.TheVariants.{Invalid}
use Rattle.row_table.specs.declared.view.PassView.{PassView}
use Rattle.row_table.specs.declared.view.HeldRow.{HeldRow as KnownRow}
use Rattle.row_table.specs.Moves.{NotInHand}
use Rattle.table_place.specs.declared.Place.{Place}
use Rattle.tree_lock.specs.Release.{HoldsExactly}
use Rattle.machine_plan.specs.declared.kit.Kit.{Kit}
use Rattle.machine_plan.specs.Agrees.{below, HasBytes, IsTableOf, Shows, Spells}
use Rattle.machine_plan.specs.Books.{BookData, state_of}
use Rattle.machine_plan.specs.Given.{IsRemoved}
use Rattle.machine_plan.specs.Held.{AllGiven, ListHolds}
use Rattle.machine_plan.specs.HeldRows.{Row}
use Rattle.cursor_detach.specs.Left.{drawn_cell, is_taken}

abbrev pub with_tables : State → Tables → State
with_tables st tables = record st { tables = tables }

-- What the book before the call has at the position, with these tables: a link, a mark or a page. A page whose reference is in the kit shows what it came from. The word is the one that the page had.
pub record IsStagedCell (a : BookData) (tables : Tables) (thread : ℕ) (c : Call) (kit : Kit) (p : Place) (index : ℕ) (word : ℕ) (cell : Cell) : Type 0 where
  pub was : Cell
  pub shows : Shows (with_tables (state_of a) tables) (below (levels (state_of a)) p index) was
  pub spells : Spells (state_of a) was word
  pub bytes : HasBytes a was
  pub is : cell ≡ cond (is_taken (state_of a) thread c kit p index) (drawn_cell was) was

module _ {B E : Type 0} where
  -- A row of the pass and of the list. Nothing stands where a link to a removed position was cut.
  pub record IsStaged (a b : BookData) (tables : Tables) (thread : ℕ) (c : Call) (kit : Kit) (w : PassView (List Cell) B E) (x : Row) : Type 0 where
    pub known : KnownRow (List Cell)
    pub held : Contains w.rows known
    pub same_row : known.row ≡ x.row
    pub same_place : known.place ≡ x.place
    pub linked : NotInHand w x.row
    pub table : IsTableOf (with_tables (state_of a) tables) x.place
    pub whole : length x.content ≡ 512
    pub cut : (index : ℕ) → index < 512 → IsRemoved (state_of a) (state_of b) (below (levels (state_of a)) x.place index) → (slice_get x.content index ≡ Some Invalid) × (slice_index known.words index ≡ 0)
    pub cells : (index : ℕ) (cell : Cell) → index < 512 → ¬ IsRemoved (state_of a) (state_of b) (below (levels (state_of a)) x.place index) → slice_get x.content index ≡ Some cell
        → IsStagedCell a tables thread c kit x.place index (slice_index known.words index) cell

  abbrev pub AreStaged : BookData → BookData → Tables → ℕ → Call → Kit → PassView (List Cell) B E → List Row → Type 0
  AreStaged a b tables thread c kit w rows = (x : Row) → Contains rows x → IsStaged a b tables thread c kit w x

  -- Each row that was in the list still is, each new table of b has a row, and there are no others. The hand is empty.
  pub record Staged (a b : BookData) (thread : ℕ) (c : Call) (kit : Kit) (v w : PassView (List Cell) B E) (rows rows' : List Row) : Type 0 where
    pub view : w ≡ record v { core = record v.core { held = w.core.held; granted = [] }; rows = w.rows; hand = [] }
    pub exact : HoldsExactly rows' w.core.held w.rows
    pub given : AllGiven w
    pub staged : AreStaged a b (state_of b).tables thread c kit w rows'
    pub kept : (x : Row) → Contains rows x → (y : Row) × Contains rows' y × (y.row ≡ x.row) × (y.place ≡ x.place)
    pub made : (p : Place) → set.contains (state_of a).tables p ≡ false → set.contains (state_of b).tables p ≡ true → ListHolds rows' p
    pub only : (y : Row) → Contains rows' y → ListHolds rows y.place ⊎ ((set.contains (state_of a).tables y.place ≡ false) × (set.contains (state_of b).tables y.place ≡ true))
