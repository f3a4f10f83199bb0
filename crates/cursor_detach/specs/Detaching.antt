-- The rows of positions that a call removed go out of the tree.
--     IsDetachable, Detached      what a detach asks, and what it leaves
--     IsOut      a row at a position is gone
--     StepsBack      it goes from one row of the list to the row before it
--     Stays      a row of the list that is left, and what it was
--     Cutting      so far down the list the rows of removed positions are out
use Rattle.std.specs.Prelude.{◌≡◌, ℕ, ◌+◌, ◌<◌, ◌≤◌, ◌⊎◌, ◌↔◌, true, false, List, ◌++◌, map, length, slice_get, slice_index, slice_index_or, Some, IsNone}
use Rattle.std.specs.List.{Contains}
use Rattle.corten_base.specs.declared.calls.Call.{Call}
use Rattle.page_map.specs.Effect.{space_of}
use Rattle.page_map.specs.State.{IsConsistent}
use Rattle.page_map.specs.Step.{arguments}
use Rattle.row_cells.specs.declared.Cell.{Cell}
use Rattle.row_cells.specs.declared.Cell.TheVariants.{Invalid}
use Rattle.row_table.specs.declared.view.PassView.{PassView}
use Rattle.row_table.specs.declared.view.HeldRow.{HeldRow as KnownRow}
use Rattle.row_table.specs.Moves.{NotInHand}
use Rattle.table_place.specs.declared.Place.{Place}
use Rattle.tree_lock.specs.Covers.{LinksHeld}
use Rattle.tree_lock.specs.Held.{IsInOrder, row_numbers}
use Rattle.tree_lock.specs.Order.{IsBefore}
use Rattle.tree_lock.specs.Release.{HoldsExactly}
use Rattle.walk_core.specs.Lists.{IsDistinct}
use Rattle.walk_core.specs.Events.{newly_unlinked}
use Rattle.machine_plan.specs.declared.kit.Kit.{Kit}
use Rattle.machine_plan.specs.Agrees.{below}
use Rattle.machine_plan.specs.Books.{BookData, state_of}
use Rattle.machine_plan.specs.Cover.{HasCover, HasLevelsOf}
use Rattle.machine_plan.specs.Given.{Leaves, IsRemoved}
use Rattle.machine_plan.specs.Held.{ListHolds}
use Rattle.machine_plan.specs.HeldRows.{Row, AreOf}
use Rattle.machine_plan.specs.Kits.{HasRoom}
use Rattle.machine_plan.specs.Uses.{zone_of}
use Rattle.cursor_detach.specs.Left.{IsCommitted, AreLeft}
use Rattle.cursor_detach.specs.Removing.{is_cut}
use Rattle.cursor_detach.specs.Cutting.{Cuts}

-- a row of the list at this position is among those that are gone
abbrev pub IsOut : List Row → List ℕ → Place → Type 0
IsOut rows gone p = (x : Row) × Contains rows x × (x.place ≡ p) × Contains gone x.row

module _ {B E : Type 0} where
  -- The rows are those that the plan left, and no position of them is gone yet.
  pub record IsDetachable (a b : BookData) (thread : ℕ) (c : Call) (v : PassView (List Cell) B E) (rows : List Row) (kit : Kit) : Type 0 where
    pub exact : HoldsExactly rows v.core.held v.rows
    pub rows_left : AreLeft a a thread c kit v rows
    -- agreement says of a link's word only that it is one, and unlink asks to which row
    pub links : IsNone (arguments (state_of a) c) → (h : KnownRow (List Cell)) → Contains v.rows h → LinksHeld v.layout.levels (zone_of thread c) v.rows h
    pub cover : IsNone (arguments (state_of a) c) → HasCover (zone_of thread c) (state_of a) (ListHolds rows)
    pub one_space : (s : ℕ) → space_of c ≡ Some s → AreOf s rows
    pub few_rows : length rows ≤ 1024
    pub consistent : IsConsistent (state_of a)
    pub same_levels : HasLevelsOf a v
    pub few : thread < 8
    pub committed : IsCommitted a b thread c kit

  -- The rows of removed positions are unlinked, marked and listed; each row that is left was in the list. `Leaves` says of each other row that it is still held, and of its links that they were there and lead to tables that are left.
  pub record Detached (a b : BookData) (thread : ℕ) (c : Call) (v w : PassView (List Cell) B E) (rows rows' : List Row) (kit kit' : Kit) : Type 0 where
    pub view : w ≡ record v { core = record v.core { held = w.core.held; unlinked = w.core.unlinked }; rows = w.rows }
    pub exact : HoldsExactly rows' w.core.held w.rows
    pub from : (y : Row) → Contains rows' y → (x : Row) × Contains rows x × (x.row ≡ y.row) × (x.place ≡ y.place)
    pub kit_is : kit' ≡ record kit { gone = kit'.gone }
    pub room : HasRoom kit'
    pub gone : (row : ℕ) → Contains kit'.gone.items row ↔ ((x : Row) × Contains rows x × (x.row ≡ row) × IsRemoved (state_of a) (state_of b) x.place)
    pub unlinked : w.core.unlinked ≡ v.core.unlinked ++ map newly_unlinked kit'.gone.items
    pub leaves : Leaves (state_of b) v w
    pub rows_left : AreLeft a b thread c kit w rows'

  -- the row at this place of the list stays, or it goes out
  pub record StepsBack (levels at : ℕ) (rows : List Row) (v : PassView (List Cell) B E) (kit : Kit) (rows' : List Row) (w : PassView (List Cell) B E) (kit' : Kit) : Type 0 where
    pub inside : at < length rows
    pub order : IsInOrder rows
    pub once : IsDistinct (row_numbers rows)
    pub row : Row
    pub is : (d : Row) → slice_index_or rows at d ≡ row
    pub kit_is : kit' ≡ record kit { gone = kit'.gone }
    pub room : HasRoom kit → HasRoom kit'
    pub stays : is_cut levels kit row.place ≡ false → (rows' ≡ rows) × (w ≡ v) × (kit' ≡ kit)
    pub goes : is_cut levels kit row.place ≡ true → Cuts levels at rows v rows' w kit.gone.items kit'.gone.items

  -- a row of the list that is left, and what it was
  pub record Stays (levels : ℕ) (v : PassView (List Cell) B E) (rows : List Row) (w : PassView (List Cell) B E) (gone : List ℕ) (x : Row) : Type 0 where
    pub old : Row
    pub was : Contains rows old
    pub same_row : old.row ≡ x.row
    pub same_place : old.place ≡ x.place
    pub stays : ¬ Contains gone x.row
    pub old_known : KnownRow (List Cell)
    pub old_held : Contains v.rows old_known
    pub old_row : old_known.row ≡ x.row
    pub known : KnownRow (List Cell)
    pub held : Contains w.rows known
    pub known_row : known.row ≡ x.row
    pub known_place : known.place ≡ old_known.place
    pub linked : NotInHand v x.row → NotInHand w x.row
    pub whole : length x.content ≡ length old.content
    pub cut : (index : ℕ) → index < 512 → index < length old.content → IsOut rows gone (below levels x.place index) → (slice_get x.content index ≡ Some Invalid) × (slice_index known.words index ≡ 0)
    pub kept : (index : ℕ) → index < 512 → ¬ IsOut rows gone (below levels x.place index)
        → (slice_get x.content index ≡ slice_get old.content index) × (slice_index known.words index ≡ slice_index old_known.words index)

  -- The rows at places of the list from this one on were gone through.
  pub record Cutting (levels at : ℕ) (v : PassView (List Cell) B E) (rows : List Row) (kit : Kit) (w : PassView (List Cell) B E) (rows' : List Row) (kit' : Kit) : Type 0 where
    pub view : w ≡ record v { core = record v.core { held = w.core.held; unlinked = v.core.unlinked ++ map newly_unlinked kit'.gone.items }; rows = w.rows }
    pub exact : HoldsExactly rows' w.core.held w.rows
    pub once : IsDistinct (row_numbers rows')
    pub kit_is : kit' ≡ record kit { gone = kit'.gone }
    pub room : HasRoom kit → HasRoom kit'
    pub count : length kit'.gone.items + length rows' ≡ length rows
    pub within : at ≤ length rows'
    pub each : (x : Row) → Contains rows' x → Stays levels v rows w kit'.gone.items x
    pub all : (x : Row) → Contains rows x → Contains kit'.gone.items x.row ⊎ ((y : Row) × Contains rows' y × (y.row ≡ x.row) × (y.place ≡ x.place))
    pub only : (row : ℕ) → Contains kit'.gone.items row → (x : Row) × Contains rows x × (x.row ≡ row) × (is_cut levels kit x.place ≡ true)
    pub ahead : (k : ℕ) (d x : Row) → k < at → Contains rows x → Contains kit'.gone.items x.row → IsBefore (slice_index_or rows' k d).place x.place
    pub behind : (k : ℕ) (d : Row) → at ≤ k → k < length rows' → is_cut levels kit (slice_index_or rows' k d).place ≡ false
