-- What the steps of a call begin with.
--     View      what a pass of the machine knows
--     IsCovered      the pass holds exactly the listed rows, which are the cover of the call's zone where its arguments are right
--     KeepsRows      a pass has the same rows and the same hand
--     IsMadeOf      a book is another one but for its free rows and its limbo, as after a sweep or a deposit
--     IsPrepared      a kit that a plan may fill, for a call that makes no copy
use Rattle.std.specs.Prelude.{◌≡◌, ℕ, ◌≤◌, false, List, [], length, Some, IsNone}
use Rattle.corten_base.specs.declared.calls.Call.{Call}
use Rattle.corten_base.specs.declared.calls.Entry.{Entry}
use Rattle.page_map.specs.Effect.{space_of}
use Rattle.page_map.specs.State.{State, levels}
use Rattle.page_map.specs.Step.{arguments}
use Rattle.row_cells.specs.declared.Cell.{Cell}
use Rattle.row_table.specs.declared.view.PassView.{PassView}
use Rattle.walk_core.specs.Core.{unlinked_rows}
use Rattle.tree_lock.specs.Covers.{AreInTree, IsListOf}
use Rattle.tree_lock.specs.Linked.{ShowsCover}
use Rattle.machine_plan.specs.declared.kit.Kit.{Kit}
use Rattle.machine_plan.specs.Books.{BookData, state_of}
use Rattle.machine_plan.specs.HeldRows.{Row, RowsShown, AreOf}
use Rattle.machine_plan.specs.Kits.{HasRoom, IsUngranted, IsIdle, HasLists}
use Rattle.machine_plan.specs.Moving.{HasPieces}
use Rattle.machine_plan.specs.Uses.{early_refusal, zone_of}
use Rattle.range_cursor.specs.Plans.{is_fork}

abbrev pub View : Type 0
View = PassView (List Cell) BookData Entry

-- where the machine has so many files
pub record IsCovered (files thread : ℕ) (c : Call) (v : View) (rows : List Row) : Type 0 where
  pub listed : IsListOf v.core.held v.rows rows
  pub in_tree : AreInTree v
  pub one_space : (s : ℕ) → space_of c ≡ Some s → AreOf s rows
  pub few_rows : length rows ≤ 1024
  pub covers : (st : State) → levels st ≡ v.layout.levels → length st.files ≡ files → IsNone (arguments st c) → ShowsCover v.layout (zone_of thread c) v

-- The pieces of a range that moves are those of any book of which the rows are.
pub record IsPrepared (thread : ℕ) (c : Call) (rows : List Row) (kit : Kit) : Type 0 where
  pub no_copy : is_fork c ≡ false
  pub room : HasRoom kit
  pub idle : IsIdle kit
  pub ungranted : IsUngranted kit
  pub lists : HasLists c kit
  pub no_seconds : (kit.second_frames.items ≡ []) × (kit.second_slots.items ≡ [])
  pub pieces : (b : BookData) → RowsShown (state_of b) rows → IsNone (early_refusal (state_of b) thread c) → HasPieces (state_of b) thread c kit.pieces.items

pub record KeepsRows (v w : View) : Type 0 where
  pub number : w.number ≡ v.number
  pub layout : w.layout ≡ v.layout
  pub rows : w.rows ≡ v.rows
  pub held : w.core.held ≡ v.core.held
  pub hand : w.hand ≡ v.hand
  pub granted : w.core.granted ≡ v.core.granted
  pub unlinked : unlinked_rows w.core ≡ unlinked_rows v.core

abbrev pub IsMadeOf : BookData → BookData → Type 0
IsMadeOf m old = m ≡ record old { free = m.free; limbo = m.limbo }
