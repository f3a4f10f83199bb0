-- What accesses, and moves to and from swap, ask of the rows.
--     IsMove, IsSwap      such a call;  a move to or from swap
--     IsLinkedEntry      an entry of a row of which all tables are linked, and whose references are in the kit
--     IsLinkedRow, AreLinked      such a row;  the rows and the kit of a call that was accepted
--     GotNoTable, LinkedWithout      a call that wanted no table;  its rows are linked
--     AreLacking      rows that lack the references of a kit
use Rattle.std.specs.Prelude.{◌≡◌, ℕ, ◌<◌, true, false, cond, List, [], ◌++◌, length, slice_get, slice_index, Some}
use Rattle.std.specs.List.{Contains}
use Rattle.std.specs.FinSet as set
use Rattle.corten_base.specs.declared.calls.Call.{Call}
use Rattle.corten_base.specs.declared.calls.Call.TheVariants as call
use Rattle.page_map.specs.Cell.{frame_of, slot_of}
use Rattle.page_map.specs.Effect.{space_of}
use Rattle.page_map.specs.State.{IsConsistent, levels}
use Rattle.row_cells.specs.declared.Cell.{Cell}
use Rattle.row_cells.specs.declared.Cell.TheVariants.{Table}
use Rattle.row_table.specs.declared.view.PassView.{PassView}
use Rattle.row_table.specs.declared.view.HeldRow.{HeldRow as KnownRow}
use Rattle.row_table.specs.Moves.{NotInHand}
use Rattle.table_place.specs.declared.Place.{Place}
use Rattle.tree_lock.specs.Release.{HoldsExactly}
use Rattle.walk_core.specs.Words.{is_link}
use Rattle.machine_plan.specs.declared.kit.Kit.{Kit}
use Rattle.machine_plan.specs.Agrees.{below, HasBytes, IsTableOf, Shows, Spells}
use Rattle.machine_plan.specs.Books.{BookData, state_of}
use Rattle.machine_plan.specs.Held.{AllGiven}
use Rattle.machine_plan.specs.HeldRows.{Row, AreOf}
use Rattle.machine_plan.specs.Kits.{HasRoom, AreBacked}
use Rattle.machine_plan.specs.Whole.{IsBook}
use Rattle.cursor_detach.specs.Left.{drawn_cell, is_taken, IsCommitted}
use Rattle.cursor_apply.specs.Applying.{IsApplicable}
use Rattle.cursor_apply.specs.Putting.{AreRefs, AreShort, pages_of}

abbrev pub IsMove : Call → Type 0
IsMove (call.Load space at len) = Unit {0}
IsMove (call.Store space at bytes) = Unit {0}
IsMove (call.Fault space at write) = Unit {0}
IsMove (call.SwapOut space at len) = Unit {0}
IsMove (call.SwapIn space at len) = Unit {0}
IsMove (call.Map space where_to len perm what) = ⊥
IsMove (call.Unmap space at len) = ⊥
IsMove (call.Protect space at len perm) = ⊥
IsMove call.Spawn = ⊥
IsMove (call.Fork space) = ⊥
IsMove (call.Exit space) = ⊥
IsMove (call.Txn space at len ops) = ⊥
IsMove (call.DontNeed space at len) = ⊥
IsMove (call.Remap space at old_len new_len) = ⊥

abbrev pub IsSwap : Call → Type 0
IsSwap (call.SwapOut space at len) = Unit {0}
IsSwap (call.SwapIn space at len) = Unit {0}
IsSwap (call.Load space at len) = ⊥
IsSwap (call.Store space at bytes) = ⊥
IsSwap (call.Fault space at write) = ⊥
IsSwap (call.Map space where_to len perm what) = ⊥
IsSwap (call.Unmap space at len) = ⊥
IsSwap (call.Protect space at len perm) = ⊥
IsSwap call.Spawn = ⊥
IsSwap (call.Fork space) = ⊥
IsSwap (call.Exit space) = ⊥
IsSwap (call.Txn space at len ops) = ⊥
IsSwap (call.DontNeed space at len) = ⊥
IsSwap (call.Remap space at old_len new_len) = ⊥

-- at an entry that leads to no table of the new state: what stood there in the old one
pub record IsLinkedEntry (a : BookData) (thread : ℕ) (c : Call) (kit : Kit) (p : Place) (index word : ℕ) (cell : Cell) : Type 0 where
  pub old : Cell
  pub shows : Shows (state_of a) (below (levels (state_of a)) p index) old
  pub spells : Spells (state_of a) old word
  pub bytes : HasBytes a old
  pub is : cell ≡ cond (is_taken (state_of a) thread c kit p index) (drawn_cell old) old

module _ {B E : Type 0} where
  pub record IsLinkedRow (a b : BookData) (thread : ℕ) (c : Call) (kit : Kit) (v : PassView (List Cell) B E) (x : Row) : Type 0 where
    pub known : KnownRow (List Cell)
    pub held : Contains v.rows known
    pub same_row : known.row ≡ x.row
    pub same_place : known.place ≡ x.place
    pub linked : NotInHand v x.row
    pub table : IsTableOf (state_of b) x.place
    pub whole : length x.content ≡ 512
    pub links : (i : ℕ) (cell : Cell) → i < 512 → slice_get x.content i ≡ Some cell → set.contains (state_of b).tables (below (levels (state_of a)) x.place i) ≡ true → (cell ≡ Table) × (is_link (slice_index known.words i) ≡ true)
    pub pages : (i : ℕ) (cell : Cell) → i < 512 → slice_get x.content i ≡ Some cell → set.contains (state_of b).tables (below (levels (state_of a)) x.place i) ≡ false → IsLinkedEntry a thread c kit x.place i (slice_index known.words i) cell

  pub record AreLinked (a b : BookData) (thread : ℕ) (c : Call) (v : PassView (List Cell) B E) (rows : List Row) (kit : Kit) : Type 0 where
    pub exact : HoldsExactly rows v.core.held v.rows
    pub each : (x : Row) → Contains rows x → IsLinkedRow a b thread c kit v x
    pub given : AllGiven v
    pub consistent : IsConsistent (state_of b)
    pub books : IsBook a × IsBook b
    pub one_space : (s : ℕ) → space_of c ≡ Some s → AreOf s rows
    pub answered : Kit
    pub same_kit : kit ≡ record answered { gone = kit.gone }
    pub committed : IsCommitted a b thread c answered
    pub done : kit.done ≡ true
    pub hand : (v.hand ≡ []) × (v.core.granted ≡ [])
    pub room : HasRoom kit

-- the call was accepted, and was granted no table and wanted none
pub record GotNoTable (a b : BookData) (kit : Kit) : Type 0 where
  pub done : kit.done ≡ true
  pub rows : kit.rows.items ≡ []
  pub tables : (state_of b).tables ≡ (state_of a).tables

-- so its rows are linked as they are
abbrev pub LinkedWithout : Type 0 → Type 0 → Type 0
LinkedWithout B E = (a b : BookData) (thread : ℕ) (c : Call) (v : PassView (List Cell) B E) (rows : List Row) (kit : Kit) → IsApplicable a b thread c v rows kit → GotNoTable a b kit → AreLinked a b thread c v rows kit

-- Rows that lack the references of a kit, of those that stayed and of those that were granted.
pub record AreLacking (b : BookData) (space : ℕ) (known : List (KnownRow (List Cell))) (rows : List Row) (kit : Kit) : Type 0 where
  pub consistent : IsConsistent (state_of b)
  pub of_space : AreOf space rows
  pub own_frames : AreRefs (state_of b) space frame_of kit.own_frames.items
  pub own_slots : AreRefs (state_of b) space slot_of kit.own_slots.items
  pub frames : AreRefs (state_of b) space frame_of kit.frames.items
  pub slots : AreRefs (state_of b) space slot_of kit.slots.items
  pub backed : AreBacked b.frames kit.own_frames.items × AreBacked b.frames kit.frames.items × AreBacked b.slots kit.own_slots.items × AreBacked b.slots kit.slots.items
  pub seconds : (kit.second_frames.items ≡ []) × (kit.second_slots.items ≡ [])
  pub short : AreShort b known (pages_of kit.own_frames.items ++ pages_of kit.frames.items) (pages_of kit.own_slots.items ++ pages_of kit.slots.items) rows
