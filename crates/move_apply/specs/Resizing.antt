-- What the last part of an apply asks of a call that gives a range another length where it stands, and what it leaves.
--     IsResizable      the granted rows are linked, and the pages are as before or drawn
--     clearing      the pages that a change gives up, of which nothing is left
--     MayShrink, Shrinks      there is a call that leaves its range no longer than it was;  for each one what an apply leaves
use Rattle.std.specs.Prelude.{◌≡◌, ℕ, ◌<◌, ◌≤◌, true, List, [], Option, Some, None}
use Rattle.corten_base.specs.declared.calls.Call.TheVariants as call
use Rattle.page_map.specs.State.{IsConsistent}
use Rattle.row_cells.specs.declared.Cell.{Cell}
use Rattle.row_table.specs.declared.view.PassView.{PassView}
use Rattle.table_place.specs.Place.{pages_of}
use Rattle.tree_lock.specs.Release.{HoldsExactly}
use Rattle.machine_plan.specs.declared.kit.Kit.{Kit}
use Rattle.machine_plan.specs.declared.kit.Change.{Change}
use Rattle.machine_plan.specs.declared.kit.Change.TheVariants.{Op, Reset, Move, GiveUp, Spawn, Fork, Exit}
use Rattle.machine_plan.specs.Books.{BookData, state_of}
use Rattle.machine_plan.specs.Held.{AllGiven}
use Rattle.machine_plan.specs.HeldRows.{Row, AreOf}
use Rattle.machine_plan.specs.Kits.{HasRoom}
use Rattle.machine_plan.specs.Whole.{IsBook}
use Rattle.cursor_detach.specs.Left.{IsCommitted}
use Rattle.cursor_apply.specs.Applying.{Applied}
use Rattle.cursor_apply.specs.Staging.{AreStaged}
use Rattle.cursor_apply.specs.declared.becoming.Making.TheVariants.{Clear}
use Rattle.cursor_apply.specs.declared.becoming.RangeChange.{RangeChange}

abbrev pub clearing : Change → Option RangeChange
clearing (GiveUp first count) = Some (record { making = Clear; first = first; count = count })
clearing (Op o) = None
clearing (Reset first count) = None
clearing (Move first old to new) = None
clearing (Spawn space) = None
clearing (Fork space) = None
clearing Exit = None

module _ {B E : Type 0} where
  pub record IsResizable (a b : BookData) (thread space at old_len new_len : ℕ) (v : PassView (List Cell) B E) (rows : List Row) (kit : Kit) : Type 0 where
    pub small : thread < 8
    pub consistent : IsConsistent (state_of a) × IsConsistent (state_of b)
    pub books : IsBook a × IsBook b
    pub exact : HoldsExactly rows v.core.held v.rows
    pub staged : AreStaged a b (state_of b).tables thread (call.Remap space at old_len new_len) kit v rows
    pub given : AllGiven v
    pub hand : (v.hand ≡ []) × (v.core.granted ≡ [])
    pub one_space : AreOf space rows
    pub answered : Kit
    pub same_kit : kit ≡ record answered { gone = kit.gone }
    pub committed : IsCommitted a b thread (call.Remap space at old_len new_len) answered
    pub done : kit.done ≡ true
    pub room : HasRoom kit

  abbrev pub MayShrink : PassView (List Cell) B E → List Row → Kit → Type 0
  MayShrink v rows kit = (a : BookData) × (b : BookData) × (thread : ℕ) × (space : ℕ) × (at : ℕ) × (old_len : ℕ) × (new_len : ℕ)
      × (pages_of new_len ≤ pages_of old_len) × IsResizable a b thread space at old_len new_len v rows kit

  abbrev pub Shrinks : PassView (List Cell) B E → List Row → Kit → PassView (List Cell) B E → List Row → Kit → Type 0
  Shrinks v rows kit w rows' kit' = (a b : BookData) (thread space at old_len new_len : ℕ) → pages_of new_len ≤ pages_of old_len
      → IsResizable a b thread space at old_len new_len v rows kit → Applied b thread (call.Remap space at old_len new_len) v w rows' kit kit'
