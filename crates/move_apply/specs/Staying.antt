-- A call that gives a range another length where it stands, longer or not.
--     gets_longer      whether a change of a call lets a range grow
--     IsStaying      such a call, whose granted rows are linked
--     MayStay, Stays      there is one;  for each one what an apply leaves
use Rattle.std.specs.Prelude.{◌≡◌, ℕ, Bool, false, nat_lt, List}
use Rattle.corten_base.specs.declared.calls.Call.TheVariants as call
use Rattle.page_map.specs.Remap.{moves, resize_of}
use Rattle.page_map.specs.State.{levels, space_at}
use Rattle.row_cells.specs.declared.Cell.{Cell}
use Rattle.row_table.specs.declared.view.PassView.{PassView}
use Rattle.tree_lock.specs.declared.zone.Zone.TheVariants as zone
use Rattle.machine_plan.specs.declared.kit.Kit.{Kit}
use Rattle.machine_plan.specs.declared.kit.Change.{Change}
use Rattle.machine_plan.specs.declared.kit.Change.TheVariants.{Op, Reset, Move, GiveUp, Spawn, Fork, Exit}
use Rattle.machine_plan.specs.Books.{BookData, state_of}
use Rattle.machine_plan.specs.Cover.{HasCover}
use Rattle.machine_plan.specs.Held.{ListHolds}
use Rattle.machine_plan.specs.HeldRows.{Row}
use Rattle.cursor_apply.specs.Applying.{Applied}
use Rattle.move_apply.specs.Resizing.{IsResizable}

abbrev pub gets_longer : Change → Bool
gets_longer (Move first old to new) = nat_lt old new
gets_longer (Op o) = false
gets_longer (Reset first count) = false
gets_longer (GiveUp first count) = false
gets_longer (Spawn space) = false
gets_longer (Fork space) = false
gets_longer Exit = false

module _ {B E : Type 0} where
  -- the rows have the cover of the space after the call
  pub record IsStaying (a b : BookData) (thread space at old_len new_len : ℕ) (v : PassView (List Cell) B E) (rows : List Row) (kit : Kit) : Type 0 where
    pub stays : moves (levels (state_of a)) (space_at (state_of a) space) (resize_of at old_len new_len) ≡ false
    pub resizable : IsResizable a b thread space at old_len new_len v rows kit
    pub cover : HasCover (zone.Space space) (state_of b) (ListHolds rows)

  abbrev pub MayStay : PassView (List Cell) B E → List Row → Kit → Type 0
  MayStay v rows kit = (a : BookData) × (b : BookData) × (thread : ℕ) × (space : ℕ) × (at : ℕ) × (old_len : ℕ) × (new_len : ℕ) × IsStaying a b thread space at old_len new_len v rows kit

  abbrev pub Stays : PassView (List Cell) B E → List Row → Kit → PassView (List Cell) B E → List Row → Kit → Type 0
  Stays v rows kit w rows' kit' = (a b : BookData) (thread space at old_len new_len : ℕ) → IsStaying a b thread space at old_len new_len v rows kit
      → Applied b thread (call.Remap space at old_len new_len) v w rows' kit kit'
