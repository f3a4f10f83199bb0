-- What the last part of an apply asks of a call that moves a range, and what it leaves.
--     IsMoving      such a call, whose granted rows are linked
--     MayMove, Moves      there is one in a space;  for each one what an apply leaves
use Rattle.std.specs.Prelude.{◌≡◌, ℕ, true, List}
use Rattle.corten_base.specs.declared.calls.Call.TheVariants as call
use Rattle.page_map.specs.Remap.{moves, resize_of}
use Rattle.page_map.specs.State.{levels, space_at}
use Rattle.row_cells.specs.declared.Cell.{Cell}
use Rattle.row_table.specs.declared.view.PassView.{PassView}
use Rattle.machine_plan.specs.declared.kit.Kit.{Kit}
use Rattle.machine_plan.specs.Books.{BookData, state_of}
use Rattle.machine_plan.specs.HeldRows.{Row}
use Rattle.cursor_apply.specs.Applying.{Applied}
use Rattle.move_apply.specs.Resizing.{IsResizable}

module _ {B E : Type 0} where
  pub record IsMoving (a b : BookData) (thread space at old_len new_len : ℕ) (v : PassView (List Cell) B E) (rows : List Row) (kit : Kit) : Type 0 where
    pub goes : moves (levels (state_of a)) (space_at (state_of a) space) (resize_of at old_len new_len) ≡ true
    pub resizable : IsResizable a b thread space at old_len new_len v rows kit

  abbrev pub MayMove : ℕ → PassView (List Cell) B E → List Row → Kit → Type 0
  MayMove space v rows kit = (a : BookData) × (b : BookData) × (thread : ℕ) × (at : ℕ) × (old_len : ℕ) × (new_len : ℕ) × IsMoving a b thread space at old_len new_len v rows kit

  abbrev pub Moves : ℕ → PassView (List Cell) B E → List Row → Kit → PassView (List Cell) B E → List Row → Kit → Type 0
  Moves space v rows kit w rows' kit' = (a b : BookData) (thread at old_len new_len : ℕ) → IsMoving a b thread space at old_len new_len v rows kit
      → Applied b thread (call.Remap space at old_len new_len) v w rows' kit kit'
