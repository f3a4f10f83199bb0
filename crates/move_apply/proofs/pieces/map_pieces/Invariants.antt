use Rattle.std.proofs.Common.{◌≡◌, ℕ, Bool, drop}
use Rattle.page_map.specs.State.{State}
use Rattle.row_table.specs.Passes.{view_of, kit_of, table_of}
use Rattle.machine_plan.specs.Books.{BookData}
use Rattle.cursor_apply.specs.Changed.{IsBase, Steps}
use Rattle.move_apply.specs.Pieces.{pieces_changes}
use Rattle.cursor_apply.proofs.StepsMade.{StepsLeft}
use Rattle.move_apply.proofs.pieces.map_pieces.Given as goal

abbrev pub invariant-loop-piece : goal.invariant-loop-piece
invariant-loop-piece g l = record {
  table : table_of l.pass ≡ table_of l.fn.pass;
  same : kit_of l.pass ≡ kit_of l.fn.pass;
  room : l.held.room ≡ l.fn.held.room;
  left : (b : BookData) (st now : State) (space : ℕ) (is_old : ℕ → Bool) → IsBase b st space is_old (view_of l.fn.pass) l.fn.held.rows → Steps (pieces_changes l.to l.pieces) space st now
      → StepsLeft b st now space is_old (pieces_changes l.to l.pieces) (view_of l.fn.pass) l.fn.held.rows (drop l.piece-index (pieces_changes l.to l.pieces)) (view_of l.pass) l.held.rows;
}
