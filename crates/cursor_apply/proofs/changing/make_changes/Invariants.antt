use Rattle.std.proofs.Common.{◌≡◌, ℕ, Bool, drop}
use Rattle.page_map.specs.State.{State}
use Rattle.row_table.specs.Passes.{view_of, kit_of, table_of}
use Rattle.machine_plan.specs.Books.{BookData}
use Rattle.cursor_apply.specs.Changed.{IsBase, Steps}
use Rattle.cursor_apply.proofs.StepsMade.{StepsLeft}
use Rattle.cursor_apply.proofs.changing.make_changes.Given as goal

abbrev pub invariant-loop-change : goal.invariant-loop-change
invariant-loop-change g l = record {
  table : table_of l.pass ≡ table_of l.fn.pass;
  same : kit_of l.pass ≡ kit_of l.fn.pass;
  room : l.held.room ≡ l.fn.held.room;
  left : (b : BookData) (st now : State) (space : ℕ) (is_old : ℕ → Bool) → IsBase b st space is_old (view_of l.fn.pass) l.fn.held.rows → Steps l.changes space st now
      → StepsLeft b st now space is_old l.changes (view_of l.fn.pass) l.fn.held.rows (drop l.change-index l.changes) (view_of l.pass) l.held.rows;
}
