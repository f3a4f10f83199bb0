use Rattle.std.proofs.Common.{◌≡◌, ℕ, Bool, length}
use Rattle.page_map.specs.State.{State}
use Rattle.row_table.specs.Passes.{view_of, kit_of, table_of}
use Rattle.machine_plan.specs.Books.{BookData}
use Rattle.cursor_apply.specs.Changed.{IsReady, AreChanging}
use Rattle.cursor_apply.proofs.changing.change_rows.Given as goal

abbrev pub invariant-loop-at : goal.invariant-loop-at
invariant-loop-at g l = record {
  table : table_of l.pass ≡ table_of l.fn.pass;
  same : kit_of l.pass ≡ kit_of l.fn.pass;
  room : l.held.room ≡ l.fn.held.room;
  long : length l.held.rows ≡ length l.fn.held.rows;
  changing : (b : BookData) (st now : State) (space : ℕ) (is_old : ℕ → Bool) → IsReady b st now space is_old l.change (view_of l.fn.pass) l.fn.held.rows
      → AreChanging b st now is_old l.change l.at (view_of l.fn.pass) l.fn.held.rows (view_of l.pass) l.held.rows;
}
