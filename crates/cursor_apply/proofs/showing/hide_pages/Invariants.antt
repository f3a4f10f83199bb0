use Rattle.std.specs.Prelude.{◌≡◌, ℕ, List, ◌++◌, drop}
use Rattle.corten_base.specs.declared.calls.Call.{Call}
use Rattle.row_table.specs.Passes.{view_of, kit_of, table_of}
use Rattle.machine_plan.specs.Books.{BookData, state_of}
use Rattle.cursor_apply.specs.Applying.{OnlyWords}
use Rattle.cursor_apply.specs.Putting.{pages_of}
use Rattle.cursor_apply.specs.Showing.{AreSlots, AreWritable}
use Rattle.cursor_apply.proofs.showing.hide_pages.Given as goal

abbrev pub invariant-loop-page : goal.invariant-loop-page
invariant-loop-page g l = record {
  table : table_of l.pass ≡ table_of l.fn.pass;
  same : kit_of l.pass ≡ kit_of l.fn.pass;
  words : OnlyWords (view_of l.fn.pass) (view_of l.pass);
  so_far : (b : BookData) (thread : ℕ) (c : Call) (space : ℕ) (frames slots to_show to_hide : List ℕ) → AreWritable b thread c space frames slots to_show (pages_of l.slots ++ to_hide) (view_of l.fn.pass) l.held.rows → AreSlots (state_of b) space l.slots
      → AreWritable b thread c space frames slots to_show (pages_of (drop l.page-index l.slots) ++ to_hide) (view_of l.pass) l.held.rows;
}
