use Rattle.std.specs.Prelude.{◌≡◌, ℕ, List, ◌++◌, drop}
use Rattle.row_table.specs.Passes.{view_of, kit_of, table_of}
use Rattle.machine_plan.specs.Books.{BookData, state_of}
use Rattle.cursor_apply.specs.Applying.{OnlyWords}
use Rattle.cursor_apply.specs.Putting.{pages_of}
use Rattle.cursor_apply.specs.Sharing.{AreFramesAt, AreSharing}
use Rattle.cursor_apply.proofs.sharing.share_leaves.Given as goal

abbrev pub invariant-loop-page : goal.invariant-loop-page
invariant-loop-page g l = record {
  table : table_of l.pass ≡ table_of l.fn.pass;
  same : kit_of l.pass ≡ kit_of l.fn.pass;
  words : OnlyWords (view_of l.fn.pass) (view_of l.pass);
  so_far : (b : BookData) (to_share : List ℕ) (beside : ℕ × List ℕ) → AreSharing b l.space (pages_of l.frames ++ to_share) beside (view_of l.fn.pass) l.held.rows → AreFramesAt (state_of b) l.space l.frames
      → AreSharing b l.space (pages_of (drop l.page-index l.frames) ++ to_share) beside (view_of l.pass) l.held.rows;
}
