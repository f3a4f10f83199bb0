use Rattle.std.proofs.Common.{◌≡◌, ℕ, ◌<◌}
use Rattle.std.specs.Prelude.{slice_index_or}
use Rattle.corten_base.specs.declared.calls.Call.{Call}
use Rattle.row_table.specs.Passes.{view_of, kit_of, table_of}
use Rattle.machine_plan.specs.Books.{BookData}
use Rattle.machine_plan.specs.declared.kit.Want.{Want}
use Rattle.cursor_apply.specs.Applying.{IsApplicable}
use Rattle.cursor_apply.specs.Linking.{AreAbove, IsLinkable, LinkedSoFar, ReachesPage}
use Rattle.cursor_apply.proofs.towers.link_rows.Given as goal

-- the tables above so many pages are there
abbrev pub invariant-loop-at : goal.invariant-loop-at
invariant-loop-at g l = record {
  table : table_of l.pass ≡ table_of l.fn.pass;
  same : kit_of l.pass ≡ kit_of l.fn.pass;
  room : l.held.room ≡ l.fn.held.room;
  so_far : (a b : BookData) (thread : ℕ) (c : Call) → IsApplicable a b thread c (view_of l.fn.pass) l.fn.held.rows l.kit → IsLinkable a b thread c (view_of l.fn.pass) l.fn.held.rows l.kit → AreAbove a b l.fn.held.rows l.kit l.space
      → LinkedSoFar a b thread c l.kit l.next (view_of l.fn.pass) l.fn.held.rows (view_of l.pass) l.held.rows;
  reached : (k : ℕ) (d : ℕ × Want) → k < l.at → ReachesPage l.space (slice_index_or l.kit.wants.items k d).0 1 l.held.rows;
}
