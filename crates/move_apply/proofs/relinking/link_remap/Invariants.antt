use Rattle.std.proofs.Common.{◌≡◌, ℕ, ◌<◌}
use Rattle.std.specs.Prelude.{slice_index_or}
use Rattle.corten_base.specs.declared.calls.Call.{Call}
use Rattle.row_table.specs.Passes.{view_of, kit_of, table_of}
use Rattle.machine_plan.specs.Books.{BookData}
use Rattle.machine_plan.specs.declared.kit.Change.{Change}
use Rattle.machine_plan.specs.declared.kit.Piece.{Piece}
use Rattle.cursor_apply.specs.Applying.{IsApplicable}
use Rattle.cursor_apply.specs.Linking.{IsLinkable, LinkedSoFar}
use Rattle.move_apply.specs.Remapping.{changed_pages, pages_at, IsRemapIn, ReachesPages}
use Rattle.move_apply.proofs.relinking.link_remap.Given as goal

-- the tables that the changed pages cut, and so many pieces, are there
abbrev pub invariant-loop-at : goal.invariant-loop-at
invariant-loop-at g l = record {
  table : table_of l.pass ≡ table_of l.fn.pass;
  same : kit_of l.pass ≡ kit_of l.fn.pass;
  room : l.held.room ≡ l.fn.held.room;
  so_far : (a b : BookData) (thread : ℕ) (c : Call) → IsApplicable a b thread c (view_of l.fn.pass) l.fn.held.rows l.kit → IsLinkable a b thread c (view_of l.fn.pass) l.fn.held.rows l.kit → IsRemapIn l.space c
      → LinkedSoFar a b thread c l.kit l.next (view_of l.fn.pass) l.fn.held.rows (view_of l.pass) l.held.rows;
  head : (d : Change) → ReachesPages l.levels l.space (changed_pages (slice_index_or l.kit.changes.items 0 d)) l.held.rows;
  reached : (k : ℕ) (d : Piece) → k < l.at → ReachesPages l.levels l.space (pages_at l.to (slice_index_or l.kit.pieces.items k d)) l.held.rows;
}
