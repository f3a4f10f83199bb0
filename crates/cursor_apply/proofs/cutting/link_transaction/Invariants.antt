use Rattle.std.proofs.Common.{◌≡◌, ℕ, ◌<◌}
use Rattle.std.specs.Prelude.{slice_index_or}
use Rattle.corten_base.specs.declared.calls.Call.{Call}
use Rattle.row_table.specs.Passes.{view_of, kit_of, table_of}
use Rattle.machine_plan.specs.Books.{BookData}
use Rattle.machine_plan.specs.declared.kit.Change.{Change}
use Rattle.cursor_apply.specs.Applying.{IsApplicable}
use Rattle.cursor_apply.specs.Changed.{range_change}
use Rattle.cursor_apply.specs.Linking.{IsLinkable, LinkedSoFar}
use Rattle.cursor_apply.specs.Transacting.{IsTxnIn, ReachesBy}
use Rattle.cursor_apply.proofs.cutting.link_transaction.Given as goal

-- the tables that so many operations cut are there
abbrev pub invariant-loop-at : goal.invariant-loop-at
invariant-loop-at g l = record {
  table : table_of l.pass ≡ table_of l.fn.pass;
  same : kit_of l.pass ≡ kit_of l.fn.pass;
  room : l.held.room ≡ l.fn.held.room;
  so_far : (a b : BookData) (thread : ℕ) (c : Call) → IsApplicable a b thread c (view_of l.fn.pass) l.fn.held.rows l.kit → IsLinkable a b thread c (view_of l.fn.pass) l.fn.held.rows l.kit → IsTxnIn l.space c
      → LinkedSoFar a b thread c l.kit l.next (view_of l.fn.pass) l.fn.held.rows (view_of l.pass) l.held.rows;
  reached : (k : ℕ) (d : Change) → k < l.at → ReachesBy l.levels l.space (range_change (slice_index_or l.kit.changes.items k d)) l.held.rows;
}
