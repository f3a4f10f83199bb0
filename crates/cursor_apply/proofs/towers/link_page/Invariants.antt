use Rattle.std.proofs.Common.{◌≡◌, ℕ, List}
use Rattle.corten_base.specs.declared.calls.Call.{Call}
use Rattle.row_cells.specs.declared.Cell.{Cell}
use Rattle.row_table.specs.Passes.{view_of, kit_of, table_of}
use Rattle.row_table.specs.declared.view.PassView.{PassView}
use Rattle.table_place.specs.declared.Place.{Place}
use Rattle.machine_plan.specs.Books.{BookData}
use Rattle.machine_plan.specs.Held.{ListHolds}
use Rattle.machine_plan.specs.HeldRows.{Row}
use Rattle.cursor_apply.specs.Linking.{IsLinking, LinkedSoFar, IsLowest, MayLinkPage}
use Rattle.cursor_apply.proofs.towers.link_page.Given as goal

-- the lowest row that has the page is at this level
abbrev pub invariant-loop-level : goal.invariant-loop-level
invariant-loop-level g l = record {
  table : table_of l.pass ≡ table_of l.fn.pass;
  same : kit_of l.pass ≡ kit_of l.fn.pass;
  room : l.held.room ≡ l.fn.held.room;
  kept : (p : Place) → ListHolds l.fn.held.rows p → ListHolds l.held.rows p;
  lowest : IsLowest l.levels l.space l.page l.level l.held.rows;
  so_far : (a b : BookData) (thread : ℕ) (c : Call) (v : PassView (List Cell) g.row.P-Book.Denot g.row.P-Entry.Denot) (rows : List Row)
      → IsLinking l.levels l.fn.held.room a b thread c l.kit v rows → LinkedSoFar a b thread c l.kit l.next v rows (view_of l.fn.pass) l.fn.held.rows → MayLinkPage a b rows l.space l.page l.low
      → LinkedSoFar a b thread c l.kit l.done v rows (view_of l.pass) l.held.rows;
}

abbrev pub decreases-loop-level : goal.decreases-loop-level
decreases-loop-level g l = l.level
