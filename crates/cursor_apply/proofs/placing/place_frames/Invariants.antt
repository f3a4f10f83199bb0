use Rattle.std.specs.Prelude.{◌≡◌, ℕ, List, length, map, vec_capacity}
use Rattle.row_cells.specs.declared.Cell.{Cell}
use Rattle.row_table.specs.declared.view.HeldRow.{HeldRow as KnownRow}
use Rattle.machine_plan.specs.Books.{BookData}
use Rattle.cursor_apply.specs.Putting.{row_place}
use Rattle.cursor_apply.proofs.PlacedRows.{FramesToPlace}
use Rattle.cursor_apply.proofs.placing.place_frames.Given as goal

abbrev pub invariant-loop-page : goal.invariant-loop-page
invariant-loop-page l = record {
  back : (b : BookData) (known : List (KnownRow (List Cell))) (more slots : List ℕ) (rest : List ℕ × List ℕ) → FramesToPlace b l.space known more slots rest l.fn.frames.items l.fn.held.rows → FramesToPlace b l.space known more slots rest l.frames.items l.held.rows;
  capacity : vec_capacity l.frames ≡ vec_capacity l.fn.frames;
  places : map row_place l.held.rows ≡ map row_place l.fn.held.rows;
  room : l.held.room ≡ l.fn.held.room;
}

abbrev pub decreases-loop-page : goal.decreases-loop-page
decreases-loop-page l = length l.frames.items
