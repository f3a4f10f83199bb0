use Rattle.std.specs.Prelude.{◌≡◌, ℕ, List, length, map, vec_capacity}
use Rattle.row_cells.specs.declared.Cell.{Cell}
use Rattle.row_table.specs.declared.view.HeldRow.{HeldRow as KnownRow}
use Rattle.machine_plan.specs.Books.{BookData}
use Rattle.cursor_apply.specs.Putting.{row_place}
use Rattle.cursor_apply.proofs.PlacedRows.{SlotsToPlace}
use Rattle.cursor_apply.proofs.placing.place_slots.Given as goal

abbrev pub invariant-loop-page : goal.invariant-loop-page
invariant-loop-page l = record {
  back : (b : BookData) (known : List (KnownRow (List Cell))) (more frames : List ℕ) (rest : List ℕ × List ℕ) → SlotsToPlace b l.space known more frames rest l.fn.slots.items l.fn.held.rows → SlotsToPlace b l.space known more frames rest l.slots.items l.held.rows;
  capacity : vec_capacity l.slots ≡ vec_capacity l.fn.slots;
  places : map row_place l.held.rows ≡ map row_place l.fn.held.rows;
  room : l.held.room ≡ l.fn.held.room;
}

abbrev pub decreases-loop-page : goal.decreases-loop-page
decreases-loop-page l = length l.slots.items
