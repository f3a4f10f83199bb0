use Rattle.std.specs.Prelude.{◌≡◌, ℕ, List, [], length, map, vec_capacity}
use Rattle.row_cells.specs.declared.Cell.{Cell}
use Rattle.row_table.specs.declared.view.HeldRow.{HeldRow as KnownRow}
use Rattle.machine_plan.specs.Books.{BookData}
use Rattle.cursor_apply.specs.Putting.{row_place}
use Rattle.cursor_apply.proofs.Backs.{SlotsLeft}
use Rattle.cursor_apply.proofs.putting.put_slots.Given as goal

abbrev pub invariant-loop-page : goal.invariant-loop-page
invariant-loop-page l = record {
  back : (b : BookData) (space : ℕ) (known : List (KnownRow (List Cell))) (more frames : List ℕ) → SlotsLeft b space known more frames l.fn.slots.items l.fn.seconds.items l.fn.held.rows → SlotsLeft b space known more frames l.slots.items l.seconds.items l.held.rows;
  none : l.fn.seconds.items ≡ [] → l.seconds.items ≡ [];
  capacity : vec_capacity l.slots ≡ vec_capacity l.fn.slots;
  second_capacity : vec_capacity l.seconds ≡ vec_capacity l.fn.seconds;
  places : map row_place l.held.rows ≡ map row_place l.fn.held.rows;
  room : l.held.room ≡ l.fn.held.room;
}

abbrev pub decreases-loop-page : goal.decreases-loop-page
decreases-loop-page l = length l.slots.items
