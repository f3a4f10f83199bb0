use Rattle.std.specs.Prelude.{◌≡◌, ℕ, List, [], length, map, vec_capacity}
use Rattle.row_cells.specs.declared.Cell.{Cell}
use Rattle.row_table.specs.declared.view.HeldRow.{HeldRow as KnownRow}
use Rattle.machine_plan.specs.Books.{BookData}
use Rattle.cursor_apply.specs.Putting.{row_place}
use Rattle.cursor_apply.proofs.Backs.{FramesLeft}
use Rattle.cursor_apply.proofs.putting.put_frames.Given as goal

abbrev pub invariant-loop-page : goal.invariant-loop-page
invariant-loop-page l = record {
  back : (b : BookData) (space : ℕ) (known : List (KnownRow (List Cell))) (more slots : List ℕ) → FramesLeft b space known more slots l.fn.frames.items l.fn.seconds.items l.fn.held.rows → FramesLeft b space known more slots l.frames.items l.seconds.items l.held.rows;
  none : l.fn.seconds.items ≡ [] → l.seconds.items ≡ [];
  capacity : vec_capacity l.frames ≡ vec_capacity l.fn.frames;
  second_capacity : vec_capacity l.seconds ≡ vec_capacity l.fn.seconds;
  places : map row_place l.held.rows ≡ map row_place l.fn.held.rows;
  room : l.held.room ≡ l.fn.held.room;
}

abbrev pub decreases-loop-page : goal.decreases-loop-page
decreases-loop-page l = length l.frames.items
