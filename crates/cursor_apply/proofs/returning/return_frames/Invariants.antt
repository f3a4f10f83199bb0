use Rattle.std.specs.Prelude.{◌≡◌, length, map, vec_capacity}
use Rattle.cursor_apply.specs.declared.putting.Reference.TheVariants as reference
use Rattle.cursor_apply.specs.Putting.{row_place}
use Rattle.cursor_apply.proofs.PutKept.{Left}
use Rattle.cursor_apply.proofs.returning.return_frames.Given as goal

abbrev pub invariant-loop-page : goal.invariant-loop-page
invariant-loop-page l = record {
  left : Left (λ r. reference.Frame r) l.fn.frames.items l.frames.items l.fn.held.rows l.held.rows;
  capacity : vec_capacity l.frames ≡ vec_capacity l.fn.frames;
  places : map row_place l.held.rows ≡ map row_place l.fn.held.rows;
  room : l.held.room ≡ l.fn.held.room;
}

abbrev pub decreases-loop-page : goal.decreases-loop-page
decreases-loop-page l = length l.frames.items
