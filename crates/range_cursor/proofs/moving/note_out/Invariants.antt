use Rattle.std.specs.Prelude.{◌≡◌, ◌≤◌, map, take, vec_capacity}
use Rattle.range_cursor.specs.Moves.{want_out}
use Rattle.range_cursor.proofs.moving.note_out.Given as goal

-- the wants of the references before this one are listed
abbrev pub invariant-loop-place : goal.invariant-loop-place
invariant-loop-place l = record {
  wants : l.wants.items ≡ map want_out (take l.place l.fn.frames);
  room : 4096 ≤ vec_capacity l.wants;
}
