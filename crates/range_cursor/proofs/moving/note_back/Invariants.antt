use Rattle.std.specs.Prelude.{◌≡◌, ◌≤◌, map, take, vec_capacity}
use Rattle.range_cursor.specs.Moves.{want_back}
use Rattle.range_cursor.proofs.moving.note_back.Given as goal

-- the wants of the references before this one are listed
abbrev pub invariant-loop-place : goal.invariant-loop-place
invariant-loop-place l = record {
  wants : l.wants.items ≡ map want_back (take l.place l.fn.slots);
  room : 4096 ≤ vec_capacity l.wants;
}
