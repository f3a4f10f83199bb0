use Rattle.std.specs.Prelude.{◌≡◌, ◌-◌, ◌≤◌, length, vec_capacity}
use Rattle.range_cursor.specs.Ranges.{DrawsOn, IsBehind}
use Rattle.range_cursor.proofs.range_drawing.draw_range.Given as goal

-- the references of the pages before the next one were taken, and the rows before this one have no later page
abbrev pub invariant-loop-place : goal.invariant-loop-place
invariant-loop-place l = record {
  low : l.fn.first ≤ l.next;
  high : l.next ≤ l.fn.end;
  count : l.count ≡ length l.held.rows;
  draws : DrawsOn l.fn.space l.fn.first (l.next - l.fn.first) l.initial.held.rows l.held.rows l.initial.frames.items l.frames.items l.initial.slots.items l.slots.items;
  behind : IsBehind l.fn.space l.held.rows l.place l.next l.fn.end;
  frame_room : 4096 ≤ vec_capacity l.frames;
  slot_room : 4096 ≤ vec_capacity l.slots;
  room : l.held.room ≡ l.initial.held.room;
}
