use Rattle.std.specs.Prelude.{◌≡◌, ◌-◌, ◌≤◌, vec_capacity}
use Rattle.range_cursor.specs.Ranges.{DrawsOn}
use Rattle.range_cursor.proofs.range_drawing.draw_pages.Given as goal

-- the references of the pages before this one were taken
abbrev pub invariant-loop-page : goal.invariant-loop-page
invariant-loop-page l = record {
  low : l.fn.first ≤ l.page;
  high : l.page ≤ l.fn.end;
  draws : DrawsOn l.fn.space l.fn.first (l.page - l.fn.first) l.initial.held.rows l.held.rows l.initial.frames.items l.frames.items l.initial.slots.items l.slots.items;
  frame_room : 4096 ≤ vec_capacity l.frames;
  slot_room : 4096 ≤ vec_capacity l.slots;
  room : l.held.room ≡ l.initial.held.room;
}
