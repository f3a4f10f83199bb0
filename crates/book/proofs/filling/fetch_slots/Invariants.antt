use Rattle.std.proofs.Common.{◌≡◌, ◌+◌, ◌-◌, map, take, drop, length}
use Rattle.std.specs.Vec.{vec_capacity}
use Rattle.book.specs.Pieces.{GivesBack}
use Rattle.book.specs.Filling.{with_source, bytes_of, AreSole}
use Rattle.book.proofs.filling.fetch_slots.Given as goal

abbrev pub invariant-loop-left : goal.invariant-loop-left
invariant-loop-left l = record {
  gives : GivesBack l.initial.area l.area l.initial.slots.items l.slots.items;
  left : l.slots.items ≡ take (length l.initial.slots.items - l._left) l.initial.slots.items;
  long : length l.slots.items + l._left ≡ length l.initial.slots.items;
  room : vec_capacity l.slots ≡ vec_capacity l.initial.slots;
  pool : l.pool ≡ l.initial.pool;
  copied : l.frames ≡ map (with_source (bytes_of (drop (length l.initial.slots.items - l._left) l.initial.slots.items))) l.initial.frames;
  sole : AreSole l.pool l.frames;
}
