use Rattle.std.proofs.Common.{◌≡◌, ◌+◌, ◌≤◌, length, reverse}
use Rattle.std.specs.Vec.{vec_capacity}
use Rattle.book.proofs.Arriving.{Out}
use Rattle.book.proofs.moving.put_out.Given as goal

abbrev pub invariant-loop-done : goal.invariant-loop-done
invariant-loop-done l = record {
  out : Out l.fn.pool l.pool l.fn.area l.area l.fn.own.items (reverse l.own.items) l.left.items l.slots.items;
  long : length l.own.items + l._done ≡ length l.fn.own.items;
  few_left : length l.left.items ≤ l._done;
  few_slots : length l.slots.items ≤ l._done;
  own_room : vec_capacity l.own ≡ vec_capacity l.fn.own;
  left_room : vec_capacity l.fn.left ≤ vec_capacity l.left;
  slots_room : vec_capacity l.fn.slots ≤ vec_capacity l.slots;
}
