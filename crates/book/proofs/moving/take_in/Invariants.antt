use Rattle.std.proofs.Common.{◌≡◌, ◌+◌, ◌≤◌, [], length, reverse}
use Rattle.std.specs.Vec.{vec_capacity}
use Rattle.book.proofs.Arriving.{Arrived, Given}
use Rattle.book.proofs.moving.take_in.Given as goal

abbrev pub invariant-loop-done : goal.invariant-loop-done
invariant-loop-done l = record {
  arrived : Arrived l.fn.pool l.pool l.fn.own.items (reverse l.own.items) l.frames.items;
  given : Given l.fn.area l.area l.fn.own.items (reverse l.own.items) [];
  whole : length l.bytes ≡ 4096;
  long : length l.own.items + l._done ≡ length l.fn.own.items;
  few : length l.frames.items ≤ l._done;
  own_room : vec_capacity l.own ≡ vec_capacity l.fn.own;
  room : vec_capacity l.fn.frames ≤ vec_capacity l.frames;
}
