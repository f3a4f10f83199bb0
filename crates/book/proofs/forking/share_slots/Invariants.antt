use Rattle.std.proofs.Common.{◌≡◌, ◌≤◌, drop, length}
use Rattle.std.specs.Vec.{vec_capacity}
use Rattle.book.proofs.Sharing.{LeftSeconds, Shared}
use Rattle.book.proofs.forking.share_slots.Given as goal

abbrev pub invariant-loop-page : goal.invariant-loop-page
invariant-loop-page l = record {
  shared : Shared l.fn.area l.area l.own (drop l.page-index l.own) l.slots.items;
  seconds : LeftSeconds l.fn.area (drop l.page-index l.own) l.seconds.items;
  few : length l.slots.items ≤ l.page-index;
  room : vec_capacity l.fn.slots ≤ vec_capacity l.slots;
  places : vec_capacity l.seconds ≡ vec_capacity l.fn.seconds;
}
