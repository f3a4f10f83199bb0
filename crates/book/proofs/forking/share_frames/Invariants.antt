use Rattle.std.proofs.Common.{◌≡◌, ◌≤◌, drop, length}
use Rattle.std.specs.Vec.{vec_capacity}
use Rattle.book.proofs.Sharing.{LeftSeconds, Shared}
use Rattle.book.proofs.forking.share_frames.Given as goal

abbrev pub invariant-loop-page : goal.invariant-loop-page
invariant-loop-page l = record {
  shared : Shared l.fn.pool l.pool l.own (drop l.page-index l.own) l.frames.items;
  seconds : LeftSeconds l.fn.pool (drop l.page-index l.own) l.seconds.items;
  few : length l.frames.items ≤ l.page-index;
  room : vec_capacity l.fn.frames ≤ vec_capacity l.frames;
  places : vec_capacity l.seconds ≡ vec_capacity l.fn.seconds;
}
