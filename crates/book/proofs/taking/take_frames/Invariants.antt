use Rattle.std.proofs.Common.{◌≤◌, drop, length}
use Rattle.std.specs.List.{All}
use Rattle.std.specs.Vec.{vec_capacity}
use Rattle.book.specs.Filling.{IsFresh}
use Rattle.book.specs.Granting.{unused_in, Takes}
use Rattle.book.specs.Taking.{takes_frame, wanting}
use Rattle.book.proofs.taking.take_frames.Given as goal

abbrev pub invariant-loop-page : goal.invariant-loop-page
invariant-loop-page l = record {
  takes : Takes l.initial.pool l.pool (wanting (takes_frame l.initial.pool.counts) l.wants) (wanting (takes_frame l.initial.pool.counts) (drop l.page-index l.wants)) l.frames.items;
  enough : length (wanting (takes_frame l.initial.pool.counts) (drop l.page-index l.wants)) ≤ length (unused_in l.pool.counts);
  few : length l.frames.items ≤ l.page-index;
  fresh : All (IsFresh l.pool) l.frames.items;
  room : vec_capacity l.initial.frames ≤ vec_capacity l.frames;
}
