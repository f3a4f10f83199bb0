use Rattle.std.proofs.Common.{◌≡◌, ◌-◌, ◌++◌, not, take, drop, length}
use Rattle.std.specs.List.{filter}
use Rattle.std.specs.Vec.{vec_capacity}
use Rattle.book.specs.Pieces.{GivesBack}
use Rattle.book.specs.Filling.{has_page}
use Rattle.book.proofs.filling.release_frames.Given as goal

abbrev pub invariant-loop-done : goal.invariant-loop-done
invariant-loop-done l = record {
  gives : GivesBack l.initial.pool l.pool l.initial.own.items l.own.items;
  left : l.own.items ≡ take (length l.initial.own.items - l.done) l.initial.own.items ++ filter (λ r. not (has_page l.frames r.0)) (drop (length l.initial.own.items - l.done) l.initial.own.items);
  room : vec_capacity l.own ≡ vec_capacity l.initial.own;
}
