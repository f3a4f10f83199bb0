use Rattle.std.proofs.Common.{◌≡◌, take, length}
use Rattle.std.specs.Prelude.{map}
use Rattle.std.specs.List.{All}
use Rattle.plain_counts.specs.Cut.{IsShort}
use Rattle.held_needs.specs.Operation.{range_of}
use Rattle.held_needs.proofs.transaction.lacked_by_operations.Given as goal

-- the ranges of the operations before this one are listed
abbrev pub invariant-loop-place : goal.invariant-loop-place
invariant-loop-place l = record {
  listed : take l.place l.ranges ≡ map range_of (take l.place l.ops);
  short : All IsShort l.ranges;
  room : length l.ranges ≡ 16;
}
