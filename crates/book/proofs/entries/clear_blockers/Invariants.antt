use Rattle.std.proofs.Common.{◌≡◌}
use Rattle.book.proofs.Blockers.{cleared}
use Rattle.book.proofs.entries.clear_blockers.Given as goal

abbrev pub invariant-loop-place : goal.invariant-loop-place
invariant-loop-place l = record {
  list : l.limbo.list ≡ cleared l.place l.initial.limbo.list;
  room : l.limbo.room ≡ l.initial.limbo.room;
}
