use Rattle.std.proofs.Common.{◌≡◌, ◌+◌, ◌-◌, ◌<◌, ℕ, drop, length}
use Rattle.std.specs.Prelude.{slice_index}
use Rattle.book.specs.Filling.{bytes_of}
use Rattle.book.specs.Storing.{byte_from}
use Rattle.book.proofs.storing.load.Given as goal

abbrev pub invariant-loop-done : goal.invariant-loop-done
invariant-loop-done l = record {
  long : length l.bytes ≡ length l.initial.bytes;
  loaded : (i : ℕ) → i < length l.initial.bytes → slice_index l.bytes i ≡ byte_from (bytes_of (drop (length l.frames - l.done) l.frames)) (slice_index l.initial.bytes i) (l.at + i);
}
