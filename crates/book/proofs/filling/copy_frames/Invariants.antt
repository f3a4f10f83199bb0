use Rattle.std.proofs.Common.{◌≡◌, ◌-◌, map, drop, length}
use Rattle.book.specs.Filling.{with_source, bytes_of, AreSole}
use Rattle.book.proofs.filling.copy_frames.Given as goal

abbrev pub invariant-loop-done : goal.invariant-loop-done
invariant-loop-done l = record {
  pool : l.pool ≡ l.initial.pool;
  copied : l.frames ≡ map (with_source (bytes_of (drop (length l.own - l.done) l.own))) l.initial.frames;
  sole : AreSole l.pool l.frames;
}
