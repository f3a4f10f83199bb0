use Rattle.std.proofs.Common.{◌≡◌, ◌-◌, map, drop, length}
use Rattle.book.specs.Filling.{with_source, file_sources, AreSole}
use Rattle.book.proofs.filling.read_files.Given as goal

abbrev pub invariant-loop-done : goal.invariant-loop-done
invariant-loop-done l = record {
  pool : l.pool ≡ l.initial.pool;
  copied : l.frames ≡ map (with_source (file_sources l.shelf (drop (length l.wants - l.done) l.wants))) l.initial.frames;
  sole : AreSole l.pool l.frames;
}
