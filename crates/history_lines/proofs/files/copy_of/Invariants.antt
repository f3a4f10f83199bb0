-- The files so far were copied.
use Rattle.std.proofs.Common.{◌≡◌, ◌≤◌, take, length}
use Rattle.history_lines.proofs.files.copy_of.Given as goal

abbrev pub invariant-loop-file : goal.invariant-loop-file
invariant-loop-file l = record {
  copied : l.copy ≡ take l.file l.shelf;
  inside : l.file ≤ length l.shelf;
}
