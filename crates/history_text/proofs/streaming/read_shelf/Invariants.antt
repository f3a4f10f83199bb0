-- The lines so far are those of the files.
use Rattle.std.proofs.Common.{[], ◌++◌}
use Rattle.text_words.specs.Passing.{Passes}
use Rattle.mm_script.specs.ScriptText.{file_lines, AreFiles}
use Rattle.std.proofs.Common.{length}
use Rattle.history_text.proofs.streaming.read_shelf.Given as goal

abbrev pub invariant-loop-line : goal.invariant-loop-line
invariant-loop-line l = record {
  passed : Passes l.fn.lines l.lines (file_lines l.shelf ++ []);
  are_files : AreFiles l.shelf;
}

abbrev pub decreases-loop-line : goal.decreases-loop-line
decreases-loop-line l = length l.lines.bytes
