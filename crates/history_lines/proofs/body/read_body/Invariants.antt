-- The lines so far are those of the files and of the entries.
use Rattle.std.proofs.Common.{◌++◌, map, length}
use Rattle.std.specs.List.{All}
use Rattle.text_words.specs.Passing.{Passes}
use Rattle.mm_script.specs.ScriptText.{file_lines, AreFiles}
use Rattle.history_lines.specs.HistoryText.{entry_line, IsEntryOf}
use Rattle.history_lines.proofs.body.read_body.Given as goal

abbrev pub invariant-loop-line : goal.invariant-loop-line
invariant-loop-line l = record {
  passed : Passes l.fn.lines l.lines (file_lines l.shelf ++ map entry_line l.entries.items);
  are_files : AreFiles l.shelf;
  are_entries : All (IsEntryOf l.fn.head.version) l.entries.items;
}

abbrev pub decreases-loop-line : goal.decreases-loop-line
decreases-loop-line l = length l.lines.bytes
