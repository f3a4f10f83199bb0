-- The lines of the files so far were added.
use Rattle.std.proofs.Common.{◌≡◌, ◌≤◌, ◌++◌, take, length}
use Rattle.text_words.specs.Layout.{text}
use Rattle.mm_script.specs.ScriptText.{file_lines}
use Rattle.image_text.proofs.printing.push_files.Given as goal

abbrev pub invariant-loop-file : goal.invariant-loop-file
invariant-loop-file l = record {
  written : l.out.items ≡ l.fn.out.items ++ text (file_lines (take l.file l.shelf));
  inside : l.file ≤ length l.shelf;
}
