use Rattle.std.proofs.Common.{◌+◌, List, ℕ, [], ◌∷◌, ◌++◌, map, sym, subst}
use Rattle.std.proofs.lemmas.List.Elements.{All-push}
use Rattle.text_words.specs.Layout.{TextRest}
use Rattle.text_words.specs.Passing.{Passes, FaultFrom}
use Rattle.text_words.proofs.Passing.{Passes-line}
use Rattle.mm_script.specs.ScriptText.{file_lines, AreFiles}
use Rattle.history_lines.specs.Accounting.{head_lines, frames_line}
use Rattle.history_lines.specs.Files.{IsNextFile, NoFileHere}
use Rattle.history_lines.specs.HistoryText.{entry_line, IsEntryOf, AreHistoryLines}
use Rattle.history_lines.proofs.CountLines.{line_is}
use Rattle.history_lines.proofs.Bodies.{at_none, more_files, more_are_files, more_entries, body_ends, body_fault, end_fault}
use Rattle.history_lines.proofs.body.read_body.Goals as goal

pub returns-clause-bad : goal.returns-clause-bad
returns-clause-bad c =
    let l = c.loop-line in
    subst (λ place. FaultFrom AreHistoryLines c.args.lines.now (head_lines c.args.head) (place + 1)) (sym c.taken-2.ensures.value)
    (subst (λ place. FaultFrom AreHistoryLines c.args.lines.now (head_lines c.args.head) (place.taken + 1)) (sym c.in_default.ensures.same)
    (end_fault c.args.lines.now l.lines c.args.head l.shelf l.entries.items c.requires.head l.invariant.are_files l.invariant.are_entries l.invariant.passed c.in_default.ensures.none))

pub loop-line-preserved-then-branch : goal.loop-line-preserved-then-branch
loop-line-preserved-then-branch c =
    let l = c.loop-line in
    let new : TextRest = c.next_line.new.self in
    let line : List ℕ = c.in-Some.line.now in
    let next : Passes l.lines new (line ∷ []) = Passes-line l.lines new line c.in-Some.ensures.is_line c.in-Some.ensures.line c.in-Some.ensures.taken in
    let f : IsNextFile line l.entries.items l.shelf c.take_file.new.shelf =
    subst (λ es. IsNextFile line es l.shelf c.take_file.new.shelf) c.as_slice.ensures.value (rw c.if-branch.true at c.in_ok-take_file.ensures.taken) in
    record {
      passed = more_files c.args.lines.now l.lines new l.shelf c.take_file.new.shelf l.entries.items line f l.invariant.passed next;
      are_files = more_are_files l.shelf c.take_file.new.shelf l.entries.items line f l.invariant.are_files;
      are_entries = l.invariant.are_entries;
    }

pub returns-in_default-counts_of-clause-bad : goal.returns-in_default-counts_of-clause-bad
returns-in_default-counts_of-clause-bad c =
    let l = c.loop-line in
    let new : TextRest = c.next_line.new.self in
    let line : List ℕ = c.in-Some.line.now in
    let next : Passes l.lines new (line ∷ []) = Passes-line l.lines new line c.in-Some.ensures.is_line c.in-Some.ensures.line c.in-Some.ensures.taken in
    let none = at_none c.in_ok-entry.field-0 _ c.in_default-2.not-Some c.in_ok-entry.ensures.none in
    let kept = rw c.if-branch.false at c.in_ok-take_file.ensures.none in
    let no_file : NoFileHere l.shelf l.entries.items line = subst (λ es. NoFileHere l.shelf es line) c.as_slice.ensures.value kept.0 in
    subst (FaultFrom AreHistoryLines c.args.lines.now (head_lines c.args.head)) (sym c.taken.ensures.value)
    (body_fault c.args.lines.now l.lines new c.args.head l.shelf l.entries.items line c.requires.head l.invariant.are_files l.invariant.are_entries c.requires.next l.invariant.passed next no_file none c.in_default-counts_of.ensures.none)

pub returns-in_default-2-clause-ok : goal.returns-in_default-2-clause-ok
returns-in_default-2-clause-ok c =
    let l = c.loop-line in
    let old : TextRest = c.args.lines.now in
    let new : TextRest = c.next_line.new.self in
    let line : List ℕ = c.in-Some.line.now in
    let next : Passes l.lines new (line ∷ []) = Passes-line l.lines new line c.in-Some.ensures.is_line c.in-Some.ensures.line c.in-Some.ensures.taken in
    let frames = c.in-Some-counts_of.ensures.found in
    let kept = rw c.if-branch.false at c.in_ok-take_file.ensures.none in
    let last : Passes old new (file_lines l.shelf ++ (map entry_line l.entries.items ++ frames_line c.in-Some-counts_of.frames ∷ [])) =
    body_ends old l.lines new l.shelf l.entries.items c.in-Some-counts_of.frames l.invariant.passed (subst (λ x. Passes l.lines new (x ∷ [])) (line_is line _ frames.1) next) in
    rw c.of.ensures (
      subst AreFiles (sym kept.1) l.invariant.are_files,
      l.invariant.are_entries,
      frames.0,
      subst (λ fs. Passes old new (file_lines fs ++ (map entry_line l.entries.items ++ frames_line c.in-Some-counts_of.frames ∷ []))) (sym kept.1) last,
    )

pub loop-line-preserved : goal.loop-line-preserved
loop-line-preserved c =
    let l = c.loop-line in
    let old : TextRest = c.args.lines.now in
    let new : TextRest = c.next_line.new.self in
    let line : List ℕ = c.in-Some.line.now in
    let next : Passes l.lines new (line ∷ []) = Passes-line l.lines new line c.in-Some.ensures.is_line c.in-Some.ensures.line c.in-Some.ensures.taken in
    let found = rw c.in-Some-2.is at c.in_ok-entry.ensures.found in
    let kept = rw c.if-branch.false at c.in_ok-take_file.ensures.none in
    let passed : Passes old new (file_lines l.shelf ++ map entry_line (l.entries.items ++ c.in-Some-2.entry ∷ [])) =
    more_entries old l.lines new l.shelf l.entries.items c.in-Some-2.entry line l.invariant.passed next found.1 in
    rw c.in_ok-push.ensures.items (record {
      passed = subst (λ fs. Passes old new (file_lines fs ++ map entry_line (l.entries.items ++ c.in-Some-2.entry ∷ []))) (sym kept.1) passed;
      are_files = subst AreFiles (sym kept.1) l.invariant.are_files;
      are_entries = All-push (IsEntryOf c.args.head.version) l.entries.items c.in-Some-2.entry l.invariant.are_entries found.0;
    })
