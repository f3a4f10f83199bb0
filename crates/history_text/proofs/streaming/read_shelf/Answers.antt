use Rattle.std.proofs.Common.{◌+◌, List, ℕ, [], ◌∷◌, sym, subst}
use Rattle.std.proofs.lemmas.List.Elements.{All-nil}
use Rattle.text_words.specs.Layout.{TextRest}
use Rattle.text_words.specs.Passing.{Passes, FaultFrom}
use Rattle.text_words.proofs.Passing.{Passes-line}
use Rattle.history_lines.specs.Accounting.{head_lines}
use Rattle.history_lines.specs.Files.{IsNextFile}
use Rattle.history_lines.specs.HistoryText.{IsEntryOf, AreHistoryLines}
use Rattle.history_lines.proofs.Bodies.{more_files, more_are_files, end_fault}
use Rattle.history_text.specs.Streaming.{IsAt}
use Rattle.history_text.proofs.streaming.read_shelf.Goals as goal

pub returns-clause-bad : goal.returns-clause-bad
returns-clause-bad c =
    let l = c.loop-line in
    subst (λ place. FaultFrom AreHistoryLines c.args.lines.now (head_lines c.args.head) (place + 1)) (sym c.taken.ensures.value)
    (subst (λ place. FaultFrom AreHistoryLines c.args.lines.now (head_lines c.args.head) (place.taken + 1)) (sym c.in_default.ensures.same)
    (end_fault c.args.lines.now l.lines c.args.head l.shelf [] c.requires.head l.invariant.are_files (All-nil (IsEntryOf c.args.head.version)) l.invariant.passed c.in_default.ensures.none))

pub loop-line-preserved : goal.loop-line-preserved
loop-line-preserved c =
    let l = c.loop-line in
    let new : TextRest = c.next_line.new.self in
    let line : List ℕ = c.in-Some.line.now in
    let next : Passes l.lines new (line ∷ []) = Passes-line l.lines new line c.in-Some.ensures.is_line c.in-Some.ensures.line c.in-Some.ensures.taken in
    let f : IsNextFile line [] l.shelf c.take_file.new.shelf = rw c.if-not-branch.false at c.in_ok-take_file.ensures.taken in
    record {
      passed = more_files c.args.lines.now l.lines new l.shelf c.take_file.new.shelf [] line f l.invariant.passed next;
      are_files = more_are_files l.shelf c.take_file.new.shelf [] line f l.invariant.are_files;
    }

pub returns-then-not-branch-clause-ok : goal.returns-then-not-branch-clause-ok
returns-then-not-branch-clause-ok c =
    let l = c.loop-line in
    let new : TextRest = c.next_line.new.self in
    let line : List ℕ = c.in-Some.line.now in
    let next : Passes l.lines new (line ∷ []) = Passes-line l.lines new line c.in-Some.ensures.is_line c.in-Some.ensures.line c.in-Some.ensures.taken in
    let kept = rw c.if-not-branch.true at c.in_ok-take_file.ensures.none in
    subst (λ fs. IsAt c.args.head fs c.args.lines.now [] line new) (sym kept.1) (record {
      header = c.requires.head;
      are_files = l.invariant.are_files;
      no_levels = c.requires.next;
      are_entries = All-nil (IsEntryOf c.args.head.version);
      no_file = kept.0;
      before = l.lines;
      passed = l.invariant.passed;
      next = next;
    })
