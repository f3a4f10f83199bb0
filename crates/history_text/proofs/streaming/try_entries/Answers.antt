use Rattle.std.proofs.Common.{◌≡◌, ◌+◌, List, ℕ, [], ◌∷◌, ◌++◌, map, length, sym, subst, ◌∙◌, arith}
use Rattle.std.proofs.lemmas.List.{length-append}
use Rattle.std.proofs.lemmas.List.Elements.{All-push}
use Rattle.text_words.specs.Layout.{TextRest}
use Rattle.text_words.specs.Passing.{Passes, FaultFrom}
use Rattle.text_words.proofs.Passing.{Passes-line}
use Rattle.mm_script.specs.ScriptText.{file_lines}
use Rattle.history_lines.specs.Accounting.{head_lines}
use Rattle.history_lines.specs.HistoryText.{entry_line, IsEntryOf, AreHistoryLines}
use Rattle.history_lines.proofs.CountLines.{line_is}
use Rattle.history_lines.proofs.Bodies.{at_none, more_entries, body_ends, body_fault, end_fault}
use Rattle.history_text.proofs.Tried.{at_next}
use Rattle.history_text.proofs.streaming.try_entries.Goals as goal

pub returns-in_default-next_line-clause-bad : goal.returns-in_default-next_line-clause-bad
returns-in_default-next_line-clause-bad c = λ files old start.
    let l = c.loop-entry in
    let es = l.invariant.entries in
    let e = c.in-Some.entry in
    let head = c.args.head in
    let a = l.invariant.at files old start in
    let found = rw c.in-Some.is at c.in_ok-entry.ensures.found in
    let passed : Passes old l.lines (file_lines files ++ map entry_line (es ++ e ∷ [])) = more_entries old a.before l.lines files es e l.line.now a.passed a.next found.1 in
    subst (λ place. FaultFrom AreHistoryLines old (head_lines head) (place + 1)) (sym c.taken-in_default-next_line.ensures.value)
    (subst (λ (place : TextRest). FaultFrom AreHistoryLines old (head_lines head) (place.taken + 1)) (sym c.in_default-next_line.ensures.same)
    (end_fault old l.lines head files (es ++ e ∷ []) a.header a.are_files (All-push (IsEntryOf head.version) es e a.are_entries found.0) passed c.in_default-next_line.ensures.none))

pub loop-entry-preserved-in-Some-next_line : goal.loop-entry-preserved-in-Some-next_line
loop-entry-preserved-in-Some-next_line c =
    let l = c.loop-entry in
    let es = l.invariant.entries in
    let e = c.in-Some.entry in
    let new : TextRest = c.next_line.new.self in
    let next : List ℕ = c.in-Some-next_line.next.now in
    let found = rw c.in-Some.is at c.in_ok-entry.ensures.found in
    let more : Passes l.lines new (next ∷ []) = Passes-line l.lines new next c.in-Some-next_line.ensures.is_line c.in-Some-next_line.ensures.line c.in-Some-next_line.ensures.taken in
    let one : new.taken ≡ l.lines.taken + 1 = c.in-Some-next_line.ensures.taken in
    let count : l.lines.taken ≡ c.args.lines.now.taken + length es = l.invariant.counted in
    record {
      entries = es ++ e ∷ [];
      at = λ files old start. at_next c.args.head files old l.lines new es e l.line.now next (l.invariant.at files old start) found.0 found.1 more;
      counted = let long = length-append es (e ∷ []) in omega (arith, one, count, long);
      tried = c.in_ok-wrong.ensures c.args.plain.now c.args.lines.now.taken es (c.taken.ensures.value ∙ count) l.invariant.tried;
    }

pub loop-entry-preserved : goal.loop-entry-preserved
loop-entry-preserved c =
    let l = c.loop-entry in
    let es = l.invariant.entries in
    let e = c.in-Some.entry in
    let new : TextRest = c.next_line.new.self in
    let next : List ℕ = c.in-Some-next_line.next.now in
    let found = rw c.in-Some.is at c.in_ok-entry.ensures.found in
    let more : Passes l.lines new (next ∷ []) = Passes-line l.lines new next c.in-Some-next_line.ensures.is_line c.in-Some-next_line.ensures.line c.in-Some-next_line.ensures.taken in
    let one : new.taken ≡ l.lines.taken + 1 = c.in-Some-next_line.ensures.taken in
    let count : l.lines.taken ≡ c.args.lines.now.taken + length es = l.invariant.counted in
    record {
      entries = es ++ e ∷ [];
      at = λ files old start. at_next c.args.head files old l.lines new es e l.line.now next (l.invariant.at files old start) found.0 found.1 more;
      counted = let long = length-append es (e ∷ []) in omega (arith, one, count, long);
      tried = c.in_ok-wrong.ensures c.args.plain.now c.args.lines.now.taken es (c.taken.ensures.value ∙ count) l.invariant.tried;
    }

pub returns-in_default-counts_of-clause-bad : goal.returns-in_default-counts_of-clause-bad
returns-in_default-counts_of-clause-bad c = λ files old start.
    let l = c.loop-entry in
    let a = l.invariant.at files old start in
    let none = at_none c.in_ok-entry.field-0 _ c.in_default.not-Some c.in_ok-entry.ensures.none in
    subst (FaultFrom AreHistoryLines old (head_lines c.args.head)) (sym c.taken-in_default-counts_of.ensures.value)
    (body_fault old a.before l.lines c.args.head files l.invariant.entries l.line.now a.header a.are_files a.are_entries a.no_levels a.passed a.next a.no_file none c.in_default-counts_of.ensures.none)

pub returns-clause-ok : goal.returns-clause-ok
returns-clause-ok c = λ files old start.
    let l = c.loop-entry in
    let es = l.invariant.entries in
    let a = l.invariant.at files old start in
    let frames = c.in-Some-counts_of.ensures.found in
    record {
      entries = es;
      are_entries = a.are_entries;
      are_counts = frames.0;
      passed = body_ends old a.before l.lines files es c.in-Some-counts_of.frames a.passed (subst (λ x. Passes a.before l.lines (x ∷ [])) (line_is l.line.now _ frames.1) a.next);
      counted = l.invariant.counted;
      tried = l.invariant.tried;
    }
