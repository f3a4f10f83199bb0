use Rattle.std.proofs.Common.{ℕ, List, [], ◌∷◌, ◌++◌, map, sym, subst}
use Rattle.std.proofs.lemmas.List.{append_assoc}
use Rattle.std.proofs.lemmas.Result.{err_from_is_err_and}
use Rattle.text_words.specs.Layout.{TextRest}
use Rattle.text_words.specs.Passing.{Passes}
use Rattle.text_words.proofs.Grammars.{first_fault}
use Rattle.text_words.proofs.Passing.{Passes-append, FaultFrom-behind}
use Rattle.mm_script.specs.ScriptText.{file_lines}
use Rattle.mm_script.proofs.Places.{IfBad-weaker}
use Rattle.history_lines.specs.declared.history.History.{History}
use Rattle.history_lines.specs.Accounting.{head_lines, header_lines, frames_line}
use Rattle.history_lines.specs.HistoryText.{entry_line, AreHistoryLines, IsHistoryText, IsFirstFault}
use Rattle.history_lines.proofs.OneHistory.{one_history, fault_refuses}
use Rattle.history_lines.proofs.Bodies.{history_passed}
use Rattle.history_lines.proofs.reading.read_history.Goals as goal

abbrev NoHistory : List ℕ → ℕ → Type 0
NoHistory bytes n = (h : History) → ¬ (IsHistoryText bytes h)

pub returns-in_err-head-clause-none : goal.returns-in_err-head-clause-none
returns-in_err-head-clause-none c =
    let p = err_from_is_err_and c.from_residual.result c.from_residual.ensures.1 in
    let bytes : List ℕ = c.args.bytes.now in
    let old : TextRest = c.of-lines.result in
    rw (p.1, p.2) (IfBad-weaker c.in_err-head.field-0.0 _ (NoHistory bytes)
    (λ n from h. fault_refuses bytes n h (first_fault AreHistoryLines bytes old n c.of-lines.ensures.bytes c.of-lines.ensures.taken from))
    c.in_err-head.ensures.bad)

pub returns-in_err-body-clause-bad : goal.returns-in_err-body-clause-bad
returns-in_err-body-clause-bad c =
    let p = err_from_is_err_and c.from_residual-in_err-body.result c.from_residual-in_err-body.ensures.1 in
    let bytes : List ℕ = c.args.bytes.now in
    let old : TextRest = c.of-lines.result in
    let mid : TextRest = c.read_header.new.lines in
    let head = c.in_ok-head.ensures.ok in
    rw (p.1, p.2) (IfBad-weaker c.in_err-body.field-0.0 _ (IsFirstFault bytes)
    (λ n behind. first_fault AreHistoryLines bytes old n c.of-lines.ensures.bytes c.of-lines.ensures.taken
    (FaultFrom-behind AreHistoryLines old mid [] (head_lines c.in_ok-head.head) n head.1 behind))
    c.in_err-body.ensures.bad)

pub returns-in_err-body-clause-none : goal.returns-in_err-body-clause-none
returns-in_err-body-clause-none c =
    let p = err_from_is_err_and c.from_residual-in_err-body.result c.from_residual-in_err-body.ensures.1 in
    let bytes : List ℕ = c.args.bytes.now in
    let old : TextRest = c.of-lines.result in
    let mid : TextRest = c.read_header.new.lines in
    let head = c.in_ok-head.ensures.ok in
    rw (p.1, p.2) (IfBad-weaker c.in_err-body.field-0.0 _ (NoHistory bytes)
    (λ n behind h. fault_refuses bytes n h (first_fault AreHistoryLines bytes old n c.of-lines.ensures.bytes c.of-lines.ensures.taken
    (FaultFrom-behind AreHistoryLines old mid [] (head_lines c.in_ok-head.head) n head.1 behind)))
    c.in_err-body.ensures.bad)

pub returns-in_err-ends-clause-bad : goal.returns-in_err-ends-clause-bad
returns-in_err-ends-clause-bad c =
    let p = err_from_is_err_and c.from_residual-in_err-ends.result c.from_residual-in_err-ends.ensures.1 in
    let bytes : List ℕ = c.args.bytes.now in
    let old : TextRest = c.of-lines.result in
    let mid : TextRest = c.read_header.new.lines in
    let last : TextRest = c.read_body.new.lines in
    let head = c.in_ok-head.ensures.ok in
    let body = c.in_ok-body.ensures.ok in
    let lines : List (List ℕ) = map entry_line c.in_ok-body.body.entries ++ frames_line c.in_ok-body.body.frames ∷ [] in
    let passed : Passes old last (header_lines c.in_ok-head.head c.in_ok-body.body.shelf ++ lines) =
    subst (Passes old last) (sym (append_assoc (head_lines c.in_ok-head.head) (file_lines c.in_ok-body.body.shelf) lines)) (Passes-append old mid last (head_lines c.in_ok-head.head) (file_lines c.in_ok-body.body.shelf ++ lines) head.1 body.3) in
    rw (p.1, p.2) (IfBad-weaker c.in_err-ends.field-0.0 _ (IsFirstFault bytes)
    (λ n behind. first_fault AreHistoryLines bytes old n c.of-lines.ensures.bytes c.of-lines.ensures.taken
    (FaultFrom-behind AreHistoryLines old last [] (header_lines c.in_ok-head.head c.in_ok-body.body.shelf ++ lines) n passed
    (behind c.in_ok-head.head c.in_ok-body.body.shelf c.in_ok-body.body.entries c.in_ok-body.body.frames head.0 body.0 body.1 body.2)))
    c.in_err-ends.ensures.bad)

pub returns-in_err-ends-clause-none : goal.returns-in_err-ends-clause-none
returns-in_err-ends-clause-none c =
    let p = err_from_is_err_and c.from_residual-in_err-ends.result c.from_residual-in_err-ends.ensures.1 in
    let bytes : List ℕ = c.args.bytes.now in
    let old : TextRest = c.of-lines.result in
    let mid : TextRest = c.read_header.new.lines in
    let last : TextRest = c.read_body.new.lines in
    let head = c.in_ok-head.ensures.ok in
    let body = c.in_ok-body.ensures.ok in
    let lines : List (List ℕ) = map entry_line c.in_ok-body.body.entries ++ frames_line c.in_ok-body.body.frames ∷ [] in
    let passed : Passes old last (header_lines c.in_ok-head.head c.in_ok-body.body.shelf ++ lines) =
    subst (Passes old last) (sym (append_assoc (head_lines c.in_ok-head.head) (file_lines c.in_ok-body.body.shelf) lines)) (Passes-append old mid last (head_lines c.in_ok-head.head) (file_lines c.in_ok-body.body.shelf ++ lines) head.1 body.3) in
    rw (p.1, p.2) (IfBad-weaker c.in_err-ends.field-0.0 _ (NoHistory bytes)
    (λ n behind h. fault_refuses bytes n h (first_fault AreHistoryLines bytes old n c.of-lines.ensures.bytes c.of-lines.ensures.taken
    (FaultFrom-behind AreHistoryLines old last [] (header_lines c.in_ok-head.head c.in_ok-body.body.shelf ++ lines) n passed
    (behind c.in_ok-head.head c.in_ok-body.body.shelf c.in_ok-body.body.entries c.in_ok-body.body.frames head.0 body.0 body.1 body.2))))
    c.in_err-ends.ensures.bad)

pub returns-clause-found : goal.returns-clause-found
returns-clause-found c =
    let head = c.in_ok-head.ensures.ok in
    let body = c.in_ok-body.ensures.ok in
    let ends = c.in_ok-ends.ensures.ok in
    history_passed c.args.bytes.now c.of-lines.result c.read_header.new.lines c.read_body.new.lines c.read_ends.new.lines c.in_ok-head.head c.in_ok-body.body.shelf c.in_ok-body.body.entries c.in_ok-body.body.frames c.in_ok-ends.ends.swap c.in_ok-ends.ends.tables c.accounts_of.result
    c.of-lines.ensures.bytes head.0 body.0 body.1 body.2 ends.0 ends.1 head.1 body.3 ends.2 ends.3 c.accounts_of.ensures.frames c.accounts_of.ensures.swap c.accounts_of.ensures.tables

pub returns-clause-only : goal.returns-clause-only
returns-clause-only c = λ other is_text.
    let head = c.in_ok-head.ensures.ok in
    let body = c.in_ok-body.ensures.ok in
    let ends = c.in_ok-ends.ensures.ok in
    one_history c.args.bytes.now _ other
    (history_passed c.args.bytes.now c.of-lines.result c.read_header.new.lines c.read_body.new.lines c.read_ends.new.lines c.in_ok-head.head c.in_ok-body.body.shelf c.in_ok-body.body.entries c.in_ok-body.body.frames c.in_ok-ends.ends.swap c.in_ok-ends.ends.tables c.accounts_of.result
    c.of-lines.ensures.bytes head.0 body.0 body.1 body.2 ends.0 ends.1 head.1 body.3 ends.2 ends.3 c.accounts_of.ensures.frames c.accounts_of.ensures.swap c.accounts_of.ensures.tables) is_text
