use Rattle.std.proofs.Common.{ℕ, List, []}
use Rattle.std.proofs.lemmas.Result.{err_from_is_err_and}
use Rattle.text_words.specs.Layout.{TextRest}
use Rattle.text_words.proofs.Grammars.{first_fault}
use Rattle.text_words.proofs.Passing.{FaultFrom-behind}
use Rattle.mm_script.proofs.Places.{IfBad-weaker}
use Rattle.history_lines.specs.Accounting.{head_lines}
use Rattle.history_lines.specs.HistoryText.{AreHistoryLines, IsFirstFault}
use Rattle.history_text.proofs.streaming.check_text.Goals as goal

pub returns-in_err-first-clause-bad : goal.returns-in_err-first-clause-bad
returns-in_err-first-clause-bad c =
    let p = err_from_is_err_and c.from_residual-in_err-first.result c.from_residual-in_err-first.ensures.1 in
    let bytes : List ℕ = c.args.bytes.now in
    let old : TextRest = c.of-lines.result in
    let mid : TextRest = c.read_header.new.lines in
    let head = c.in_ok-head.ensures.ok in
    rw (p.1, p.2) (IfBad-weaker c.in_err-first.field-0.0 _ (IsFirstFault bytes)
    (λ n behind. first_fault AreHistoryLines bytes old n c.of-lines.ensures.bytes c.of-lines.ensures.taken
    (FaultFrom-behind AreHistoryLines old mid [] (head_lines c.in_ok-head.head) n head.1 behind))
    c.in_err-first.ensures.bad)

pub judge_behind-requires : goal.judge_behind-requires
judge_behind-requires c = (
  c.args.bytes.now,
  record {
    files = c.read_shelf.new.shelf;
    whole = c.of-lines.result;
    behind = c.read_header.new.lines;
    bytes_are = c.of-lines.ensures.bytes;
    none_taken = c.of-lines.ensures.taken;
    header = c.in_ok-head.ensures.ok.1;
    at = c.in_ok-first.ensures.ok;
    state = c.in_ok-plain.ensures.ok;
  },
)
