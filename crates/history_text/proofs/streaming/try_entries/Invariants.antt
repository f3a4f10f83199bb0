-- The entries so far were tried, and the line behind them was taken.
use Rattle.std.proofs.Common.{◌≡◌, ◌+◌, ℕ, List, [], length}
use Rattle.corten_base.specs.declared.calls.Entry.{Entry}
use Rattle.text_words.specs.Layout.{TextRest}
use Rattle.history_text.specs.Streaming.{IsAt, IsTried}
use Rattle.history_text.proofs.streaming.try_entries.Given as goal

abbrev pub invariant-loop-entry : goal.invariant-loop-entry
invariant-loop-entry l = record {
  entries : List Entry;
  at : (files : List (List ℕ)) (old : TextRest) → IsAt l.fn.head files old [] l.fn.first l.fn.lines → IsAt l.fn.head files old entries l.line l.lines;
  counted : l.lines.taken ≡ l.fn.lines.taken + length entries;
  tried : IsTried l.fn.plain l.fn.lines.taken entries l.plain l.wrong;
}

abbrev pub decreases-loop-entry : goal.decreases-loop-entry
decreases-loop-entry l = length l.lines.bytes
