use Rattle.std.proofs.Common.{refl, sym}
use Rattle.history_lines.specs.HistoryText.{history_text}
use Rattle.history_lines.proofs.OneHistory.{one_history}
use Rattle.history_lines.proofs.laws.printing_and_reading_are_inverse.Goals as goal

pub returns : goal.returns
returns c = record {
  printed = λ h has. record { has_text = has; whole = refl };
  read = λ h other has text. one_history (history_text h) h other (record { has_text = has; whole = refl }) text;
  again = λ bytes h text. sym text.whole;
}
