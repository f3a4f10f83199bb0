use Rattle.std.proofs.Common.{arith}
use Rattle.corten_base.specs.declared.numbers.Limits.{Limits}
use Rattle.mm_script.specs.ScriptText.{AreLimits}
use Rattle.history_lines.specs.Accounting.{HasLevels, IsHeader}
use Rattle.history_lines.proofs.Closings.{closed_has_text, entries_of_two}
use Rattle.history_text.proofs.Reached.{history_entries}
use Rattle.history_text.proofs.laws.a_legal_history_has_a_text.Goals as goal

is_header : (limits : Limits) → AreLimits limits → HasLevels 2 limits.levels → IsHeader (record { version = 2; limits = limits })
is_header limits hl levels = record { version = (omega arith, omega arith); limits = hl; levels = levels }

pub returns : goal.returns
returns c = record {
  entries = λ limits files es hl levels hfs asked legal. history_entries 2 limits files es (is_header limits hl levels) hfs asked legal;
  text = λ limits files es hl levels hfs asked legal. closed_has_text (record { version = 2; limits = limits }) files es (is_header limits hl levels) hfs
      (entries_of_two es (history_entries 2 limits files es (is_header limits hl levels) hfs asked legal));
}
