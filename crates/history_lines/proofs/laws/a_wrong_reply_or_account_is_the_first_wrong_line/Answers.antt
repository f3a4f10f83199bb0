use Rattle.history_lines.proofs.Verdicts.{verdict_at_entry, verdict_at_account}
use Rattle.history_lines.proofs.laws.a_wrong_reply_or_account_is_the_first_wrong_line.Goals as goal

pub returns : goal.returns
returns c = record { reply = λ h i has. verdict_at_entry h has i; account = λ h i has legal. verdict_at_account h has legal i }
