use Rattle.std.proofs.Common.{◌≢◌, ℕ, ◌<◌, get_or}
use Rattle.history_lines.specs.declared.reply_names.ReplyName.TheVariants.{Ok}
use Rattle.history_lines.specs.declared.reply_names.TheConstants.{NAMES}
use Rattle.history_lines.specs.ReplyNames.{name_word}
use Rattle.history_lines.proofs.reply_names.reply_name.Given as goal

-- the word is none of the names so far
abbrev pub invariant-loop-name : goal.invariant-loop-name
invariant-loop-name l = (k : ℕ) → k < l.name-index → l.word ≢ name_word (get_or NAMES k Ok)
