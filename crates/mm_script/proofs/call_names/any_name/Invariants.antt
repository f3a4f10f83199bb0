use Rattle.std.proofs.Common.{◌≢◌, ℕ, ◌<◌, get_or}
use Rattle.mm_script.specs.declared.call_names.CallName.TheVariants.{Map}
use Rattle.mm_script.specs.declared.call_names.TheConstants.{NAMES}
use Rattle.mm_script.specs.CallNames.{name_word}
use Rattle.mm_script.proofs.call_names.any_name.Given as goal

-- the word is none of the names so far
abbrev pub invariant-loop-name : goal.invariant-loop-name
invariant-loop-name l = (k : ℕ) → k < l.name-index → l.word ≢ name_word (get_or NAMES k Map)
