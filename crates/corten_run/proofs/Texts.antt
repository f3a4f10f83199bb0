-- The text of a script's history, in its parts, and the end of writing it.
use Rattle.std.proofs.Common.{◌≡◌, ℕ, List, [], ◌++◌, Option, ◌∙◌, refl, ap, subst}
use Rattle.byte_streams.specs.Streams.{HasWrittenPart}
use Rattle.text_words.specs.Layout.{text}
use Rattle.mm_script.specs.declared.script.Script.{Script}
use Rattle.history_lines.specs.Accounting.{header_lines, account_lines}
use Rattle.history_lines.specs.HistoryText.{lines_of}
use Rattle.corten_base.specs.declared.calls.Call.{Call}
use Rattle.corten_base.specs.declared.numbers.Accounts.{Accounts}
use Rattle.corten_base.specs.declared.numbers.Limits.{Limits}
use Rattle.page_map.specs.State.{State, start, accounts}
use Rattle.corten_run.specs.declared.command.Levels.{Levels}
use Rattle.corten_run.specs.Commands.{level_count}
use Rattle.corten_run.specs.Solo.{all_answered, state_after_threads, solo_limits, solo_start, solo_entries, solo_accounts, solo_history, solo_text}
use Rattle.history_lines.proofs.Parts.{part_more, text_parts}

-- the limits of a script with so many levels, by their number
abbrev limits_of : ℕ → Script → Limits
limits_of n script = record { levels = n; frames = script.limits.frames; tables = script.limits.tables; swap = script.limits.swap }

pub start_is : (levels : Levels) (script : Script) (n : ℕ) (st : State) → n ≡ level_count levels → st ≡ start (limits_of n script) script.shelf → st ≡ solo_start levels script
start_is levels script n st e is = is ∙ ap (λ k. start (limits_of k script) script.shelf) e

pub header_is : (levels : Levels) (script : Script) (n : ℕ) (none header : List ℕ) → n ≡ level_count levels → header ≡ none ++ text (header_lines (record { version = 2; limits = limits_of n script }) script.shelf)
    → header ≡ none ++ text (header_lines (record { version = 2; limits = solo_limits levels script }) script.shelf)
header_is levels script n none header e is = is ∙ ap (λ k. none ++ text (header_lines (record { version = 2; limits = limits_of k script }) script.shelf)) e

pub solo_parts : (levels : Levels) (script : Script) → (text (header_lines (record { version = 2; limits = solo_limits levels script }) script.shelf) ++ lines_of (solo_entries levels script)) ++ text (account_lines (solo_accounts levels script)) ≡ solo_text levels script
unfolding solo_text
solo_parts levels script = text_parts (solo_history levels script) [] (text (header_lines (record { version = 2; limits = solo_limits levels script }) script.shelf)) refl refl

module _ (levels : Levels) (script : Script) (st : State) (threads : List (List Call)) (none header : List ℕ) (st_is : st ≡ solo_start levels script) (threads_are : threads ≡ script.threads)
    (none_is : none ≡ []) (head_is : header ≡ none ++ text (header_lines (record { version = 2; limits = solo_limits levels script }) script.shelf)) where
  -- the header and the entries
  pub front_is : header ++ lines_of (all_answered st 0 threads) ≡ text (header_lines (record { version = 2; limits = solo_limits levels script }) script.shelf) ++ lines_of (solo_entries levels script)
  front_is =
      ap (λ t. t ++ lines_of (all_answered st 0 threads)) (head_is ∙ ap (λ t. t ++ text (header_lines (record { version = 2; limits = solo_limits levels script }) script.shelf)) none_is)
      ∙ ap (λ s. text (header_lines (record { version = 2; limits = solo_limits levels script }) script.shelf) ++ lines_of (all_answered s 0 threads)) st_is
      ∙ ap (λ ts. text (header_lines (record { version = 2; limits = solo_limits levels script }) script.shelf) ++ lines_of (all_answered (solo_start levels script) 0 ts)) threads_are

  pub all_is : (a : Accounts) → a ≡ accounts (state_after_threads st 0 threads) 0
      → (header ++ lines_of (all_answered st 0 threads)) ++ text (account_lines a) ≡ solo_text levels script
  all_is a a_is =
      ap (λ b. (header ++ lines_of (all_answered st 0 threads)) ++ text (account_lines b))
      (a_is ∙ ap (λ s. accounts (state_after_threads s 0 threads) 0) st_is ∙ ap (λ ts. accounts (state_after_threads (solo_start levels script) 0 ts) 0) threads_are)
      ∙ ap (λ t. t ++ text (account_lines (solo_accounts levels script))) front_is ∙ solo_parts levels script

  -- a part of the header and the entries is a part of the text
  pub part_of_solo : (held held1 : Option (List ℕ)) → HasWrittenPart held held1 (header ++ lines_of (all_answered st 0 threads)) → HasWrittenPart held held1 (solo_text levels script)
  part_of_solo held held1 part =
      subst (HasWrittenPart held held1) (all_is (accounts (state_after_threads st 0 threads) 0) refl)
      (part_more held held1 (header ++ lines_of (all_answered st 0 threads)) (text (account_lines (accounts (state_after_threads st 0 threads) 0))) part)
