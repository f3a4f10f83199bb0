-- What `solo` makes of a script: thread 0's calls are answered first, then thread 1's and so on, by the plain page map with no
-- table in limbo, with four levels of page tables or with five.
--     answered, state_after_calls      the answered calls of one thread, and the state that they leave
--     all_answered, state_after_threads      those of all threads
--     solo_limits, solo_start      the limits of a script with so many levels, and the state before its calls
--     solo_entries, solo_accounts, solo_history      the answered calls of a script, its accounts, and the history of both
--     solo_text      the text of that history
use Rattle.std.specs.Prelude.{ℕ, ◌+◌, List, [], ◌∷◌, ◌++◌}
use Rattle.corten_base.specs.declared.calls.Call.{Call}
use Rattle.corten_base.specs.declared.calls.Entry.{Entry}
use Rattle.corten_base.specs.declared.numbers.Accounts.{Accounts}
use Rattle.corten_base.specs.declared.numbers.Limits.{Limits}
use Rattle.page_map.specs.State.{State, start, accounts}
use Rattle.page_map.specs.Step.{step}
use Rattle.mm_script.specs.declared.script.Script.{Script}
use Rattle.history_lines.specs.declared.history.History.{History}
use Rattle.history_lines.specs.HistoryText.{history_text}
use Rattle.corten_run.specs.declared.command.Levels.{Levels}
use Rattle.corten_run.specs.Commands.{level_count}

abbrev pub answered : State → ℕ → List Call → List Entry
answered st thread [] = []
answered st thread (c ∷ cs) = record { thread = thread; call = c; reply = (step st thread c 0).0 } ∷ answered (step st thread c 0).1 thread cs

abbrev pub state_after_calls : State → ℕ → List Call → State
state_after_calls st thread [] = st
state_after_calls st thread (c ∷ cs) = state_after_calls (step st thread c 0).1 thread cs

abbrev pub all_answered : State → ℕ → List (List Call) → List Entry
all_answered st thread [] = []
all_answered st thread (cs ∷ more) = answered st thread cs ++ all_answered (state_after_calls st thread cs) (thread + 1) more

abbrev pub state_after_threads : State → ℕ → List (List Call) → State
state_after_threads st thread [] = st
state_after_threads st thread (cs ∷ more) = state_after_threads (state_after_calls st thread cs) (thread + 1) more

-- a script's limits, with so many levels
abbrev pub solo_limits : Levels → Script → Limits
solo_limits levels script = record { levels = level_count levels; frames = script.limits.frames; tables = script.limits.tables; swap = script.limits.swap }

abbrev pub solo_start : Levels → Script → State
solo_start levels script = start (solo_limits levels script) script.shelf

abbrev pub solo_entries : Levels → Script → List Entry
solo_entries levels script = all_answered (solo_start levels script) 0 script.threads

abbrev pub solo_accounts : Levels → Script → Accounts
solo_accounts levels script = accounts (state_after_threads (solo_start levels script) 0 script.threads) 0

abbrev pub solo_history : Levels → Script → History
solo_history levels script = record {
  version = 2;
  limits = solo_limits levels script;
  shelf = script.shelf;
  entries = solo_entries levels script;
  accounts = solo_accounts levels script;
}

unfoldable pub solo_text : Levels → Script → List ℕ
solo_text levels script = history_text (solo_history levels script)
