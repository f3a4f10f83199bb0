-- The history that `solo` makes of a script is legal, and its accounts are right.
use Rattle.std.proofs.Common.{◌≡◌, ℕ, ◌+◌, ◌<◌, ◌≤◌, List, [], ◌∷◌, length, refl, sym, ap, subst, ◌∙◌, arith}
use Rattle.std.specs.List.{All}
use Rattle.std.proofs.lemmas.List.Elements.{All-nil, All-cons, All-head, All-tail, All-append}
use Rattle.corten_base.specs.declared.calls.Call.{Call}
use Rattle.corten_base.specs.declared.calls.Entry.{Entry}
use Rattle.corten_base.specs.declared.calls.Reply.{Reply}
use Rattle.page_map.specs.State.{State, accounts, linked, IsConsistent}
use Rattle.page_map.specs.Step.{step}
use Rattle.page_map.specs.History.{IsLegal, after, limbo_of}
use Rattle.page_map.proofs.Histories.{legal_join, after_append}
use Rattle.mm_script.specs.declared.script.Script.{Script}
use Rattle.mm_script.specs.CallLine.{IsCall}
use Rattle.mm_script.specs.ScriptText.{AreLimits, IsScript}
use Rattle.history_lines.specs.HistoryText.{IsAsked, IsEntryOf, HasText}
use Rattle.history_lines.specs.Accounting.{HasLevels, IsHeader}
use Rattle.history_lines.specs.Checking.{AreRight, IsLegalHistory}
use Rattle.history_lines.proofs.Closings.{own_accounts, closed_has_text, final_is_consistent, entries_of_two}
use Rattle.history_text.proofs.Reached.{history_entries}
use Rattle.corten_run.specs.declared.command.Levels.{Levels}
use Rattle.corten_run.specs.declared.command.Levels.TheVariants.{Four, Five}
use Rattle.corten_run.specs.Commands.{level_count}
use Rattle.corten_run.specs.Solo.{answered, state_after_calls, all_answered, state_after_threads, solo_limits, solo_start, solo_history}
use Rattle.corten_run.proofs.Answering.{calls_keep}
use Rattle.corten_run.proofs.Shown.{step_shows}

-- the calls of one thread
calls_after : (st : State) (thread : ℕ) (cs : List Call) → after st (answered st thread cs) ≡ state_after_calls st thread cs
calls_after st thread [] = refl
calls_after st thread (c ∷ cs) =
    ap (λ limbo. after (step st thread c limbo).1 (answered (step st thread c 0).1 thread cs)) (step_shows st thread c)
    ∙ calls_after (step st thread c 0).1 thread cs

calls_legal : (st : State) (thread : ℕ) (cs : List Call) → thread < 8 → IsConsistent st → IsLegal st (answered st thread cs)
calls_legal st thread [] few ok = tt
calls_legal st thread (c ∷ cs) few ok =
    let r : Reply = (step st thread c 0).0 in
    let none : limbo_of r ≡ 0 = step_shows st thread c in
    let tables : linked st ≤ st.limits.tables = ok.tables in (
      subst (λ n. linked st + n ≤ st.limits.tables) (sym none) (omega (arith, tables)),
      ap (λ n. (step st thread c n).0) (sym none),
      subst (λ n. IsLegal (step st thread c n).1 (answered (step st thread c 0).1 thread cs)) (sym none)
          (calls_legal (step st thread c 0).1 thread cs few (calls_keep st thread (c ∷ []) few ok)),
    )

-- those of all threads
threads_after : (st : State) (thread : ℕ) (ts : List (List Call)) → after st (all_answered st thread ts) ≡ state_after_threads st thread ts
threads_after st thread [] = refl
threads_after st thread (cs ∷ ts) =
    after_append st (answered st thread cs) (all_answered (state_after_calls st thread cs) (thread + 1) ts)
    ∙ ap (λ s. after s (all_answered (state_after_calls st thread cs) (thread + 1) ts)) (calls_after st thread cs)
    ∙ threads_after (state_after_calls st thread cs) (thread + 1) ts

threads_legal : (st : State) (thread : ℕ) (ts : List (List Call)) → thread + length ts ≤ 8 → IsConsistent st → IsLegal st (all_answered st thread ts)
threads_legal st thread [] few ok = tt
threads_legal st thread (cs ∷ ts) few ok =
    let here : thread < 8 = omega (arith, few) in
    legal_join st (answered st thread cs) (all_answered (state_after_calls st thread cs) (thread + 1) ts) (calls_legal st thread cs here ok)
    (subst (λ s. IsLegal s (all_answered (state_after_calls st thread cs) (thread + 1) ts)) (sym (calls_after st thread cs))
    (threads_legal (state_after_calls st thread cs) (thread + 1) ts (omega (arith, few)) (calls_keep st thread cs here ok)))

threads_keep : (st : State) (thread : ℕ) (ts : List (List Call)) → thread + length ts ≤ 8 → IsConsistent st → IsConsistent (state_after_threads st thread ts)
threads_keep st thread [] few ok = ok
threads_keep st thread (cs ∷ ts) few ok = threads_keep (state_after_calls st thread cs) (thread + 1) ts (omega (arith, few)) (calls_keep st thread cs (omega (arith, few)) ok)

-- the limits of a script, with four levels or five
pub solo_header : (levels : Levels) (script : Script) → IsScript script → IsHeader (record { version = 2; limits = solo_limits levels script })
solo_header levels script h =
    let numbers = h.limits.numbers in
    let limits : AreLimits (solo_limits levels script) = record { frames = numbers.frames; tables = numbers.tables; swap = numbers.swap } in
    record { version = (omega arith, omega arith); limits = limits; levels = levels_are levels }
  where
    levels_are : (l : Levels) → HasLevels 2 (level_count l)
    levels_are Four = HasLevels.four refl
    levels_are Five = HasLevels.five refl refl

pub solo_consistent : (levels : Levels) (script : Script) → IsScript script → IsConsistent (solo_start levels script)
solo_consistent levels script h = final_is_consistent (record { version = 2; limits = solo_limits levels script }) script.shelf [] (solo_header levels script h) (All-nil (IsEntryOf 2))

pub solo_is_legal : (levels : Levels) (script : Script) → IsScript script → IsLegalHistory (solo_history levels script)
solo_is_legal levels script h =
    let st : State = solo_start levels script in
    let ok : IsConsistent st = solo_consistent levels script h in
    let few : 0 + length script.threads ≤ 8 = let count = h.threads.count in omega (arith, count.1) in
    record {
      entries = threads_legal st 0 script.threads few ok;
      accounts = subst (λ s. AreRight s (accounts (state_after_threads st 0 script.threads) 0)) (sym (threads_after st 0 script.threads))
          (own_accounts (state_after_threads st 0 script.threads) (threads_keep st 0 script.threads few ok));
    }

-- the calls of each thread have lines
calls_asked : (st : State) (thread : ℕ) (cs : List Call) → thread < 8 → All IsCall cs → All IsAsked (answered st thread cs)
calls_asked st thread [] few h = All-nil IsAsked
calls_asked st thread (c ∷ cs) few h =
    All-cons IsAsked (record { thread = thread; call = c; reply = (step st thread c 0).0 }) (answered (step st thread c 0).1 thread cs)
    (record { thread = (omega arith, omega (arith, few)); call = All-head IsCall c cs h }) (calls_asked (step st thread c 0).1 thread cs few (All-tail IsCall c cs h))

threads_asked : (st : State) (thread : ℕ) (ts : List (List Call)) → thread + length ts ≤ 8 → All (All IsCall) ts → All IsAsked (all_answered st thread ts)
threads_asked st thread [] few h = All-nil IsAsked
threads_asked st thread (cs ∷ ts) few h =
    All-append IsAsked (answered st thread cs) (all_answered (state_after_calls st thread cs) (thread + 1) ts)
    (calls_asked st thread cs (omega (arith, few)) (All-head (All IsCall) cs ts h))
    (threads_asked (state_after_calls st thread cs) (thread + 1) ts (omega (arith, few)) (All-tail (All IsCall) cs ts h))

pub solo_has_text : (levels : Levels) (script : Script) → IsScript script → HasText (solo_history levels script)
solo_has_text levels script h =
    let st : State = solo_start levels script in
    let es : List Entry = all_answered st 0 script.threads in
    let few : 0 + length script.threads ≤ 8 = let count = h.threads.count in omega (arith, count.1) in
    let legal = solo_is_legal levels script h in
    let header = solo_header levels script h in
    let entries = history_entries 2 (solo_limits levels script) script.shelf es header h.files (threads_asked st 0 script.threads few h.threads.calls) legal.entries in
    subst (λ s. HasText (record { version = 2; limits = solo_limits levels script; shelf = script.shelf; entries = es; accounts = accounts s 0 })) (threads_after st 0 script.threads)
    (closed_has_text (record { version = 2; limits = solo_limits levels script }) script.shelf es header h.files (entries_of_two es entries))
