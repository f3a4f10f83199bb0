-- The calls that are left, one after another.
use Rattle.std.proofs.Common.{◌≡◌, ℕ, ◌+◌, ◌<◌, List, [], ◌∷◌, ◌++◌, ◌∙◌, append_assoc, refl, sym, ap}
use Rattle.corten_base.specs.declared.calls.Call.{Call}
use Rattle.corten_base.specs.declared.calls.Entry.{Entry}
use Rattle.page_map.specs.State.{State, IsConsistent}
use Rattle.page_map.proofs.StepKeeps.{step_keeps}
use Rattle.page_map.specs.Step.{step}
use Rattle.text_words.specs.Layout.{ended}
use Rattle.history_lines.specs.HistoryText.{answer_line, entry_line, lines_of}
use Rattle.corten_run.specs.Solo.{answered, state_after_calls, all_answered}

-- the line of the next call, and then those of the others
pub next_line : (st : State) (thread : ℕ) (calls left more : List Call) (c : Call) (done : List ℕ) (all : List ℕ) → left ≡ c ∷ more
    → done ++ lines_of (answered st thread left) ≡ all
    → done ++ (ended (answer_line thread c (step st thread c 0).0) ++ lines_of (answered (step st thread c 0).1 thread more)) ≡ all
next_line st thread calls left more c done all is whole = ap (λ cs. done ++ lines_of (answered st thread cs)) (sym is) ∙ whole

-- lines of entries one after another
pub lines_append : (es fs : List Entry) → lines_of (es ++ fs) ≡ lines_of es ++ lines_of fs
lines_append [] fs = refl
lines_append (e ∷ es) fs = ap (λ t. ended (entry_line e) ++ t) (lines_append es fs) ∙ sym (append_assoc (ended (entry_line e)) (lines_of es) (lines_of fs))

-- the lines of the next thread, and then those of the others
pub next_thread : (st : State) (thread : ℕ) (left more : List (List Call)) (cs : List Call) (done : List ℕ) (all : List ℕ) → left ≡ cs ∷ more
    → done ++ lines_of (all_answered st thread left) ≡ all
    → done ++ (lines_of (answered st thread cs) ++ lines_of (all_answered (state_after_calls st thread cs) (thread + 1) more)) ≡ all
next_thread st thread left more cs done all is whole =
    ap (λ t. done ++ t) (sym (lines_append (answered st thread cs) (all_answered (state_after_calls st thread cs) (thread + 1) more)))
    ∙ ap (λ ts. done ++ lines_of (all_answered st thread ts)) (sym is) ∙ whole

-- calls of a thread keep the facts of a state
pub calls_keep : (st : State) (thread : ℕ) (cs : List Call) → thread < 8 → IsConsistent st → IsConsistent (state_after_calls st thread cs)
calls_keep st thread [] few ok = ok
calls_keep st thread (c ∷ cs) few ok = calls_keep (step st thread c 0).1 thread cs few (step_keeps st thread 0 c few ok)
