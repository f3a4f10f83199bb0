-- The lines of files and of calls, one after another.
use Rattle.std.proofs.Common.{◌≡◌, ◌≢◌, ℕ, ◌+◌, ◌<◌, List, [], ◌∷◌, ◌++◌, length, codes, refl, sym, ap, subst, ◌∙◌}
use Rattle.std.specs.Prelude.{Option, Some, None, IfNone}
use Rattle.std.specs.List.{All, flat_map}
use Rattle.std.proofs.lemmas.List.{map_push, append-nil, append_assoc}
use Rattle.corten_base.specs.declared.calls.Call.{Call}
use Rattle.corten_base.specs.declared.numbers.Limits.{Limits}
use Rattle.text_words.specs.Layout.{TextRest}
use Rattle.mm_script.specs.CallLine.{call_line, IsCall}
use Rattle.mm_script.specs.ScriptText.{limit_lines, file_line, file_lines, header_lines, thread_lines, most_threads, AreScriptLimits, IsFile, AreFiles}
use Rattle.mm_script.specs.Reading.{NextLine, NoNext, NoLine, Passes, FaultFrom, lines_behind, Begins}
use Rattle.mm_script.proofs.Beginnings.{open_lines, Begins-header, Begins-calls, no_header, no_line, wants_thread}
use Rattle.mm_script.proofs.Places.{Passes-none, Passes-next, Passes-append, Passes-end, FaultFrom-behind, FaultFrom-next, fault_at_line, fault_unfinished}

-- what a reader says where it found none
pub at_none : (A : Type 0) (r : Option A) (P : Type 0) → ((c : A) → r ≢ Some c) → IfNone r P → P
at_none A None P none h = h
at_none A (Some c) P none h = absurd (none c refl)

-- one more file
pub more_files : (old mid new : TextRest) (files : List (List ℕ)) (bytes line : List ℕ) → Passes old mid (file_lines files) → NextLine mid new line → line ≡ file_line bytes → Passes old new (file_lines (files ++ bytes ∷ []))
more_files old mid new files bytes line passed next is =
    subst (Passes old new) (ap (λ l. file_lines files ++ l ∷ []) is ∙ sym (map_push file_line files bytes))
    (Passes-append old mid new (file_lines files) (line ∷ []) passed (Passes-next mid new line next))

pub all_files : (old mid new : TextRest) (files : List (List ℕ)) (line : List ℕ) → Passes old mid (file_lines files) → NextLine mid new line → line ≡ codes "thread" → Passes old new (file_lines files ++ codes "thread" ∷ [])
all_files old mid new files line passed next is =
    subst (λ l. Passes old new (file_lines files ++ l ∷ [])) is (Passes-append old mid new (file_lines files) (line ∷ []) passed (Passes-next mid new line next))

-- the line behind the files is wrong, or there is none
pub header_fault : (old mid : TextRest) (limits : Limits) (files : List (List ℕ)) (n : ℕ) (P : List ℕ → Type 0) → AreScriptLimits limits → AreFiles files → Passes old mid (file_lines files) → NoLine mid n P
    → ((line : List ℕ) → P line → (line ≢ codes "thread") × (length files < 16 → (bytes : List ℕ) → IsFile bytes → line ≢ file_line bytes)) → FaultFrom old (limit_lines limits) n
header_fault old mid limits files n P hl hf passed none says =
    FaultFrom-behind old mid (limit_lines limits) (file_lines files) n passed
    (FaultFrom-next mid (header_lines limits files) n P none (Begins-header limits files hl hf)
    (λ line h. let differs = says line h in no_header limits files line hf differs.0 differs.1)
    (λ script h. wants_thread limits files script hf h))

-- the lines of threads, of which the last may go on, behind the first `thread`
pub rest_lines : List (List Call) → List Call → List (List ℕ)
rest_lines threads calls = lines_behind (threads ++ calls ∷ [])

rest_lines-none : [] ≡ rest_lines [] []
unfolding rest_lines
rest_lines-none = refl

pub no_rest_lines : (place : TextRest) (threads : List (List Call)) (calls : List Call) → threads ≡ [] → calls ≡ [] → Passes place place (rest_lines threads calls)
no_rest_lines place threads calls no_threads no_calls =
    subst (Passes place place) (rest_lines-none ∙ (λ i. rest_lines (sym no_threads i) (sym no_calls i))) (Passes-none place)

pub rest_lines-open : (threads : List (List Call)) (calls : List Call) → codes "thread" ∷ rest_lines threads calls ≡ open_lines threads calls
unfolding rest_lines
rest_lines-open [] calls = refl
rest_lines-open (t ∷ ts) calls = refl

one_more_call : (threads : List (List Call)) (calls : List Call) (c : Call) → flat_map thread_lines (threads ++ (calls ++ c ∷ []) ∷ []) ≡ flat_map thread_lines (threads ++ calls ∷ []) ++ call_line c ∷ []
one_more_call [] calls c =
    append-nil (thread_lines (calls ++ c ∷ []))
    ∙ ap (λ ls. codes "thread" ∷ ls) (map_push call_line calls c)
    ∙ ap (λ ls. ls ++ call_line c ∷ []) (sym (append-nil (thread_lines calls)))
one_more_call (t ∷ ts) calls c =
    ap (λ ls. thread_lines t ++ ls) (one_more_call ts calls c) ∙ sym (append_assoc (thread_lines t) (flat_map thread_lines (ts ++ calls ∷ [])) (call_line c ∷ []))

one_more_thread : (threads : List (List Call)) (calls : List Call) → flat_map thread_lines ((threads ++ calls ∷ []) ++ [] ∷ []) ≡ flat_map thread_lines (threads ++ calls ∷ []) ++ codes "thread" ∷ []
one_more_thread [] calls = ap (λ ls. ls ++ codes "thread" ∷ []) (sym (append-nil (thread_lines calls)))
one_more_thread (t ∷ ts) calls =
    ap (λ ls. thread_lines t ++ ls) (one_more_thread ts calls) ∙ sym (append_assoc (thread_lines t) (flat_map thread_lines (ts ++ calls ∷ [])) (codes "thread" ∷ []))

-- one more call, one more thread
pub rest_lines-call : (threads : List (List Call)) (calls : List Call) (c : Call) → rest_lines threads calls ++ call_line c ∷ [] ≡ rest_lines threads (calls ++ c ∷ [])
rest_lines-call threads calls c =
    let whole : codes "thread" ∷ (rest_lines threads calls ++ call_line c ∷ []) ≡ codes "thread" ∷ rest_lines threads (calls ++ c ∷ []) =
    ap (λ ls. ls ++ call_line c ∷ []) (rest_lines-open threads calls) ∙ sym (one_more_call threads calls c) ∙ sym (rest_lines-open threads (calls ++ c ∷ [])) in
    cc whole

pub rest_lines-thread : (threads : List (List Call)) (calls : List Call) → rest_lines threads calls ++ codes "thread" ∷ [] ≡ rest_lines (threads ++ calls ∷ []) []
rest_lines-thread threads calls =
    let whole : codes "thread" ∷ (rest_lines threads calls ++ codes "thread" ∷ []) ≡ codes "thread" ∷ rest_lines (threads ++ calls ∷ []) [] =
    ap (λ ls. ls ++ codes "thread" ∷ []) (rest_lines-open threads calls) ∙ sym (one_more_thread threads calls) ∙ sym (rest_lines-open (threads ++ calls ∷ []) []) in
    cc whole

pub more_calls : (old mid new : TextRest) (threads : List (List Call)) (calls : List Call) (c : Call) (line : List ℕ) → Passes old mid (rest_lines threads calls) → NextLine mid new line → line ≡ call_line c → Passes old new (rest_lines threads (calls ++ c ∷ []))
more_calls old mid new threads calls c line passed next is =
    subst (Passes old new) (ap (λ l. rest_lines threads calls ++ l ∷ []) is ∙ rest_lines-call threads calls c)
    (Passes-append old mid new (rest_lines threads calls) (line ∷ []) passed (Passes-next mid new line next))

pub more_threads : (old mid new : TextRest) (threads : List (List Call)) (calls : List Call) (line : List ℕ) → Passes old mid (rest_lines threads calls) → NextLine mid new line → line ≡ codes "thread" → Passes old new (rest_lines (threads ++ calls ∷ []) [])
more_threads old mid new threads calls line passed next is =
    subst (Passes old new) (ap (λ l. rest_lines threads calls ++ l ∷ []) is ∙ rest_lines-thread threads calls)
    (Passes-append old mid new (rest_lines threads calls) (line ∷ []) passed (Passes-next mid new line next))

-- no line follows
pub all_lines : (old mid new : TextRest) (threads : List (List Call)) (calls : List Call) → Passes old mid (rest_lines threads calls) → NoNext mid new → Passes old new (lines_behind (threads ++ calls ∷ []))
unfolding rest_lines
all_lines old mid new threads calls passed none =
    subst (Passes old new) (append-nil (rest_lines threads calls)) (Passes-append old mid new (rest_lines threads calls) [] passed (Passes-end mid new none))

-- a fault behind the lines so far
module _ (old mid new : TextRest) (limits : Limits) (files : List (List ℕ)) (threads : List (List Call)) (calls : List Call) (hl : AreScriptLimits limits) (hf : AreFiles files) (ht : All (All IsCall) threads) (hc : All IsCall calls) (few : length threads < most_threads) (passed : Passes old mid (rest_lines threads calls)) where
  behind : (n : ℕ) → FaultFrom mid (header_lines limits files ++ open_lines threads calls) n → FaultFrom old (header_lines limits files ++ codes "thread" ∷ []) n
  behind n fault =
      FaultFrom-behind old mid (header_lines limits files ++ codes "thread" ∷ []) (rest_lines threads calls) n passed
      (subst (λ ls. FaultFrom mid ls n)
      (ap (λ ls. header_lines limits files ++ ls) (sym (rest_lines-open threads calls)) ∙ sym (append_assoc (header_lines limits files) (codes "thread" ∷ []) (rest_lines threads calls))) fault)

  begun : Begins (header_lines limits files ++ open_lines threads calls)
  begun = Begins-calls limits files threads calls hl hf ht hc few

  pub line_fault : (line : List ℕ) → NextLine mid new line → (line ≡ codes "thread" → length threads + 1 ≡ most_threads) → ((c : Call) → IsCall c → line ≢ call_line c) → FaultFrom old (header_lines limits files ++ codes "thread" ∷ []) new.taken
  line_fault line next last none =
      behind new.taken (fault_at_line mid new (header_lines limits files ++ open_lines threads calls) line next begun (no_line limits files threads calls line hf ht hc last none))

  pub unfinished_fault : NoNext mid new → new.bytes ≢ [] → FaultFrom old (header_lines limits files ++ codes "thread" ∷ []) (new.taken + 1)
  unfinished_fault none some = behind (new.taken + 1) (fault_unfinished mid new (header_lines limits files ++ open_lines threads calls) none begun some)
