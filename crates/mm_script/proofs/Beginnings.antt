-- With which lines a script begins.
use Rattle.std.proofs.Common.{◌≡◌, ◌≢◌, ℕ, ◌+◌, ◌<◌, ◌^◌, List, [], ◌∷◌, ◌++◌, length, codes, refl, sym, ap, subst, ◌∙◌, arith}
use Rattle.std.specs.List.{All, flat_map}
use Rattle.std.proofs.lemmas.List.{append-nil, append_assoc, length-append}
use Rattle.std.proofs.lemmas.List.Elements.{All-nil, All-cons, All-push}
use Rattle.corten_base.specs.declared.calls.Call.{Call}
use Rattle.corten_base.specs.declared.numbers.Limits.{Limits}
use Rattle.text_words.specs.Spelling.{number}
use Rattle.text_words.specs.Layout.{IsWord, joined, words_of}
use Rattle.text_words.proofs.WordLists.{joined-words_of, words_of-joined}
use Rattle.mm_script.specs.CallLine.{call_line, IsCall, IsWithin}
use Rattle.mm_script.specs.ScriptText.{limit_words, limit_lines, file_line, file_lines, header_lines, thread_lines, script_lines, most_threads, AreLimits, AreScriptLimits, IsFile, AreFiles, AreThreads, IsScript}
use Rattle.mm_script.specs.Reading.{Begins}
use Rattle.mm_script.specs.declared.script.Script.{Script}
use Rattle.mm_script.proofs.OneCall.{HasNo_letters, length_word_has_no}
use Rattle.mm_script.proofs.Following.{AfterFiles, after_files, after_threads, first_thread, no_file, no_call}

abbrev pub script_of : Limits → List (List ℕ) → List (List Call) → Script
script_of limits files threads = record { limits = limits; shelf = files; threads = threads }

abbrev pub limits_of : ℕ → ℕ → ℕ → Limits
limits_of frames tables swap = record { levels = 4; frames = frames; tables = tables; swap = swap }

-- the lines of threads, of which the last may go on
abbrev pub open_lines : List (List Call) → List Call → List (List ℕ)
open_lines threads calls = flat_map thread_lines (threads ++ calls ∷ [])

pub AreThreads-open : (threads : List (List Call)) (calls : List Call) → All (All IsCall) threads → All IsCall calls → length threads < most_threads → AreThreads (threads ++ calls ∷ [])
AreThreads-open threads calls are_threads are_calls few =
    let count : length (threads ++ calls ∷ []) ≡ length threads + 1 = length-append threads (calls ∷ []) in
    record { count = (omega arith, omega arith); calls = All-push (All IsCall) threads calls are_threads are_calls }

-- the words of a limit's line
pub limit_words_are : (name : List ℕ) (n : ℕ) → IsWord name → n < 2 ^ 64 → words_of (joined (limit_words name n)) ≡ limit_words name n
limit_words_are name n is_word fits =
    words_of-joined (limit_words name n) (λ e. cc)
    (All-cons IsWord name (number n ∷ []) is_word (All-cons IsWord (number n) [] (length_word_has_no 32 n (omega arith) fits) (All-nil IsWord)))

pub frames_IsWord : IsWord (codes "frames")
frames_IsWord = HasNo_letters 32 (codes "frames") (omega arith) refl

pub tables_IsWord : IsWord (codes "tables")
tables_IsWord = HasNo_letters 32 (codes "tables") (omega arith) refl

pub swap_IsWord : IsWord (codes "swap")
swap_IsWord = HasNo_letters 32 (codes "swap") (omega arith) refl

-- a line with these words is that line
pub limit_line_is : (line name : List ℕ) (n : ℕ) → words_of line ≡ limit_words name n → line ≡ joined (limit_words name n)
limit_line_is line name n are = sym (joined-words_of line) ∙ ap joined are

-- what begins a script
smallest : AreLimits (limits_of 1 1 0)
smallest = record { frames = (omega arith, omega arith); tables = (omega arith, omega arith); swap = (omega arith, omega arith) }

of_script : (f t s : ℕ) → AreLimits (limits_of f t s) → AreScriptLimits (limits_of f t s)
of_script f t s h = record { numbers = h; levels = refl }

no_files : AreFiles []
no_files = record { count = omega arith; each = All-nil IsFile }

one_thread : AreThreads ([] ∷ [])
one_thread = record { count = (omega arith, omega arith); calls = All-cons (All IsCall) [] [] (All-nil IsCall) (All-nil (All IsCall)) }

pub Begins-none : Begins []
Begins-none = record {
  script = script_of (limits_of 1 1 0) [] ([] ∷ []);
  more = script_lines (script_of (limits_of 1 1 0) [] ([] ∷ []));
  is_script = record { limits = of_script 1 1 0 smallest; files = no_files; threads = one_thread };
  goes_on = refl;
}

pub Begins-frames : (f : ℕ) → IsWithin 1 4096 f → Begins (joined (limit_words (codes "frames") f) ∷ [])
Begins-frames f h = record {
  script = script_of (limits_of f 1 0) [] ([] ∷ []);
  more = joined (limit_words (codes "tables") 1) ∷ joined (limit_words (codes "swap") 0) ∷ codes "thread" ∷ [];
  is_script = record { limits = of_script f 1 0 (record { frames = h; tables = smallest.tables; swap = smallest.swap }); files = no_files; threads = one_thread };
  goes_on = refl;
}

pub Begins-tables : (f t : ℕ) → IsWithin 1 4096 f → IsWithin 1 1023 t → Begins (joined (limit_words (codes "frames") f) ∷ joined (limit_words (codes "tables") t) ∷ [])
Begins-tables f t hf ht = record {
  script = script_of (limits_of f t 0) [] ([] ∷ []);
  more = joined (limit_words (codes "swap") 0) ∷ codes "thread" ∷ [];
  is_script = record { limits = of_script f t 0 (record { frames = hf; tables = ht; swap = smallest.swap }); files = no_files; threads = one_thread };
  goes_on = refl;
}

pub Begins-header : (limits : Limits) (files : List (List ℕ)) → AreScriptLimits limits → AreFiles files → Begins (header_lines limits files)
Begins-header limits files hl hf = record {
  script = script_of limits files ([] ∷ []);
  more = codes "thread" ∷ [];
  is_script = record { limits = hl; files = hf; threads = one_thread };
  goes_on = refl;
}

pub Begins-calls : (limits : Limits) (files : List (List ℕ)) (threads : List (List Call)) (calls : List Call) → AreScriptLimits limits → AreFiles files → All (All IsCall) threads → All IsCall calls → length threads < most_threads → Begins (header_lines limits files ++ open_lines threads calls)
Begins-calls limits files threads calls hl hf ht hc few = record {
  script = script_of limits files (threads ++ calls ∷ []);
  more = [];
  is_script = record { limits = hl; files = hf; threads = AreThreads-open threads calls ht hc few };
  goes_on = append-nil (header_lines limits files ++ open_lines threads calls);
}

-- what does not begin one: no line of this limit comes
limit_is_within : (line name : List ℕ) (n low high : ℕ) → IsWord name → n < 2 ^ 64 → IsWithin low high n → ((m : ℕ) → IsWithin low high m → words_of line ≢ limit_words name m) → line ≢ joined (limit_words name n)
limit_is_within line name n low high is_word fits within none is = none n within (ap words_of is ∙ limit_words_are name n is_word fits)

pub no_frames : (line : List ℕ) → ((n : ℕ) → IsWithin 1 4096 n → words_of line ≢ limit_words (codes "frames") n) → ¬ (Begins ([] ++ line ∷ []))
no_frames line none b =
    let n : ℕ = b.script.limits.frames in
    let within = b.is_script.limits.numbers.frames in
    let goes_on = b.goes_on in
    limit_is_within line (codes "frames") n 1 4096 frames_IsWord (omega (arith, within.1)) within none (cc goes_on)

pub no_tables : (first line : List ℕ) → ((n : ℕ) → IsWithin 1 1023 n → words_of line ≢ limit_words (codes "tables") n) → ¬ (Begins ((first ∷ []) ++ line ∷ []))
no_tables first line none b =
    let n : ℕ = b.script.limits.tables in
    let within = b.is_script.limits.numbers.tables in
    let goes_on = b.goes_on in
    limit_is_within line (codes "tables") n 1 1023 tables_IsWord (omega (arith, within.1)) within none (cc goes_on)

pub no_swap : (first second line : List ℕ) → ((n : ℕ) → IsWithin 0 4096 n → words_of line ≢ limit_words (codes "swap") n) → ¬ (Begins ((first ∷ second ∷ []) ++ line ∷ []))
no_swap first second line none b =
    let n : ℕ = b.script.limits.swap in
    let within = b.is_script.limits.numbers.swap in
    let goes_on = b.goes_on in
    limit_is_within line (codes "swap") n 0 4096 swap_IsWord (omega (arith, within.1)) within none (cc goes_on)

-- what follows the limits of a script
pub behind_limits : (limits : Limits) (lines : List (List ℕ)) (script : Script) → IsScript script → limit_lines limits ++ lines ≡ script_lines script → AfterFiles 0 lines
behind_limits limits lines script h are = record { files = script.shelf; threads = script.threads; are = cc are; are_files = h.files.each; are_threads = h.threads; few = omega (arith, h.files.count) }

-- what follows the limits, the lines of files and one more line
behind_header : (limits : Limits) (files : List (List ℕ)) (rest : List (List ℕ)) (b : Begins (header_lines limits files ++ rest)) → All IsFile files → AfterFiles (length files) (rest ++ b.more)
behind_header limits files rest b are_files =
    let shape : limit_lines limits ++ (file_lines files ++ (rest ++ b.more)) ≡ script_lines b.script =
    sym (append_assoc (limit_lines limits) (file_lines files) (rest ++ b.more)) ∙ sym (append_assoc (header_lines limits files) rest b.more) ∙ b.goes_on in
    after_files files 0 (length files) (rest ++ b.more) are_files (omega arith)
    (behind_limits limits (file_lines files ++ (rest ++ b.more)) b.script b.is_script shape)

pub no_header : (limits : Limits) (files : List (List ℕ)) (line : List ℕ) → AreFiles files → line ≢ codes "thread" → (length files < 16 → (bytes : List ℕ) → IsFile bytes → line ≢ file_line bytes) → ¬ (Begins (header_lines limits files ++ line ∷ []))
no_header limits files line hf other none b = no_file (length files) line b.more (behind_header limits files (line ∷ []) b hf.each) other none

pub no_line : (limits : Limits) (files : List (List ℕ)) (threads : List (List Call)) (calls : List Call) (line : List ℕ) → AreFiles files → All (All IsCall) threads → All IsCall calls → (line ≡ codes "thread" → length threads + 1 ≡ most_threads) → ((c : Call) → IsCall c → line ≢ call_line c) → ¬ (Begins ((header_lines limits files ++ open_lines threads calls) ++ line ∷ []))
no_line limits files threads calls line hf ht hc last none b =
    let rest : List (List ℕ) = open_lines threads calls ++ line ∷ [] in
    let front : Begins (header_lines limits files ++ rest) =
    record { script = b.script; more = b.more; is_script = b.is_script; goes_on = ap (λ ls. ls ++ b.more) (sym (append_assoc (header_lines limits files) (open_lines threads calls) (line ∷ []))) ∙ b.goes_on } in
    let count : length (threads ++ calls ∷ []) ≡ length threads + 1 = length-append threads (calls ∷ []) in
    let behind : AfterFiles (length files) (open_lines threads calls ++ (line ∷ b.more)) =
    subst (AfterFiles (length files)) (append_assoc (open_lines threads calls) (line ∷ []) b.more) (behind_header limits files rest front hf.each) in
    no_call (length threads + 1) line b.more
    (after_threads (threads ++ calls ∷ []) 0 (length threads + 1) (line ∷ b.more) (All-push (All IsCall) threads calls ht hc) (omega arith)
    (first_thread threads calls (length files) (line ∷ b.more) behind))
    last none

-- lines that are not all of a script's
pub wants_frames : (script : Script) → IsScript script → [] ≢ script_lines script
wants_frames script h same = cc same

pub wants_tables : (first : List ℕ) (script : Script) → IsScript script → first ∷ [] ≢ script_lines script
wants_tables first script h same = cc same

pub wants_swap : (first second : List ℕ) (script : Script) → IsScript script → first ∷ second ∷ [] ≢ script_lines script
wants_swap first second script h same = cc same

pub wants_thread : (limits : Limits) (files : List (List ℕ)) (script : Script) → AreFiles files → IsScript script → header_lines limits files ≢ script_lines script
wants_thread limits files script hf h same =
    let after = after_files files 0 (length files) [] hf.each (omega arith)
    (behind_limits limits (file_lines files ++ []) script h (sym (append_assoc (limit_lines limits) (file_lines files) []) ∙ append-nil (header_lines limits files) ∙ same)) in
    ends_not after.files after.threads after.are after.are_threads
  where
    ends_not : (files : List (List ℕ)) (threads : List (List Call)) → [] ≡ file_lines files ++ flat_map thread_lines threads → AreThreads threads → ⊥
    ends_not [] [] are h = omega (arith, h.count.0)
    ends_not [] (t ∷ ts) are h = cc
    ends_not (f ∷ fs) ts are h = cc
