-- A text has one script at most.
use Rattle.std.proofs.Common.{◌≡◌, ◌≢◌, ℕ, ◌≤◌, List, [], ◌∷◌, ◌++◌, length, map, codes, refl, sym, ap, ◌∙◌, arith}
use Rattle.std.specs.List.{All, flat_map}
use Rattle.std.proofs.lemmas.List.{append-nil, append_assoc}
use Rattle.std.proofs.lemmas.List.Elements.{All-nil, All-head, All-tail}
use Rattle.corten_base.specs.declared.calls.Call.{Call}
use Rattle.corten_base.specs.declared.numbers.Limits.{Limits}
use Rattle.text_words.specs.Layout.{text, TextRest}
use Rattle.text_words.specs.Spelling.{number}
use Rattle.text_words.proofs.OneValue.{number_injective}
use Rattle.text_words.proofs.LineLists.{SameLines, one_list_of_lines}
use Rattle.mm_script.specs.CallLine.{call_line, IsCall}
use Rattle.mm_script.specs.ScriptText.{kept, limit_lines, file_lines, header_lines, thread_lines, script_lines, IsFile, IsScript, IsScriptText}
use Rattle.mm_script.specs.Reading.{Passes, lines_behind}
use Rattle.mm_script.specs.declared.script.Script.{Script}
use Rattle.mm_script.proofs.OneCall.{call_line_injective}
use Rattle.mm_script.proofs.FileLines.{file_line_injective, no_file_thread}
use Rattle.mm_script.proofs.Following.{no_call_thread}
use Rattle.mm_script.proofs.Places.{Passes-append}

-- no two scripts have the same lines
same_files : (xs ys : List (List ℕ)) (ts us : List (List Call)) → All IsFile xs → All IsFile ys → file_lines xs ++ flat_map thread_lines ts ≡ file_lines ys ++ flat_map thread_lines us → (xs ≡ ys) × (flat_map thread_lines ts ≡ flat_map thread_lines us)
same_files [] [] ts us hx hy same = (refl, same)
same_files [] (y ∷ ys) [] us hx hy same = absurd (cc)
same_files [] (y ∷ ys) (t ∷ ts) us hx hy same = absurd (no_file_thread y (sym (cc same)))
same_files (x ∷ xs) [] ts [] hx hy same = absurd (cc)
same_files (x ∷ xs) [] ts (u ∷ us) hx hy same = absurd (no_file_thread x (cc same))
same_files (x ∷ xs) (y ∷ ys) ts us hx hy same =
    let head : x ≡ y = file_line_injective x y (All-head IsFile x xs hx) (All-head IsFile y ys hy) (cc same) in
    let rest = same_files xs ys ts us (All-tail IsFile x xs hx) (All-tail IsFile y ys hy) (cc same) in
    (ap (λ f. f ∷ xs) head ∙ ap (λ fs. y ∷ fs) rest.0, rest.1)

-- the calls of one thread, with the threads behind it
same_calls : (xs ys : List Call) (ts us : List (List Call)) → All IsCall xs → All IsCall ys → map call_line xs ++ flat_map thread_lines ts ≡ map call_line ys ++ flat_map thread_lines us → (xs ≡ ys) × (flat_map thread_lines ts ≡ flat_map thread_lines us)
same_calls [] [] ts us hx hy same = (refl, same)
same_calls [] (y ∷ ys) [] us hx hy same = absurd (cc)
same_calls [] (y ∷ ys) (t ∷ ts) us hx hy same = absurd (no_call_thread y (All-head IsCall y ys hy) (sym (cc same)))
same_calls (x ∷ xs) [] ts [] hx hy same = absurd (cc)
same_calls (x ∷ xs) [] ts (u ∷ us) hx hy same = absurd (no_call_thread x (All-head IsCall x xs hx) (cc same))
same_calls (x ∷ xs) (y ∷ ys) ts us hx hy same =
    let head : x ≡ y = call_line_injective x y (All-head IsCall x xs hx) (All-head IsCall y ys hy) (cc same) in
    let rest = same_calls xs ys ts us (All-tail IsCall x xs hx) (All-tail IsCall y ys hy) (cc same) in
    (ap (λ c. c ∷ xs) head ∙ ap (λ cs. y ∷ cs) rest.0, rest.1)

same_threads : (ts us : List (List Call)) → All (All IsCall) ts → All (All IsCall) us → flat_map thread_lines ts ≡ flat_map thread_lines us → ts ≡ us
same_threads [] [] ht hu same = refl
same_threads [] (u ∷ us) ht hu same = absurd (cc)
same_threads (t ∷ ts) [] ht hu same = absurd (cc)
same_threads (t ∷ ts) (u ∷ us) ht hu same =
    let head = same_calls t u ts us (All-head (All IsCall) t ts ht) (All-head (All IsCall) u us hu) (cc same) in
    let rest : ts ≡ us = same_threads ts us (All-tail (All IsCall) t ts ht) (All-tail (All IsCall) u us hu) head.1 in
    ap (λ c. c ∷ ts) head.0 ∙ ap (λ cs. u ∷ cs) rest

limits_from_parts : (a b : Limits) → a.levels ≡ b.levels → a.frames ≡ b.frames → a.tables ≡ b.tables → a.swap ≡ b.swap → a ≡ b
limits_from_parts a b levels frames tables swap = λ i. record { levels = levels i; frames = frames i; tables = tables i; swap = swap i }

script_from_parts : (a b : Script) → a.limits ≡ b.limits → a.shelf ≡ b.shelf → a.threads ≡ b.threads → a ≡ b
script_from_parts a b limits files threads = λ i. record { limits = limits i; shelf = files i; threads = threads i }

same_limit : (m n high : ℕ) → m ≤ high → n ≤ high → high ≤ 4096 → number m ≡ number n → m ≡ n
same_limit m n high hm hn small same = number_injective m n (omega arith) (omega arith) same

pub script_lines_injective : (a b : Script) → IsScript a → IsScript b → script_lines a ≡ script_lines b → a ≡ b
script_lines_injective a b ha hb same =
    let files = same_files a.shelf b.shelf a.threads b.threads ha.files.each hb.files.each (cc same) in
    let limits : a.limits ≡ b.limits = limits_from_parts a.limits b.limits (ha.limits.levels ∙ sym hb.limits.levels)
    (same_limit a.limits.frames b.limits.frames 4096 ha.limits.numbers.frames.1 hb.limits.numbers.frames.1 (omega arith) (cc same))
    (same_limit a.limits.tables b.limits.tables 1023 ha.limits.numbers.tables.1 hb.limits.numbers.tables.1 (omega arith) (cc same))
    (same_limit a.limits.swap b.limits.swap 4096 ha.limits.numbers.swap.1 hb.limits.numbers.swap.1 (omega arith) (cc same)) in
    script_from_parts a b limits files.0 (same_threads a.threads b.threads ha.threads.calls hb.threads.calls files.1)

pub one_script : (bytes : List ℕ) (a b : Script) → IsScriptText bytes a → IsScriptText bytes b → b ≡ a
one_script bytes a b ha hb =
    let none = All-nil (λ c. c ≢ 10) in
    let same : SameLines hb.lines [] ha.lines [] =
    one_list_of_lines hb.lines [] ha.lines [] hb.are_lines ha.are_lines none none
    (append-nil (text hb.lines) ∙ sym hb.whole ∙ ha.whole ∙ sym (append-nil (text ha.lines))) in
    script_lines_injective b a hb.is_script ha.is_script (sym hb.are_kept ∙ ap kept same.lines ∙ ha.are_kept)

-- the threads' lines, from the first one on
first_thread_line : (threads : List (List Call)) → 1 ≤ length threads → flat_map thread_lines threads ≡ codes "thread" ∷ lines_behind threads
first_thread_line [] some = absurd (omega arith)
first_thread_line (t ∷ ts) some = refl

-- a script whose lines were all passed
pub script_text : (bytes : List ℕ) (old first mid new : TextRest) (script : Script) → old.bytes ≡ bytes → IsScript script → Passes old first (limit_lines script.limits) → Passes first mid (file_lines script.shelf ++ codes "thread" ∷ []) → Passes mid new (lines_behind script.threads) → new.bytes ≡ [] → IsScriptText bytes script
script_text bytes old first mid new script are is_script limits files rest done =
    let begun : List (List ℕ) = limit_lines script.limits ++ (file_lines script.shelf ++ codes "thread" ∷ []) in
    let passed = Passes-append old mid new begun (lines_behind script.threads)
    (Passes-append old first mid (limit_lines script.limits) (file_lines script.shelf ++ codes "thread" ∷ []) limits files) rest in
    let shape : begun ++ lines_behind script.threads ≡ script_lines script =
    ap (λ ls. ls ++ lines_behind script.threads) (sym (append_assoc (limit_lines script.limits) (file_lines script.shelf) (codes "thread" ∷ [])))
    ∙ append_assoc (header_lines script.limits script.shelf) (codes "thread" ∷ []) (lines_behind script.threads)
    ∙ ap (λ ls. header_lines script.limits script.shelf ++ ls) (sym (first_thread_line script.threads is_script.threads.count.0)) in
    record {
      lines = passed.between;
      are_lines = passed.are_lines;
      whole = sym are ∙ passed.parted ∙ ap (λ bs. text passed.between ++ bs) done ∙ append-nil (text passed.between);
      are_kept = passed.are_kept ∙ shape;
      is_script = is_script;
    }
