-- What may follow some lines of files, and some lines of threads.
use Rattle.std.proofs.Common.{◌≡◌, ◌≢◌, ℕ, ◌+◌, ◌<◌, ◌≤◌, List, [], ◌∷◌, ◌++◌, length, map, codes, refl, sym, ap, subst, ◌∙◌, arith}
use Rattle.std.specs.List.{All, flat_map}
use Rattle.std.proofs.lemmas.List.{append-nil, append_assoc}
use Rattle.std.proofs.lemmas.List.Elements.{All-nil, All-head, All-tail}
use Rattle.corten_base.specs.declared.calls.Call.{Call}
use Rattle.text_words.specs.Layout.{words_of}
use Rattle.text_words.proofs.WordLists.{words_of_one}
use Rattle.mm_script.specs.declared.call_names.CallName.{CallName}
use Rattle.mm_script.specs.declared.call_names.CallName.TheVariants as name
use Rattle.mm_script.specs.CallNames.{name_word}
use Rattle.mm_script.specs.CallLine.{call_words, call_line, IsCall}
use Rattle.mm_script.specs.ScriptText.{file_line, file_lines, thread_lines, most_threads, IsFile, AreThreads}
use Rattle.mm_script.proofs.CallForms.{other_word, no_name}
use Rattle.mm_script.proofs.OneCall.{HasNo_letters, words_of-call_line}
use Rattle.mm_script.proofs.FileLines.{no_file_thread}

-- behind the lines of so many files: more files, and threads
pub record AfterFiles (n : ℕ) (lines : List (List ℕ)) : Type 0 where
  pub files : List (List ℕ)
  pub threads : List (List Call)
  pub are : lines ≡ file_lines files ++ flat_map thread_lines threads
  pub are_files : All IsFile files
  pub are_threads : AreThreads threads
  pub few : n + length files ≤ 16

-- behind the first lines of so many threads: calls of the last one, and more threads
pub record AfterThreads (n : ℕ) (lines : List (List ℕ)) : Type 0 where
  pub calls : List Call
  pub threads : List (List Call)
  pub are : lines ≡ map call_line calls ++ flat_map thread_lines threads
  pub are_calls : All IsCall calls
  pub are_threads : All (All IsCall) threads
  pub few : n + length threads ≤ most_threads

-- a thread's line is no call's
thread_is_no_name : (n : CallName) → codes "thread" ≢ name_word n
thread_is_no_name name.Map same = other_word (codes "thread") (codes "map") [] [] refl (ap (λ w. w ∷ []) same)
thread_is_no_name name.Unmap same = other_word (codes "thread") (codes "unmap") [] [] refl (ap (λ w. w ∷ []) same)
thread_is_no_name name.Protect same = other_word (codes "thread") (codes "protect") [] [] refl (ap (λ w. w ∷ []) same)
thread_is_no_name name.Load same = other_word (codes "thread") (codes "load") [] [] refl (ap (λ w. w ∷ []) same)
thread_is_no_name name.Store same = other_word (codes "thread") (codes "store") [] [] refl (ap (λ w. w ∷ []) same)
thread_is_no_name name.Fault same = other_word (codes "thread") (codes "fault") [] [] refl (ap (λ w. w ∷ []) same)
thread_is_no_name name.Spawn same = other_word (codes "thread") (codes "spawn") [] [] refl (ap (λ w. w ∷ []) same)
thread_is_no_name name.Fork same = other_word (codes "thread") (codes "fork") [] [] refl (ap (λ w. w ∷ []) same)
thread_is_no_name name.Exit same = other_word (codes "thread") (codes "exit") [] [] refl (ap (λ w. w ∷ []) same)
thread_is_no_name name.SwapOut same = other_word (codes "thread") (codes "out") [] [] refl (ap (λ w. w ∷ []) same)
thread_is_no_name name.DontNeed same = other_word (codes "thread") (codes "dontneed") [] [] refl (ap (λ w. w ∷ []) same)
thread_is_no_name name.Remap same = other_word (codes "thread") (codes "remap") [] [] refl (ap (λ w. w ∷ []) same)
thread_is_no_name name.Txn same = other_word (codes "thread") (codes "txn") [] [] refl (ap (λ w. w ∷ []) same)
thread_is_no_name name.SwapIn same = other_word (codes "thread") (codes "in") [] [] refl (ap (λ w. w ∷ []) same)

pub no_call_thread : (c : Call) → IsCall c → call_line c ≢ codes "thread"
no_call_thread c h same =
    let words : codes "thread" ∷ [] ≡ call_words c ++ [] =
    sym (words_of_one (codes "thread") (HasNo_letters 32 (codes "thread") (omega arith) refl)) ∙ ap words_of (sym same) ∙ words_of-call_line c h ∙ sym (append-nil (call_words c)) in
    no_name (codes "thread") [] thread_is_no_name c [] h words

-- behind the line of one more file
file_step : (n : ℕ) (bytes : List ℕ) (rest files : List (List ℕ)) (threads : List (List Call)) → file_line bytes ∷ rest ≡ file_lines files ++ flat_map thread_lines threads → All IsFile files → AreThreads threads → n + length files ≤ 16 → AfterFiles (n + 1) rest
file_step n bytes rest [] [] are hf ht few = absurd (cc)
file_step n bytes rest [] (t ∷ ts) are hf ht few = absurd (no_file_thread bytes (cc are))
file_step n bytes rest (f ∷ fs) ts are hf ht few = record { files = fs; threads = ts; are = cc are; are_files = All-tail IsFile f fs hf; are_threads = ht; few = omega (arith, few) }

pub after_files : (files : List (List ℕ)) (n m : ℕ) (rest : List (List ℕ)) → All IsFile files → m ≡ n + length files → AfterFiles n (file_lines files ++ rest) → AfterFiles m rest
after_files [] n m rest hf is h = subst (λ k. AfterFiles k rest) (let same : n ≡ m = omega arith in same) h
after_files (f ∷ fs) n m rest hf is h =
    after_files fs (n + 1) m rest (All-tail IsFile f fs hf) (omega arith) (file_step n f (file_lines fs ++ rest) h.files h.threads h.are h.are_files h.are_threads h.few)

-- behind the line of a call
call_step : (n : ℕ) (line : List ℕ) (rest : List (List ℕ)) (calls : List Call) (threads : List (List Call)) → line ≢ codes "thread" → line ∷ rest ≡ map call_line calls ++ flat_map thread_lines threads → All IsCall calls → All (All IsCall) threads → n + length threads ≤ most_threads → AfterThreads n rest
call_step n line rest [] [] other are hc ht few = absurd (cc)
call_step n line rest [] (t ∷ ts) other are hc ht few = absurd (other (cc are))
call_step n line rest (c ∷ cs) ts other are hc ht few = record { calls = cs; threads = ts; are = cc are; are_calls = All-tail IsCall c cs hc; are_threads = ht; few = few }

after_calls : (calls : List Call) (n : ℕ) (rest : List (List ℕ)) → All IsCall calls → AfterThreads n (map call_line calls ++ rest) → AfterThreads n rest
after_calls [] n rest hc h = h
after_calls (c ∷ cs) n rest hc h =
    after_calls cs n rest (All-tail IsCall c cs hc)
    (call_step n (call_line c) (map call_line cs ++ rest) h.calls h.threads (no_call_thread c (All-head IsCall c cs hc)) h.are h.are_calls h.are_threads h.few)

-- behind the first line of one more thread
thread_step : (n : ℕ) (rest : List (List ℕ)) (calls : List Call) (threads : List (List Call)) → codes "thread" ∷ rest ≡ map call_line calls ++ flat_map thread_lines threads → All IsCall calls → All (All IsCall) threads → n + length threads ≤ most_threads → AfterThreads (n + 1) rest
thread_step n rest [] [] are hc ht few = absurd (cc)
thread_step n rest [] (t ∷ ts) are hc ht few = record { calls = t; threads = ts; are = cc are; are_calls = All-head (All IsCall) t ts ht; are_threads = All-tail (All IsCall) t ts ht; few = omega (arith, few) }
thread_step n rest (c ∷ cs) ts are hc ht few = absurd (no_call_thread c (All-head IsCall c cs hc) (cc are))

pub after_threads : (threads : List (List Call)) (n m : ℕ) (rest : List (List ℕ)) → All (All IsCall) threads → m ≡ n + length threads → AfterThreads n (flat_map thread_lines threads ++ rest) → AfterThreads m rest
after_threads [] n m rest ht is h = subst (λ k. AfterThreads k rest) (let same : n ≡ m = omega arith in same) h
after_threads (t ∷ ts) n m rest ht is h =
    let shape : flat_map thread_lines (t ∷ ts) ++ rest ≡ codes "thread" ∷ (map call_line t ++ (flat_map thread_lines ts ++ rest)) =
    append_assoc (thread_lines t) (flat_map thread_lines ts) rest in
    after_threads ts (n + 1) m rest (All-tail (All IsCall) t ts ht) (omega arith)
    (after_calls t (n + 1) (flat_map thread_lines ts ++ rest) (All-head (All IsCall) t ts ht)
    (thread_step n (map call_line t ++ (flat_map thread_lines ts ++ rest)) h.calls h.threads (sym shape ∙ h.are) h.are_calls h.are_threads h.few))

-- the first thread ends the files
pub from_first_thread : (n : ℕ) (rest : List (List ℕ)) → AfterFiles n (codes "thread" ∷ rest) → AfterThreads 0 (codes "thread" ∷ rest)
from_first_thread n rest h = ends h.files h.threads h.are h.are_threads
  where
    ends : (files : List (List ℕ)) (threads : List (List Call)) → codes "thread" ∷ rest ≡ file_lines files ++ flat_map thread_lines threads → AreThreads threads → AfterThreads 0 (codes "thread" ∷ rest)
    ends [] ts are ht = record { calls = []; threads = ts; are = are; are_calls = All-nil IsCall; are_threads = ht.calls; few = omega (arith, ht.count.1) }
    ends (f ∷ fs) ts are ht = absurd (no_file_thread f (sym (cc are)))

pub first_thread : (threads : List (List Call)) (calls : List Call) (n : ℕ) (rest : List (List ℕ)) → AfterFiles n (flat_map thread_lines (threads ++ calls ∷ []) ++ rest) → AfterThreads 0 (flat_map thread_lines (threads ++ calls ∷ []) ++ rest)
first_thread [] calls n rest h = from_first_thread n ((map call_line calls ++ []) ++ rest) h
first_thread (t ∷ ts) calls n rest h = from_first_thread n ((map call_line t ++ flat_map thread_lines (ts ++ calls ∷ [])) ++ rest) h

-- a line that can't come behind files
pub no_file : (n : ℕ) (line : List ℕ) (more : List (List ℕ)) → AfterFiles n (line ∷ more) → line ≢ codes "thread" → (n < 16 → (bytes : List ℕ) → IsFile bytes → line ≢ file_line bytes) → ⊥
no_file n line more h other none = why h.files h.threads h.are h.are_files h.are_threads h.few
  where
    why : (files : List (List ℕ)) (threads : List (List Call)) → line ∷ more ≡ file_lines files ++ flat_map thread_lines threads → All IsFile files → AreThreads threads → n + length files ≤ 16 → ⊥
    why [] [] are hf ht few = cc
    why [] (t ∷ ts) are hf ht few = other (cc are)
    why (f ∷ fs) ts are hf ht few = none (omega (arith, few)) f (All-head IsFile f fs hf) (cc are)

-- a line that can't come behind calls
pub no_call : (n : ℕ) (line : List ℕ) (more : List (List ℕ)) → AfterThreads n (line ∷ more) → (line ≡ codes "thread" → n ≡ most_threads) → ((c : Call) → IsCall c → line ≢ call_line c) → ⊥
no_call n line more h last none = why h.calls h.threads h.are h.are_calls h.few
  where
    why : (calls : List Call) (threads : List (List Call)) → line ∷ more ≡ map call_line calls ++ flat_map thread_lines threads → All IsCall calls → n + length threads ≤ most_threads → ⊥
    why [] [] are hc few = cc
    why [] (t ∷ ts) are hc few = let all : n ≡ most_threads = last (cc are) in omega (arith, few)
    why (c ∷ cs) ts are hc few = none c (All-head IsCall c cs hc) (cc are)
