-- The first line outside the grammar, with the lines that are skipped and without them.
use Rattle.std.proofs.Common.{◌≡◌, ℕ, ◌+◌, Bool, true, false, List, [], ◌∷◌, ◌++◌, length, map, codes, refl, sym, ap, subst, ◌∙◌, arith}
use Rattle.std.specs.List.{All, flat_map}
use Rattle.std.proofs.lemmas.List.Elements.{All-nil, All-cons, All-head, All-tail, All-append}
use Rattle.corten_base.specs.declared.calls.Call.{Call}
use Rattle.corten_base.specs.declared.calls.Call.TheVariants as call
use Rattle.corten_base.specs.declared.numbers.Limits.{Limits}
use Rattle.text_words.specs.Layout.{joined, TextRest}
use Rattle.text_words.specs.Grammar as grammar
use Rattle.text_words.proofs.Grammars as grammars
use Rattle.mm_script.specs.CallLine.{call_line}
use Rattle.mm_script.specs.ScriptText.{is_skipped, kept, limit_words, limit_lines, file_line, file_lines, header_lines, thread_lines, script_lines, IsScriptText, AreScriptLines, IsFirstFault}
use Rattle.mm_script.specs.Reading.{Begins, Fault, FaultFrom}
use Rattle.mm_script.specs.declared.script.Script.{Script}
use Rattle.mm_script.proofs.Places.{kept-append, kept_line, kept_skipped}

-- no line of a script is skipped
abbrev IsKept : List ℕ → Type 0
IsKept line = is_skipped line ≡ false

keeps : (lines : List (List ℕ)) → All IsKept lines → kept lines ≡ lines
keeps [] h = refl
keeps (line ∷ lines) h =
    kept-append (line ∷ []) lines ∙ ap (λ ls. ls ++ kept lines) (kept_line line (All-head IsKept line lines h)) ∙ ap (λ ls. line ∷ ls) (keeps lines (All-tail IsKept line lines h))

files_kept : (files : List (List ℕ)) → All IsKept (file_lines files)
files_kept [] = All-nil IsKept
files_kept (f ∷ fs) = All-cons IsKept (file_line f) (file_lines fs) refl (files_kept fs)

call_kept : (c : Call) → IsKept (call_line c)
call_kept (call.Map space at len perm what) = refl
call_kept (call.Unmap space at len) = refl
call_kept (call.Protect space at len perm) = refl
call_kept (call.Load space at len) = refl
call_kept (call.Store space at bytes) = refl
call_kept (call.Fault space at write) = refl
call_kept call.Spawn = refl
call_kept (call.Fork space) = refl
call_kept (call.Exit space) = refl
call_kept (call.SwapOut space at len) = refl
call_kept (call.SwapIn space at len) = refl
call_kept (call.Txn space at len ops) = refl
call_kept (call.DontNeed space at len) = refl
call_kept (call.Remap space at old_len new_len) = refl

calls_kept : (calls : List Call) → All IsKept (map call_line calls)
calls_kept [] = All-nil IsKept
calls_kept (c ∷ cs) = All-cons IsKept (call_line c) (map call_line cs) (call_kept c) (calls_kept cs)

threads_kept : (threads : List (List Call)) → All IsKept (flat_map thread_lines threads)
threads_kept [] = All-nil IsKept
threads_kept (t ∷ ts) = All-append IsKept (thread_lines t) (flat_map thread_lines ts) (All-cons IsKept (codes "thread") (map call_line t) refl (calls_kept t)) (threads_kept ts)

limits_kept : (limits : Limits) → All IsKept (limit_lines limits)
limits_kept limits =
    let swap : List ℕ = joined (limit_words (codes "swap") limits.swap) in
    let tables : List ℕ = joined (limit_words (codes "tables") limits.tables) in
    All-cons IsKept (joined (limit_words (codes "frames") limits.frames)) (tables ∷ swap ∷ []) refl (All-cons IsKept tables (swap ∷ []) refl (All-cons IsKept swap [] refl (All-nil IsKept)))

script_kept : (script : Script) → kept (script_lines script) ≡ script_lines script
script_kept script =
    keeps (script_lines script) (All-append IsKept (header_lines script.limits script.shelf) (flat_map thread_lines script.threads)
    (All-append IsKept (limit_lines script.limits) (file_lines script.shelf) (limits_kept script.limits) (files_kept script.shelf)) (threads_kept script.threads))

-- lines that are kept once stay
kept_once : (lines : List (List ℕ)) → All IsKept (kept lines)
kept_once [] = All-nil IsKept
kept_once (line ∷ lines) = either (is_skipped line) refl (kept_once lines)
  where
    either : (b : Bool) → is_skipped line ≡ b → All IsKept (kept lines) → All IsKept (kept (line ∷ lines))
    either true skips h = subst (All IsKept) (sym (kept-append (line ∷ []) lines ∙ ap (λ ls. ls ++ kept lines) (kept_skipped line skips))) h
    either false stays h = subst (All IsKept) (sym (kept-append (line ∷ []) lines ∙ ap (λ ls. ls ++ kept lines) (kept_line line stays))) (All-cons IsKept line (kept lines) stays h)

-- what begins a script, with the lines that are skipped and without them
begins_with : (lines : List (List ℕ)) → Begins (kept lines) → grammar.Begins AreScriptLines lines
begins_with lines b =
    let are : kept (lines ++ b.more) ≡ script_lines b.script =
    kept-append lines b.more ∙ ap (λ ls. ls ++ kept b.more) (sym (keeps (kept lines) (kept_once lines))) ∙ sym (kept-append (kept lines) b.more) ∙ ap kept b.goes_on ∙ script_kept b.script in
    record { more = b.more; goes_on = record { script = b.script; is_script = b.is_script; are_kept = are } }

begins_without : (lines : List (List ℕ)) → grammar.Begins AreScriptLines lines → Begins (kept lines)
begins_without lines b = record { script = b.goes_on.script; more = kept b.more; is_script = b.goes_on.is_script; goes_on = sym (kept-append lines b.more) ∙ b.goes_on.are_kept }

fault_with : (lines : List (List ℕ)) (rest : List ℕ) → Fault (kept lines) rest → grammar.Fault AreScriptLines lines rest
fault_with lines rest (Fault.outside line more is_line parted ends) =
    grammar.Fault.outside line more is_line parted (λ b. ends (subst Begins (kept-append lines (line ∷ [])) (begins_without (lines ++ line ∷ []) b)))
fault_with lines rest (Fault.unfinished is_line some) = grammar.Fault.unfinished is_line some
fault_with lines rest (Fault.missing none wanting) = grammar.Fault.missing none (λ g. wanting g.script g.is_script g.are_kept)

-- a fault, counted from the first line
pub first_fault : (bytes : List ℕ) (old : TextRest) (n : ℕ) → old.bytes ≡ bytes → old.taken ≡ 0 → FaultFrom old [] n → IsFirstFault bytes n
first_fault bytes old n are first h = record {
  before = h.between;
  rest = h.rest;
  are_lines = h.are_lines;
  parted = sym are ∙ h.parted;
  counted = let c : n ≡ old.taken + length h.between + 1 = h.counted in omega arith;
  begins = begins_with h.between h.begins;
  fault = fault_with h.between h.rest h.fault;
}

pub fault_refuses : (bytes : List ℕ) (n : ℕ) (script : Script) → IsFirstFault bytes n → ¬ (IsScriptText bytes script)
fault_refuses bytes n script h t = grammars.fault_refuses AreScriptLines bytes n t.lines h t.are_lines t.whole (record { script = script; is_script = t.is_script; are_kept = t.are_kept })

pub one_first_fault : (bytes : List ℕ) (m n : ℕ) → IsFirstFault bytes m → IsFirstFault bytes n → m ≡ n
one_first_fault bytes m n h g = grammars.one_first_fault AreScriptLines bytes m n h g
