use Rattle.std.proofs.Common.{◌≡◌, ℕ, List, [], ◌∷◌, ◌++◌, codes, subst}
use Rattle.std.proofs.lemmas.List.{append_assoc}
use Rattle.std.proofs.lemmas.Result.{err_from_is_err_and}
use Rattle.corten_base.specs.declared.numbers.Limits.{Limits}
use Rattle.text_words.specs.Layout.{TextRest}
use Rattle.mm_script.specs.ScriptText.{limit_lines, file_lines, header_lines, IsScript, IsScriptText, IsFirstFault}
use Rattle.mm_script.specs.Reading.{Passes, FaultFrom}
use Rattle.mm_script.specs.declared.script.Script.{Script}
use Rattle.mm_script.proofs.FirstFault.{first_fault, fault_refuses}
use Rattle.mm_script.proofs.OneScript.{one_script, script_text}
use Rattle.mm_script.proofs.Places.{Passes-append, FaultFrom-behind, IfBad-weaker}
use Rattle.mm_script.proofs.reading.read_script.Goals as goal

abbrev NoScript : List ℕ → ℕ → Type 0
NoScript bytes n = (script : Script) → ¬ (IsScriptText bytes script)

pub returns-in_err-limits-clause-bad : goal.returns-in_err-limits-clause-bad
returns-in_err-limits-clause-bad c =
    let p = err_from_is_err_and c.from_residual.result c.from_residual.ensures.1 in
    let bytes : List ℕ = c.args.bytes.now in
    let old : TextRest = c.of-lines.result in
    rw (p.1, p.2) (IfBad-weaker c.in_err-limits.field-0.0 _ (IsFirstFault bytes)
    (λ n from. first_fault bytes old n c.of-lines.ensures.bytes c.of-lines.ensures.taken from)
    c.in_err-limits.ensures.bad)

pub returns-in_err-limits-clause-none : goal.returns-in_err-limits-clause-none
returns-in_err-limits-clause-none c =
    let p = err_from_is_err_and c.from_residual.result c.from_residual.ensures.1 in
    let bytes : List ℕ = c.args.bytes.now in
    let old : TextRest = c.of-lines.result in
    rw (p.1, p.2) (IfBad-weaker c.in_err-limits.field-0.0 _ (NoScript bytes)
    (λ n from script. fault_refuses bytes n script (first_fault bytes old n c.of-lines.ensures.bytes c.of-lines.ensures.taken from))
    c.in_err-limits.ensures.bad)

-- the lines before a thread's calls
abbrev begun : Limits → List (List ℕ) → List (List ℕ)
begun limits files = header_lines limits files ++ codes "thread" ∷ []

fault_in_threads : (bytes : List ℕ) (old first mid : TextRest) (limits : Limits) (files : List (List ℕ)) (n : ℕ) → old.bytes ≡ bytes → old.taken ≡ 0 → Passes old first (limit_lines limits) → Passes first mid (file_lines files ++ codes "thread" ∷ []) → FaultFrom mid (begun limits files) n → IsFirstFault bytes n
fault_in_threads bytes old first mid limits files n are taken passed more fault =
    first_fault bytes old n are taken
    (FaultFrom-behind old mid [] (limit_lines limits ++ (file_lines files ++ codes "thread" ∷ [])) n (Passes-append old first mid (limit_lines limits) (file_lines files ++ codes "thread" ∷ []) passed more)
    (subst (λ ls. FaultFrom mid ls n) (append_assoc (limit_lines limits) (file_lines files) (codes "thread" ∷ [])) fault))

pub returns-in_err-shelf-clause-bad : goal.returns-in_err-shelf-clause-bad
returns-in_err-shelf-clause-bad c =
    let p = err_from_is_err_and c.from_residual-in_err-shelf.result c.from_residual-in_err-shelf.ensures.1 in
    let bytes : List ℕ = c.args.bytes.now in
    let old : TextRest = c.of-lines.result in
    let limits = c.in_ok-limits.ensures.ok in
    rw (p.1, p.2) (IfBad-weaker c.in_err-shelf.field-0.0 _ (IsFirstFault bytes)
    (λ n behind. first_fault bytes old n c.of-lines.ensures.bytes c.of-lines.ensures.taken
    (FaultFrom-behind old c.read_limits.new.lines [] (limit_lines c.in_ok-limits.limits) n limits.1 (behind c.in_ok-limits.limits limits.0)))
    c.in_err-shelf.ensures.bad)

pub returns-in_err-shelf-clause-none : goal.returns-in_err-shelf-clause-none
returns-in_err-shelf-clause-none c =
    let p = err_from_is_err_and c.from_residual-in_err-shelf.result c.from_residual-in_err-shelf.ensures.1 in
    let bytes : List ℕ = c.args.bytes.now in
    let old : TextRest = c.of-lines.result in
    let limits = c.in_ok-limits.ensures.ok in
    rw (p.1, p.2) (IfBad-weaker c.in_err-shelf.field-0.0 _ (NoScript bytes)
    (λ n behind script. fault_refuses bytes n script (first_fault bytes old n c.of-lines.ensures.bytes c.of-lines.ensures.taken
    (FaultFrom-behind old c.read_limits.new.lines [] (limit_lines c.in_ok-limits.limits) n limits.1 (behind c.in_ok-limits.limits limits.0))))
    c.in_err-shelf.ensures.bad)

pub returns-in_err-threads-clause-bad : goal.returns-in_err-threads-clause-bad
returns-in_err-threads-clause-bad c =
    let p = err_from_is_err_and c.from_residual-in_err-threads.result c.from_residual-in_err-threads.ensures.1 in
    let bytes : List ℕ = c.args.bytes.now in
    let limits = c.in_ok-limits.ensures.ok in
    let files = c.in_ok-shelf.ensures.ok in
    rw (p.1, p.2) (IfBad-weaker c.in_err-threads.field-0.0 _ (IsFirstFault bytes)
    (λ n behind. fault_in_threads bytes c.of-lines.result c.read_limits.new.lines c.read_files.new.lines c.in_ok-limits.limits c.in_ok-shelf.shelf n c.of-lines.ensures.bytes c.of-lines.ensures.taken limits.1 files.1
    (behind c.in_ok-limits.limits c.in_ok-shelf.shelf limits.0 files.0))
    c.in_err-threads.ensures.bad)

pub returns-in_err-threads-clause-none : goal.returns-in_err-threads-clause-none
returns-in_err-threads-clause-none c =
    let p = err_from_is_err_and c.from_residual-in_err-threads.result c.from_residual-in_err-threads.ensures.1 in
    let bytes : List ℕ = c.args.bytes.now in
    let limits = c.in_ok-limits.ensures.ok in
    let files = c.in_ok-shelf.ensures.ok in
    rw (p.1, p.2) (IfBad-weaker c.in_err-threads.field-0.0 _ (NoScript bytes)
    (λ n behind script. fault_refuses bytes n script (fault_in_threads bytes c.of-lines.result c.read_limits.new.lines c.read_files.new.lines c.in_ok-limits.limits c.in_ok-shelf.shelf n c.of-lines.ensures.bytes c.of-lines.ensures.taken limits.1 files.1
    (behind c.in_ok-limits.limits c.in_ok-shelf.shelf limits.0 files.0)))
    c.in_err-threads.ensures.bad)

pub returns-clause-found : goal.returns-clause-found
returns-clause-found c =
    let limits = c.in_ok-limits.ensures.ok in
    let files = c.in_ok-shelf.ensures.ok in
    let threads = c.in_ok-threads.ensures.ok in
    let script : Script = record { limits = c.in_ok-limits.limits; shelf = c.in_ok-shelf.shelf; threads = c.in_ok-threads.threads } in
    let is_script : IsScript script = record { limits = limits.0; files = files.0; threads = threads.0 } in
    script_text c.args.bytes.now c.of-lines.result c.read_limits.new.lines c.read_files.new.lines c.read_threads.new.lines script c.of-lines.ensures.bytes is_script limits.1 files.1 threads.1 threads.2

pub returns-clause-only : goal.returns-clause-only
returns-clause-only c = λ other is_text.
    let limits = c.in_ok-limits.ensures.ok in
    let files = c.in_ok-shelf.ensures.ok in
    let threads = c.in_ok-threads.ensures.ok in
    let script : Script = record { limits = c.in_ok-limits.limits; shelf = c.in_ok-shelf.shelf; threads = c.in_ok-threads.threads } in
    let is_script : IsScript script = record { limits = limits.0; files = files.0; threads = threads.0 } in
    let found : IsScriptText c.args.bytes.now script =
    script_text c.args.bytes.now c.of-lines.result c.read_limits.new.lines c.read_files.new.lines c.read_threads.new.lines script c.of-lines.ensures.bytes is_script limits.1 files.1 threads.1 threads.2 in
    one_script c.args.bytes.now script other found is_text
