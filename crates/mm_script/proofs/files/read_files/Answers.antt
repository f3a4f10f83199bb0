use Rattle.std.proofs.Common.{◌≡◌, ◌≢◌, ◌<◌, ◌+◌, ℕ, List, [], ◌∷◌, ◌++◌, length, refl, sym, ap, ◌∙◌, arith, Vec, Global}
use Rattle.std.proofs.lemmas.Bool.{false≢true}
use Rattle.std.proofs.lemmas.List.{length-append}
use Rattle.std.proofs.lemmas.List.Elements.{All-push}
use Rattle.mm_script.specs.ScriptText.{IsFile, AreFiles}
use Rattle.mm_script.specs.Reading.{NoLine}
use Rattle.mm_script.proofs.ThreadLines.{at_none, more_files, all_files, header_fault}
use Rattle.mm_script.proofs.files.read_files.Goals as goal

-- a shelf with room takes one more file
push_file : (files : List (List ℕ)) (bytes : List ℕ) → AreFiles files → length files < 16 → IsFile bytes → AreFiles (files ++ bytes ∷ [])
push_file files bytes h room is_file =
    let more = length-append files (bytes ∷ []) in
    record { count = omega arith; each = All-push IsFile files bytes h.each is_file }

pub returns-then-is_thread-clause-ok : goal.returns-then-is_thread-clause-ok
returns-then-is_thread-clause-ok c =
    let l = c.loop-line in
    (l.invariant.are_files, all_files c.args.lines.now l.lines c.next_kept.new.lines l.shelf c.in-Some.line.now l.invariant.passed c.in-Some.ensures.line (c.if-is_thread.ensures.0 refl))

pub returns-then-from-eq-MAX_FILES-clause-bad : goal.returns-then-from-eq-MAX_FILES-clause-bad
returns-then-from-eq-MAX_FILES-clause-bad c = λ limits hl.
    let l = c.loop-line in
    let line : List ℕ = c.in-Some.line.now in
    let P : List ℕ → Type 0 = λ other. other ≡ line in
    let full : length l.shelf ≡ 16 = cc in
    header_fault c.args.lines.now l.lines limits l.shelf c.taken.result P hl l.invariant.are_files l.invariant.passed
    (NoLine.other c.next_kept.new.lines line c.in-Some.ensures.line c.taken.ensures.value refl)
    (λ other is. (λ same. false≢true (c.if-is_thread.ensures.1 (sym is ∙ same)), λ room. absurd (omega (arith, room, full))))

pub returns-in_default-2-clause-bad : goal.returns-in_default-2-clause-bad
returns-in_default-2-clause-bad c = λ limits hl.
    let l = c.loop-line in
    let line : List ℕ = c.in-Some.line.now in
    let P : List ℕ → Type 0 = λ other. other ≡ line in
    let none = at_none (Vec ℕ Global) c.in_ok-bytes.field-0 _ c.in_default-2.not-Some c.in_ok-bytes.ensures.none in
    header_fault c.args.lines.now l.lines limits l.shelf c.taken-in_default-2.result P hl l.invariant.are_files l.invariant.passed
    (NoLine.other c.next_kept.new.lines line c.in-Some.ensures.line c.taken-in_default-2.ensures.value refl)
    (λ other is. (λ same. false≢true (c.if-is_thread.ensures.1 (sym is ∙ same)), λ room bytes h same. none bytes h (sym is ∙ same)))

pub loop-line-preserved : goal.loop-line-preserved
loop-line-preserved c =
    let l = c.loop-line in
    let found = rw c.in-Some-2.is at c.in_ok-bytes.ensures.found in
    let not_full : length l.shelf ≢ 16 = λ e. c.if-from-eq-MAX_FILES.false (cc) in
    let room : length l.shelf < 16 = omega (arith, not_full, c.count.ensures.limit) in
    rw c.in_ok-add_file.ensures.ok (record {
      passed = more_files c.args.lines.now l.lines c.next_kept.new.lines l.shelf c.in-Some-2.bytes.items c.in-Some.line.now l.invariant.passed c.in-Some.ensures.line found.1;
      are_files = push_file l.shelf c.in-Some-2.bytes.items l.invariant.are_files room found.0;
    })

pub returns-clause-bad : goal.returns-clause-bad
returns-clause-bad c = λ limits hl.
    let l = c.loop-line in
    let P : List ℕ → Type 0 = λ other. ⊥ in
    header_fault c.args.lines.now l.lines limits l.shelf (c.taken-2.result + 1) P hl l.invariant.are_files l.invariant.passed
    (NoLine.none c.next_kept.new.lines c.in_default.ensures.none (ap (λ n. n + 1) c.taken-2.ensures.value))
    (λ other never. absurd never)
