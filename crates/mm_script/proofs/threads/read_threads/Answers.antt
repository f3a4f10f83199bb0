use Rattle.std.proofs.Common.{◌≡◌, ◌+◌, ℕ, List, [], ◌∷◌, ◌++◌, length, codes, refl, sym, subst, ◌∙◌, arith, ap, Vec, Global, ◌≢◌, ◌<◌}
use Rattle.std.specs.List.{All}
use Rattle.std.proofs.lemmas.Bool.{false≢true}
use Rattle.std.proofs.lemmas.List.{length-append}
use Rattle.std.proofs.lemmas.List.Elements.{All-nil, All-push}
use Rattle.corten_base.specs.declared.calls.Call.{Call}
use Rattle.corten_base.specs.declared.numbers.Limits.{Limits}
use Rattle.text_words.specs.Layout.{TextRest}
use Rattle.mm_script.specs.CallLine.{IsCall}
use Rattle.mm_script.specs.ScriptText.{header_lines, most_threads, AreScriptLimits, AreFiles}
use Rattle.mm_script.specs.Reading.{FaultFrom}
use Rattle.mm_script.proofs.Following.{no_call_thread}
use Rattle.mm_script.proofs.Beginnings.{AreThreads-open}
use Rattle.mm_script.proofs.ThreadLines.{at_none, no_rest_lines, more_calls, all_lines, line_fault, unfinished_fault, more_threads}
use Rattle.mm_script.proofs.threads.read_threads.Goals as goal

abbrev Faulty : TextRest → ℕ → Type 0
Faulty old n = (limits : Limits) (files : List (List ℕ)) → AreScriptLimits limits → AreFiles files → FaultFrom old (header_lines limits files ++ codes "thread" ∷ []) n

one_more : (n m : ℕ) → m ≡ n + 1 → n < most_threads → n + 1 ≢ most_threads → m < most_threads
one_more n m is few other = omega arith

pub loop-line-init : goal.loop-line-init
loop-line-init c = record {
  passed = no_rest_lines c.args.lines.now c.new-threads.result.items c.new-calls.result.items c.new-threads.ensures.items c.new-calls.ensures.items;
  are_threads = rw c.new-threads.ensures.items (All-nil (All IsCall));
  are_calls = rw c.new-calls.ensures.items (All-nil IsCall);
  few = rw c.new-threads.ensures.items (omega arith);
}

pub returns-then-len-eq-MOST_THREADS-clause-bad : goal.returns-then-len-eq-MOST_THREADS-clause-bad
returns-then-len-eq-MOST_THREADS-clause-bad c =
    let l = c.loop-line in
    let line : List ℕ = c.in-Some.line.now in
    let is : line ≡ codes "thread" = c.if-is_thread.ensures.0 refl in
    let all : length l.threads.items + 1 ≡ most_threads = omega (arith, l.threads.ok, c.len.ensures, c.if-len-eq-MOST_THREADS.true) in
    subst (Faulty c.args.lines.now) (sym c.taken.ensures.value) (λ limits files hl hf.
    line_fault c.args.lines.now l.lines c.next_kept.new.lines limits files l.threads.items l.calls.items hl hf l.invariant.are_threads l.invariant.are_calls l.invariant.few l.invariant.passed line c.in-Some.ensures.line
    (λ same. all) (λ call h same. no_call_thread call h (sym same ∙ is)))

pub returns-in_default-2-clause-bad : goal.returns-in_default-2-clause-bad
returns-in_default-2-clause-bad c =
    let l = c.loop-line in
    let none = at_none Call c.in_ok-call.field-0 _ c.in_default-2.not-Some c.in_ok-call.ensures.none in
    subst (Faulty c.args.lines.now) (sym c.taken-in_default-2.ensures.value) (λ limits files hl hf.
    line_fault c.args.lines.now l.lines c.next_kept.new.lines limits files l.threads.items l.calls.items hl hf l.invariant.are_threads l.invariant.are_calls l.invariant.few l.invariant.passed c.in-Some.line.now c.in-Some.ensures.line
    (λ same. absurd (false≢true (c.if-is_thread.ensures.1 same))) none)

pub loop-line-preserved : goal.loop-line-preserved
loop-line-preserved c =
    let l = c.loop-line in
    let found = rw c.in-Some-2.is at c.in_ok-call.ensures.found in
    rw c.in_ok-push-2.ensures.items (record {
      passed = more_calls c.args.lines.now l.lines c.next_kept.new.lines l.threads.items l.calls.items c.in-Some-2.call c.in-Some.line.now l.invariant.passed c.in-Some.ensures.line found.1;
      are_threads = l.invariant.are_threads;
      are_calls = All-push IsCall l.calls.items c.in-Some-2.call l.invariant.are_calls found.0;
      few = l.invariant.few;
    })

abbrev items : Vec Call Global → List Call
items v = v.items

pub loop-line-preserved-then-is_thread : goal.loop-line-preserved-then-is_thread
loop-line-preserved-then-is_thread c =
    let l = c.loop-line in
    let is : c.in-Some.line.now ≡ codes "thread" = c.if-is_thread.ensures.0 refl in
    let last : c.of.result ≡ l.calls.items = c.of.ensures ∙ ap items c.replace.ensures.value in
    let threads_are : c.push.new.self.items ≡ l.threads.items ++ l.calls.items ∷ [] = c.in_ok-push.ensures.items ∙ ap (λ cs. l.threads.items ++ cs ∷ []) last in
    let calls_are : c.replace.new.dest.items ≡ [] = ap items c.replace.ensures.after ∙ c.new.ensures.items in
    let not_all : length l.threads.items + 1 ≢ most_threads = λ all. c.if-len-eq-MOST_THREADS.false (let same : c.len.result + 1 ≡ 8 = omega (arith, l.threads.ok, c.len.ensures, all) in same) in
    rw (threads_are, calls_are) (record {
      passed = more_threads c.args.lines.now l.lines c.next_kept.new.lines l.threads.items l.calls.items c.in-Some.line.now l.invariant.passed c.in-Some.ensures.line is;
      are_threads = All-push (All IsCall) l.threads.items l.calls.items l.invariant.are_threads l.invariant.are_calls;
      are_calls = All-nil IsCall;
      few = one_more (length l.threads.items) (length (l.threads.items ++ l.calls.items ∷ [])) (length-append l.threads.items (l.calls.items ∷ [])) l.invariant.few not_all;
    })

pub returns-then-not-is_done-clause-bad : goal.returns-then-not-is_done-clause-bad
returns-then-not-is_done-clause-bad c =
    let l = c.loop-line in
    let Next : ℕ → Type 0 = λ n. Faulty c.args.lines.now (n + 1) in
    subst Next (sym c.taken-then-not-is_done.ensures.value) (λ limits files hl hf.
    unfinished_fault c.args.lines.now l.lines c.next_kept.new.lines limits files l.threads.items l.calls.items hl hf l.invariant.are_threads l.invariant.are_calls l.invariant.few l.invariant.passed
    c.in_default.ensures.none (λ e. false≢true (c.if-not-is_done.ensures.1 e)))

pub returns-clause-ok : goal.returns-clause-ok
returns-clause-ok c =
    let l = c.loop-line in
    rw (c.of-3.ensures, c.in_ok-push-3.ensures.items, c.of-2.ensures) (
      AreThreads-open l.threads.items l.calls.items l.invariant.are_threads l.invariant.are_calls l.invariant.few,
      all_lines c.args.lines.now l.lines c.next_kept.new.lines l.threads.items l.calls.items l.invariant.passed c.in_default.ensures.none,
      c.if-not-is_done.ensures.0 refl,
    )
