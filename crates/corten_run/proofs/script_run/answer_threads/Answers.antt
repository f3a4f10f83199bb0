-- The thread whose calls were answered is the first of those that were left.
use Rattle.std.proofs.Common.{◌<◌, ◌+◌, [], ◌∷◌, ◌++◌, ◌∙◌, drop, length, refl, sym, ap, subst, arith}
use Rattle.page_map.specs.State.{IsConsistent}
use Rattle.byte_streams.proofs.Known.{risen}
use Rattle.corten_run.specs.Solo.{answered, all_answered, state_after_threads}
use Rattle.history_lines.specs.HistoryText.{lines_of}
use Rattle.history_lines.proofs.Parts.{passed_start, part_of_all, passed_of_all}
use Rattle.history_lines.proofs.Parts.{next_of}
use Rattle.corten_run.proofs.Answering.{next_thread, calls_keep}
use Rattle.corten_run.proofs.script_run.answer_threads.Goals as goal

pub loop-calls-init : goal.loop-calls-init
loop-calls-init g c = ([], passed_start _ _, refl, refl, c.requires.state, omega arith, refl)

pub loop-calls-preserved : goal.loop-calls-preserved
loop-calls-preserved g c =
    let before = c.loop-calls.invariant in
    let threads = c.args.threads.now in
    let thread = c.loop-calls.thread in
    let calls = c.list.result.now in
    let more = drop (c.loop-calls.calls-index + 1) threads in
    let inside : c.loop-calls.calls-index < length threads = omega (arith, c.loop-calls-test.true) in
    let next = next_of threads c.loop-calls.calls-index c.calls-item.result inside c.calls-item.is ∙ ap (λ cs. cs ∷ more) (sym c.list.ensures) in
    let whole = next_thread c.loop-calls.plain thread _ more calls before.0 _ next before.2 in
    let after = c.in-Whole.ensures.after refl in
    let both = passed_of_all _ _ _ c.args.waiting.now.items before.0 _ _ _ _ _ before.1 c.in-Whole.ensures.written whole in
    let done = before.0 ++ lines_of (answered c.loop-calls.plain thread calls) in
    let few : thread < 8 = omega (arith, before.6, inside, c.requires.threads) in (
      done,
      both.0,
      ap (λ st. done ++ lines_of (all_answered st (thread + 1) more)) after ∙ both.1,
      ap (λ st. state_after_threads st (thread + 1) more) after ∙ ap (state_after_threads c.loop-calls.plain thread) (sym next) ∙ before.3,
      subst IsConsistent (sym after) (calls_keep c.loop-calls.plain thread calls few before.4),
      omega (arith, before.5, c.in-Whole.ensures.count),
      ap (λ n. n + 1) before.6,
    )

pub returns-in-Failed-clause-written : goal.returns-in-Failed-clause-written
returns-in-Failed-clause-written g c =
    let before = c.loop-calls.invariant in
    let threads = c.args.threads.now in
    let more = drop (c.loop-calls.calls-index + 1) threads in
    let inside : c.loop-calls.calls-index < length threads = omega (arith, c.loop-calls-test.true) in
    let next = next_of threads c.loop-calls.calls-index c.calls-item.result inside c.calls-item.is ∙ ap (λ cs. cs ∷ more) (sym c.list.ensures) in
    let whole = next_thread c.loop-calls.plain c.loop-calls.thread _ more c.list.result.now before.0 _ next before.2 in (
      part_of_all _ _ _ c.args.waiting.now.items before.0 _ _ _ _ before.1 c.in-Failed.ensures.written.0 whole,
      risen _ _ _ before.5 c.in-Failed.ensures.count c.in-Failed.ensures.written.1,
    )

pub returns-in-NoMemory-clause-written : goal.returns-in-NoMemory-clause-written
returns-in-NoMemory-clause-written g c =
    let before = c.loop-calls.invariant in
    let threads = c.args.threads.now in
    let more = drop (c.loop-calls.calls-index + 1) threads in
    let inside : c.loop-calls.calls-index < length threads = omega (arith, c.loop-calls-test.true) in
    let next = next_of threads c.loop-calls.calls-index c.calls-item.result inside c.calls-item.is ∙ ap (λ cs. cs ∷ more) (sym c.list.ensures) in
    let whole = next_thread c.loop-calls.plain c.loop-calls.thread _ more c.list.result.now before.0 _ next before.2 in
    part_of_all _ _ _ c.args.waiting.now.items before.0 _ _ _ _ before.1 c.in-NoMemory.ensures.written whole
