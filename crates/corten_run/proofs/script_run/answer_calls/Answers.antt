-- The call that was answered is the first of those that were left.
use Rattle.std.proofs.Common.{◌<◌, ◌+◌, [], ◌++◌, ◌∙◌, drop, length, refl, sym, ap, subst, arith}
use Rattle.page_map.specs.State.{IsConsistent}
use Rattle.page_map.specs.Step.{step}
use Rattle.page_map.proofs.StepKeeps.{step_keeps}
use Rattle.text_words.specs.Layout.{ended}
use Rattle.history_lines.specs.HistoryText.{answer_line, lines_of}
use Rattle.byte_streams.proofs.Known.{risen}
use Rattle.corten_run.specs.Solo.{answered, state_after_calls}
use Rattle.history_lines.proofs.Parts.{passed_start, part_of_all, passed_of_all}
use Rattle.history_lines.proofs.Parts.{next_of}
use Rattle.corten_run.proofs.Answering.{next_line}
use Rattle.corten_run.proofs.script_run.answer_calls.Goals as goal

pub loop-call-init : goal.loop-call-init
loop-call-init g c = ([], passed_start _ _, refl, refl, c.requires.state, omega arith)

pub loop-call-preserved : goal.loop-call-preserved
loop-call-preserved g c =
    let before = c.loop-call.invariant in
    let calls = c.args.calls.now in
    let more = drop (c.loop-call.call-index + 1) calls in
    let inside : c.loop-call.call-index < length calls = omega (arith, c.loop-call-test.true) in
    let next = next_of calls c.loop-call.call-index c.call-item.result inside c.call-item.is in
    let whole = next_line c.loop-call.plain c.args.thread calls _ more c.call-item.result before.0 _ next before.2 in
    let after = c.in-Whole.ensures.after refl in
    let both = passed_of_all _ _ _ c.args.waiting.now.items before.0 _ _ _ _ _ before.1 c.in-Whole.ensures.written whole in
    let done = before.0 ++ ended (answer_line c.args.thread c.call-item.result (step c.loop-call.plain c.args.thread c.call-item.result 0).0) in (
      done,
      both.0,
      ap (λ st. done ++ lines_of (answered st c.args.thread more)) after ∙ both.1,
      ap (λ st. state_after_calls st c.args.thread more) after ∙ ap (state_after_calls c.loop-call.plain c.args.thread) (sym next) ∙ before.3,
      subst IsConsistent (sym after) (step_keeps c.loop-call.plain c.args.thread 0 c.call-item.result c.requires.thread before.4),
      omega (arith, before.5, c.in-Whole.ensures.count),
    )

pub returns-in-Failed-clause-written : goal.returns-in-Failed-clause-written
returns-in-Failed-clause-written g c =
    let before = c.loop-call.invariant in
    let calls = c.args.calls.now in
    let inside : c.loop-call.call-index < length calls = omega (arith, c.loop-call-test.true) in
    let next = next_of calls c.loop-call.call-index c.call-item.result inside c.call-item.is in
    let whole = next_line c.loop-call.plain c.args.thread calls _ _ c.call-item.result before.0 _ next before.2 in (
      part_of_all _ _ _ c.args.waiting.now.items before.0 _ _ _ _ before.1 c.in-Failed.ensures.written.0 whole,
      risen _ _ _ before.5 c.in-Failed.ensures.count c.in-Failed.ensures.written.1,
    )

pub returns-in-NoMemory-clause-written : goal.returns-in-NoMemory-clause-written
returns-in-NoMemory-clause-written g c =
    let before = c.loop-call.invariant in
    let calls = c.args.calls.now in
    let inside : c.loop-call.call-index < length calls = omega (arith, c.loop-call-test.true) in
    let next = next_of calls c.loop-call.call-index c.call-item.result inside c.call-item.is in
    let whole = next_line c.loop-call.plain c.args.thread calls _ _ c.call-item.result before.0 _ next before.2 in
    part_of_all _ _ _ c.args.waiting.now.items before.0 _ _ _ _ before.1 c.in-NoMemory.ensures.written whole
