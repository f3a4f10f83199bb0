-- The reply that was written is the step's.
use Rattle.std.proofs.Common.{◌≡◌, ◌++◌, ap, subst}
use Rattle.corten_base.specs.declared.calls.Reply.{Reply}
use Rattle.page_map.specs.State.{State}
use Rattle.page_map.specs.Step.{step}
use Rattle.text_words.specs.Layout.{ended}
use Rattle.history_lines.specs.HistoryText.{answer_line}
use Rattle.history_lines.specs.Outcomes.{GoesOn}
use Rattle.corten_run.proofs.script_run.answer_call.Goals as goal

pub returns-clause-written : goal.returns-clause-written
returns-clause-written g c =
    let held = g.K.Sink.held in
    let faults = g.K.Sink.faults in
    let same : c.in-Ok.reply ≡ (step c.args.plain.now c.args.thread c.args.call.now 0).0 = ap (λ (p : Reply × State). p.0) c.in-Ok.ensures.ok in
    subst (λ r. GoesOn (held c.args.sink.now) (held c.write_entry.new.sink) (faults c.args.sink.now) (faults c.write_entry.new.sink)
    (c.args.waiting.now.items ++ ended (answer_line c.args.thread c.args.call.now r)) c.write_entry.new.waiting.items c.write_entry.result) same c.write_entry.ensures.written
