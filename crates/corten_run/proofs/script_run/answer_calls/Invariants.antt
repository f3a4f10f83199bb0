-- What was answered so far was passed on or waits, and the calls that are left are answered from the state that they left.
use Rattle.std.proofs.Common.{◌≡◌, ◌≤◌, ℕ, List, ◌++◌, drop}
use Rattle.page_map.specs.State.{IsConsistent}
use Rattle.history_lines.specs.Writing.{PassedOn}
use Rattle.corten_run.specs.Solo.{answered, state_after_calls}
use Rattle.history_lines.specs.HistoryText.{lines_of}
use Rattle.corten_run.proofs.script_run.answer_calls.Given as goal

abbrev pub invariant-loop-call : goal.invariant-loop-call
invariant-loop-call g l =
    let held = g.K.Sink.held in
    let faults = g.K.Sink.faults in
    let left = drop l.call-index l.calls in
    (done : List ℕ) × PassedOn (held l.fn.sink) (held l.sink) (l.fn.waiting.items ++ done) l.waiting.items
    × (done ++ lines_of (answered l.plain l.thread left) ≡ lines_of (answered l.fn.plain l.thread l.calls))
    × (state_after_calls l.plain l.thread left ≡ state_after_calls l.fn.plain l.thread l.calls)
    × IsConsistent l.plain × (faults l.fn.sink ≤ faults l.sink)
