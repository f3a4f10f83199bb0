-- What was answered so far was passed on or waits, and the threads that are left are answered from the state that they left.
use Rattle.std.proofs.Common.{◌≡◌, ◌≤◌, ℕ, List, ◌++◌, drop}
use Rattle.page_map.specs.State.{IsConsistent}
use Rattle.history_lines.specs.Writing.{PassedOn}
use Rattle.corten_run.specs.Solo.{all_answered, state_after_threads}
use Rattle.history_lines.specs.HistoryText.{lines_of}
use Rattle.corten_run.proofs.script_run.answer_threads.Given as goal

abbrev pub invariant-loop-calls : goal.invariant-loop-calls
invariant-loop-calls g l =
    let held = g.K.Sink.held in
    let faults = g.K.Sink.faults in
    let left = drop l.calls-index l.threads in
    (done : List ℕ) × PassedOn (held l.fn.sink) (held l.sink) (l.fn.waiting.items ++ done) l.waiting.items
    × (done ++ lines_of (all_answered l.plain l.thread left) ≡ lines_of (all_answered l.fn.plain 0 l.threads))
    × (state_after_threads l.plain l.thread left ≡ state_after_threads l.fn.plain 0 l.threads)
    × IsConsistent l.plain × (faults l.fn.sink ≤ faults l.sink) × (l.thread ≡ l.calls-index)
