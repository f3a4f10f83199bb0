-- What was written so far was passed on or waits, and the lines of the entries that are left come behind it.
use Rattle.std.proofs.Common.{◌≡◌, ◌≤◌, ℕ, List, ◌++◌, drop}
use Rattle.history_lines.specs.Writing.{PassedOn}
use Rattle.history_lines.specs.HistoryText.{lines_of}
use Rattle.history_lines.proofs.writer.write_entries.Given as goal

abbrev pub invariant-loop-entry : goal.invariant-loop-entry
invariant-loop-entry g l =
    let held = g.K.Sink.held in
    let faults = g.K.Sink.faults in
    (done : List ℕ) × PassedOn (held l.fn.sink) (held l.sink) (l.fn.waiting.items ++ done) l.waiting.items
    × (done ++ lines_of (drop l.entry-index l.entries) ≡ lines_of l.entries) × (faults l.fn.sink ≤ faults l.sink)
