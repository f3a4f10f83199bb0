-- The first n bytes were written, and the others are left.
use Rattle.std.proofs.Common.{◌≡◌, ◌≤◌, ℕ, length, take, drop}
use Rattle.byte_streams.specs.Streams.{HasWritten}
use Rattle.byte_streams.proofs.writing.write_whole.Given as goal

abbrev pub invariant-loop-rest : goal.invariant-loop-rest
invariant-loop-rest g l =
    let held = g.K.Sink.held in
    let faults = g.K.Sink.faults in
    (n : ℕ) × (n ≤ length l.bytes) × (l.rest ≡ drop n l.bytes) × HasWritten (held l.fn.sink) (held l.sink) (take n l.bytes) × (faults l.fn.sink ≤ faults l.sink)

abbrev pub decreases-loop-rest : goal.decreases-loop-rest
decreases-loop-rest g l = length l.rest
