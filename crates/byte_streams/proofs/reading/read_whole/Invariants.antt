-- What was read and what is left are what was left; the piece keeps its size.
use Rattle.std.proofs.Common.{◌≡◌, ◌≤◌, ◌+◌, ◌-◌, ℕ, vec_len}
use Rattle.byte_streams.specs.Streams.{HasRead}
use Rattle.byte_streams.proofs.reading.read_whole.Given as goal

abbrev pub invariant-loop-piece : goal.invariant-loop-piece
invariant-loop-piece g l =
    let left = g.S.Source.left in
    let faults = g.S.Source.faults in
    HasRead (left l.fn.source) (left l.source) l.bytes.items × (faults l.fn.source ≤ faults l.source) × (vec_len l.piece ≡ 65536)

abbrev pub decreases-loop-piece : goal.decreases-loop-piece
decreases-loop-piece g l = l.limit + 1 - vec_len l.bytes
