use Rattle.std.proofs.Common.{[], length}
use Rattle.mm_script.specs.Reading.{Passes}
use Rattle.mm_script.proofs.kept.next_kept.Given as goal

-- the lines so far are skipped
abbrev pub invariant-loop-line : goal.invariant-loop-line
invariant-loop-line l = Passes l.fn.lines l.lines []

abbrev pub decreases-loop-line : goal.decreases-loop-line
decreases-loop-line l = length l.lines.bytes
