-- The lines so far are those of the files and of the items.
use Rattle.std.proofs.Common.{length}
use Rattle.image_text.specs.Images.{IsImage}
use Rattle.image_text.proofs.Bodies.{HasPassed}
use Rattle.image_text.proofs.reading.read_body.Given as goal

abbrev pub invariant-loop-line : goal.invariant-loop-line
invariant-loop-line l = HasPassed l.fn.limits l.fn.lines l.lines l.draft

abbrev pub decreases-loop-line : goal.decreases-loop-line
decreases-loop-line l = length l.lines.bytes
