use Rattle.std.proofs.Common.{◌≡◌, length}
use Rattle.image_text.specs.Items as definitions
use Rattle.image_text.proofs.trimming.trimmed.Given as goal

-- what was cut off are zeros at the end
abbrev pub invariant-loop-last : goal.invariant-loop-last
invariant-loop-last l = definitions.trimmed l.rest ≡ definitions.trimmed l.fn.bytes

abbrev pub decreases-loop-last : goal.decreases-loop-last
decreases-loop-last l = length l.rest
