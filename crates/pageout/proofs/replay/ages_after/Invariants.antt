use Rattle.std.proofs.Common.{take}
use Rattle.pageout.specs.Ages.{AreAgesOf}
use Rattle.pageout.proofs.replay.ages_after.Given as goal

-- the ages are those of the answered calls so far
abbrev pub invariant-loop-entry : goal.invariant-loop-entry
invariant-loop-entry l = AreAgesOf l.fn.limits l.fn.shelf (take l.entry-index l.entries) l.ages
