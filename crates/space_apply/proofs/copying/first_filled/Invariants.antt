use Rattle.std.proofs.Common.{ℕ, ◌<◌}
use Rattle.space_apply.specs.Copying.{FilledAt}
use Rattle.space_apply.proofs.copying.first_filled.Given as goal

-- none of the cells that were seen is such
abbrev pub invariant-loop-index : goal.invariant-loop-index
invariant-loop-index l = (i : ℕ) → i < l.index → FilledAt l.cells i → ⊥
