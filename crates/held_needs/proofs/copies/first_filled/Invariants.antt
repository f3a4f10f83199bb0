use Rattle.std.proofs.Common.{ℕ, ◌<◌}
use Rattle.held_needs.specs.Copies.{FilledAt}
use Rattle.held_needs.proofs.copies.first_filled.Given as goal

-- none of the cells that were seen is such
abbrev pub invariant-loop-index : goal.invariant-loop-index
invariant-loop-index l = (i : ℕ) → i < l.index → FilledAt l.cells i → ⊥
