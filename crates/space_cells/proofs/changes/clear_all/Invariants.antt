use Rattle.std.proofs.Common.{◌≡◌, ℕ, cond, None, take}
use Rattle.std.specs.List.{list_any}
use Rattle.space_cells.specs.Held.{held_at}
use Rattle.space_cells.specs.Changes.{releases}
use Rattle.space_cells.proofs.changes.clear_all.Given as goal

-- what the changes before this one leave
abbrev pub invariant-loop-change : goal.invariant-loop-change
invariant-loop-change l = (q : ℕ) → held_at l.pages q ≡ cond (list_any (λ change. releases change q) (take l.change-index l.changes)) None (held_at l.initial.pages q)
