use Rattle.std.proofs.Common.{ℕ, ◌<◌, map}
use Rattle.walk_core.specs.Lists.{Has}
use Rattle.row_table.specs.Passes.{number_of}
use Rattle.row_table.proofs.close.has_all.Given as goal

abbrev pub invariant-loop-number : goal.invariant-loop-number
invariant-loop-number g l = (t : ℕ) → t < l.number → Has (map (λ p. number_of p) l.passes) t
