use Rattle.std.proofs.Common.{◌≡◌, ℕ, ◌<◌, true}
use Rattle.std.specs.FinMap as map
use Rattle.plain_spaces.proofs.spaces.Spaces.least_absent.Given as goal

-- the spaces before this one are present
abbrev pub invariant-loop-space : goal.invariant-loop-space
invariant-loop-space l = (s : ℕ) → s < l.space → map.contains_key l.self s ≡ true
