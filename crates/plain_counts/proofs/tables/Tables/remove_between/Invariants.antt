use Rattle.std.proofs.Common.{◌≡◌, not}
use Rattle.std.specs.FinSet as set
use Rattle.plain_counts.specs.Levels.{is_between}
use Rattle.plain_counts.proofs.tables.Tables.remove_between.Given as goal

-- what is to stay is as at first
abbrev pub invariant-loop-place : goal.invariant-loop-place
invariant-loop-place l = set.retain l.self (λ p. not (is_between l.low l.high p)) ≡ set.retain l.initial.self (λ p. not (is_between l.low l.high p))

abbrev pub decreases-loop-place : goal.decreases-loop-place
decreases-loop-place l = set.len l.self
