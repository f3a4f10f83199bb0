use Rattle.std.proofs.Common.{◌≡◌, ◌-◌, not}
use Rattle.std.specs.FinSet as set
use Rattle.plain_counts.proofs.Removed.{is_inside_below}
use Rattle.plain_counts.proofs.tables.Tables.remove_up_to.Given as goal

-- those of the levels below are gone
abbrev pub invariant-loop-level : goal.invariant-loop-level
invariant-loop-level l = l.self ≡ set.retain l.initial.self (λ p. not (is_inside_below l.levels l.space l.first (l.end - l.first) l.level p))
