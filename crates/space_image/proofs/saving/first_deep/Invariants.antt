use Rattle.std.proofs.Common.{ℕ, ◌-◌, ◌^◌, ◌<◌, ◌≤◌}
use Rattle.page_map.specs.State.{space_at}
use Rattle.space_image.specs.Saving.{IsDeep}
use Rattle.space_image.proofs.saving.first_deep.Given as goal

-- none begins before `next`
abbrev pub invariant-loop-run : goal.invariant-loop-run
invariant-loop-run l = record { few : l.next ≤ 2 ^ 44; none : (q : ℕ) → q < l.next → ¬ (IsDeep (space_at l.plain l.space) q) }

abbrev pub decreases-loop-run : goal.decreases-loop-run
decreases-loop-run l = 2 ^ 44 - l.next
