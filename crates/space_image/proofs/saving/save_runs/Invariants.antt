use Rattle.std.proofs.Common.{◌-◌, ◌^◌, ◌≤◌}
use Rattle.page_map.specs.State.{space_at}
use Rattle.space_image.proofs.SavedItems.{AreSaved}
use Rattle.space_image.proofs.saving.save_runs.Given as goal

-- the lines of the pages before `next` were added
abbrev pub invariant-loop-run : goal.invariant-loop-run
invariant-loop-run l = record { few : l.next ≤ 2 ^ 44; saved : AreSaved (space_at l.plain l.space) l.next l.fn.out.items l.out.items }

abbrev pub decreases-loop-run : goal.decreases-loop-run
decreases-loop-run l = 2 ^ 44 - l.next
