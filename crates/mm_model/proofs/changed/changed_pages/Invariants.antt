use Rattle.std.proofs.Common.{◌+◌, ◌-◌, ◌≤◌}
use Rattle.page_map.specs.Mapping.{after_op}
use Rattle.mm_model.proofs.Found.{IsFoundIn}
use Rattle.mm_model.proofs.changed.changed_pages.Given as goal

-- of the pages before `next` those from the first that changes to the last are found
abbrev pub invariant-loop-next : goal.invariant-loop-next
invariant-loop-next l = record { low : l.range.first ≤ l.next; high : l.next ≤ l.range.first + l.range.count; found : IsFoundIn l.cells (after_op l.op l.cells) l.range.first l.next l.changed }

abbrev pub decreases-loop-next : goal.decreases-loop-next
decreases-loop-next l = l.range.first + l.range.count - l.next
