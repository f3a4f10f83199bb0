use Rattle.std.proofs.Common.{◌+◌, ◌-◌, ◌≤◌}
use Rattle.std.specs.List.{All}
use Rattle.page_runs.specs.Changes.{IsChange, after_changes}
use Rattle.space_cells.specs.Moving.{HaveMoved}
use Rattle.space_cells.proofs.moving.add_moved.Given as goal

-- the old pages before `next` stand at their new places
abbrev pub invariant-loop-run : goal.invariant-loop-run
invariant-loop-run l = record {
  low : l.relocation.first ≤ l.next;
  high : l.next ≤ l.relocation.first + l.relocation.old;
  fits : All IsChange l.changes.items;
  moved : HaveMoved l.relocation (l.next - l.relocation.first) l.marks (after_changes l.marks l.changes.items);
}

abbrev pub decreases-loop-run : goal.decreases-loop-run
decreases-loop-run l = l.relocation.first + l.relocation.old - l.next
