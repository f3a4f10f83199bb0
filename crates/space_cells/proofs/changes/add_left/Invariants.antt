use Rattle.std.proofs.Common.{◌≡◌, ◌-◌, ◌≤◌, ◌++◌}
use Rattle.std.specs.List.{filter_map, range_with_len}
use Rattle.space_cells.specs.Held.{number_held}
use Rattle.space_cells.specs.Changes.{left}
use Rattle.space_cells.proofs.changes.add_left.Given as goal

-- the numbers so far, and those from `next` on
abbrev pub invariant-loop-page : goal.invariant-loop-page
invariant-loop-page l = record {
  high : l.next ≤ l.end;
  numbers : l.numbers.items ++ filter_map (left (number_held l.pages) l.earlier) (range_with_len l.next (l.end - l.next))
      ≡ l.initial.numbers.items ++ filter_map (left (number_held l.pages) l.earlier) (range_with_len l.initial.next (l.end - l.initial.next));
}

abbrev pub decreases-loop-page : goal.decreases-loop-page
decreases-loop-page l = l.end - l.next
