use Rattle.std.proofs.Common.{◌≡◌, ◌+◌, ◌-◌, ◌≤◌, length}
use Rattle.page_map.specs.Change.{keys_in}
use Rattle.plain_counts.specs.Counts.{Follow}
use Rattle.plain_counts.specs.Owners.{unused_of}
use Rattle.plain_spaces.specs.Swapping.{passes, taken, to}
use Rattle.plain_spaces.proofs.Swaps.{to_do}
use Rattle.plain_spaces.proofs.swap.Move.make.Given as goal

-- what is left to be done from `next` on is what was to be done at first
abbrev pub invariant-loop-page : goal.invariant-loop-page
invariant-loop-page l = record {
  low : l.first ≤ l.next;
  high : l.next ≤ l.end;
  cells : to_do (to l.self) (passes l.self l.counts) l.cells l.next l.end (unused_of (taken l.self l.counts))
      ≡ to_do (to l.self) (passes l.self l.initial.counts) l.initial.cells l.first l.end (unused_of (taken l.self l.initial.counts));
  enough : length (keys_in l.cells l.next (l.end - l.next) (passes l.self l.counts)) ≤ length (unused_of (taken l.self l.counts));
  balance : length (unused_of (taken l.self l.counts)) + length (keys_in l.initial.cells l.first (l.end - l.first) (passes l.self l.initial.counts))
      ≡ length (unused_of (taken l.self l.initial.counts)) + length (keys_in l.cells l.next (l.end - l.next) (passes l.self l.counts));
  follow : Follow l.initial.counts l.counts l.initial.cells l.cells;
}

abbrev pub decreases-loop-page : goal.decreases-loop-page
decreases-loop-page l = l.end - l.next
