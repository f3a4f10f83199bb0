use Rattle.std.proofs.Common.{◌≡◌, ◌+◌, ◌-◌, ◌≤◌, length}
use Rattle.page_map.specs.Change.{keys_in}
use Rattle.plain_spaces.specs.Swapping.{passes}
use Rattle.plain_spaces.proofs.swap.Move.pages.Given as goal

-- the pages before `next` are counted
abbrev pub invariant-loop-page : goal.invariant-loop-page
invariant-loop-page l = record {
  low : l.first ≤ l.next;
  high : l.next ≤ l.end;
  few : l.pages ≤ l.next - l.first;
  counted : l.pages + length (keys_in l.cells l.next (l.end - l.next) (passes l.self l.counts)) ≡ length (keys_in l.cells l.first (l.end - l.first) (passes l.self l.counts));
}

abbrev pub decreases-loop-page : goal.decreases-loop-page
decreases-loop-page l = l.end - l.next
