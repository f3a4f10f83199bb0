use Rattle.std.proofs.Common.{◌-◌, ◌<◌, ◌≤◌}
use Rattle.pageout.specs.Refresh.{AreKept}
use Rattle.pageout.proofs.refresh.drop_old.Given as goal

-- the marks of the pages before `next` are kept or taken
abbrev pub invariant-loop-page : goal.invariant-loop-page
invariant-loop-page l = record {
  low : l.span.first ≤ l.next;
  high : l.span.first < l.next → l.next ≤ l.span.end;
  done : AreKept l.plain l.space (record { first = l.span.first; end = l.next }) l.initial.index.marks l.index.marks;
}

abbrev pub decreases-loop-page : goal.decreases-loop-page
decreases-loop-page l = l.span.end - l.next
