use Rattle.std.proofs.Common.{◌-◌, ◌<◌, ◌≤◌}
use Rattle.pageout.specs.Refresh.{AreRefreshed}
use Rattle.pageout.proofs.refresh.mark_mapped.Given as goal

-- the marks of the pages before `next` were looked at again
abbrev pub invariant-loop-page : goal.invariant-loop-page
invariant-loop-page l = record {
  low : l.span.first ≤ l.next;
  high : l.span.first < l.next → l.next ≤ l.span.end;
  done : AreRefreshed l.plain l.place l.is_access l.space (record { first = l.span.first; end = l.next }) l.initial.index.marks l.index.marks;
}

abbrev pub decreases-loop-page : goal.decreases-loop-page
decreases-loop-page l = l.span.end - l.next
