use Rattle.std.proofs.Common.{◌-◌, ◌+◌, ◌≤◌, ◌<◌}
use Rattle.held_spans.proofs.Gaping.{Walked}
use Rattle.held_spans.proofs.gaps.gap_in.Given as goal

abbrev pub invariant-loop-run : goal.invariant-loop-run
invariant-loop-run l = record {
  from : l.first ≤ l.run;
  near : l.run ≤ l.page;
  short : l.page < l.run + l.count;
  to : l.page ≤ l.end;
  walked : Walked l.held.rows l.first l.pages l.count l.run l.page;
}

abbrev pub decreases-loop-run : goal.decreases-loop-run
decreases-loop-run l = l.end - l.page
