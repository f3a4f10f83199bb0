use Rattle.std.proofs.Common.{◌≡◌, ℕ, ◌-◌}
use Rattle.page_runs.specs.Spans.{AreRuns, AreTaken, IsTaken, marks}
use Rattle.page_runs.proofs.filling.fill.Given as goal

-- the pages before `next` are filled
abbrev pub invariant-loop-next : goal.invariant-loop-next
invariant-loop-next l = record {
  runs : AreRuns l.spans;
  same : marks l.spans ≡ marks l.initial.spans;
  taken : (q : ℕ) → IsTaken l.initial.spans q → IsTaken l.spans q;
  filled : AreTaken l.spans l.first l.next;
}

abbrev pub decreases-loop-next : goal.decreases-loop-next
decreases-loop-next l = l.end - l.next
