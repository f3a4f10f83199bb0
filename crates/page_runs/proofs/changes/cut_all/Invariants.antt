use Rattle.std.proofs.Common.{◌≡◌, ℕ, take}
use Rattle.std.specs.List.{All}
use Rattle.page_runs.specs.Spans.{AreRuns, IsTaken, marks}
use Rattle.page_runs.specs.Changes.{IsCut}
use Rattle.page_runs.proofs.changes.cut_all.Given as goal

-- the runs are split at the edges of the ranges before this one
abbrev pub invariant-loop-change : goal.invariant-loop-change
invariant-loop-change l = record {
  runs : AreRuns l.spans;
  same : marks l.spans ≡ marks l.initial.spans;
  taken : (q : ℕ) → IsTaken l.initial.spans q → IsTaken l.spans q;
  cut : All (IsCut l.spans) (take l.change-index l.changes);
}
