use Rattle.std.proofs.Common.{◌≡◌, take}
use Rattle.std.specs.List.{All}
use Rattle.page_runs.specs.Spans.{AreRuns, marks}
use Rattle.page_runs.specs.Changes.{IsCut, IsFilled, after_changes}
use Rattle.page_runs.proofs.changes.paint_all.Given as goal

-- the changes before this one are made
abbrev pub invariant-loop-change : goal.invariant-loop-change
invariant-loop-change l = record {
  filled : All (IsFilled l.spans) l.changes;
  cut : All (IsCut l.spans) l.changes;
  runs : AreRuns l.spans;
  made : marks l.spans ≡ after_changes (marks l.initial.spans) (take l.change-index l.changes);
}
