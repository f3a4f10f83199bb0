use Rattle.std.proofs.Common.{◌≡◌, take}
use Rattle.std.specs.List.{All}
use Rattle.page_runs.specs.Spans.{AreRuns, marks}
use Rattle.page_runs.specs.Changes.{IsFilled}
use Rattle.page_runs.proofs.changes.fill_all.Given as goal

-- the ranges before this one are filled
abbrev pub invariant-loop-change : goal.invariant-loop-change
invariant-loop-change l = record { runs : AreRuns l.spans; same : marks l.spans ≡ marks l.initial.spans; filled : All (IsFilled l.spans) (take l.change-index l.changes) }
