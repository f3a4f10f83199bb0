use Rattle.std.proofs.Common.{◌≡◌}
use Rattle.page_runs.specs.Spans.{AreRuns, marks}
use Rattle.page_runs.proofs.changes.tidy_all.Given as goal

abbrev pub invariant-loop-change : goal.invariant-loop-change
invariant-loop-change l = record { runs : AreRuns l.spans; same : marks l.spans ≡ marks l.initial.spans }
