use Rattle.std.proofs.Common.{take}
use Rattle.page_runs.specs.Changes.{after_changes}
use Rattle.page_runs.specs.Runs.{AreCrowded}
use Rattle.page_runs.specs.Spans.{Marks}
use Rattle.page_runs.proofs.crowds.Crowd.after.Given as goal

-- the changes before this one are thought of
abbrev pub invariant-loop-change : goal.invariant-loop-change
invariant-loop-change l = record {
  before : (m : Marks) → AreCrowded m l.fn.self → AreCrowded m l.left;
  after : (m : Marks) → AreCrowded m l.fn.self → AreCrowded (after_changes m (take l.change-index l.changes)) l.left;
}
