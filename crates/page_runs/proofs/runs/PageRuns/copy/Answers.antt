use Rattle.std.proofs.Common.{◌≡◌, ap, sym, subst, ◌∙◌}
use Rattle.std.proofs.lemmas.Map.Entries.{entries_from_clone}
use Rattle.page_runs.specs.Spans.{marks_of}
use Rattle.page_runs.specs.Runs.{AreCrowded}
use Rattle.page_runs.proofs.Parts.{runs_along}
use Rattle.page_runs.proofs.runs.PageRuns.copy.Goals as goal
use Rattle.page_runs.proofs.runs.PageRuns.copy.Goals.{In_ok-clone}

-- a clone has the same entries
abbrev same : (c : In_ok-clone) → c.in_ok-clone.field-0.entries ≡ c.self.inside.spans.entries
same c = entries_from_clone _ _ (λ x y e. e) (λ v w e. e) _ _ c.in_ok-clone.ensures.cases

pub invariant_of-result : goal.invariant_of-result
invariant_of-result c =
    let is = same (goal.at.invariant_of-result c).In_ok-clone in
    record { runs = runs_along c.self.inside.spans c.in_ok-clone.field-0 is c.self.invariant.runs; crowded = subst (λ m. AreCrowded m c.self.inside.crowd) (sym (ap marks_of is)) c.self.invariant.crowded }

pub returns : goal.returns
returns c = ap marks_of (same (goal.at.returns c).In_ok-clone) ∙ c.self.view_is
