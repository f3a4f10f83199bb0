use Rattle.std.proofs.Common.{◌+◌, ◌∙◌, ap, arith}
use Rattle.page_runs.specs.Spans.{unmapped}
use Rattle.page_runs.specs.Changes.{IsCleared}
use Rattle.page_runs.proofs.Cleared.{cleared, cleared_runs, cleared_marks}
use Rattle.page_runs.proofs.clearing.clear.Goals as goal
use Rattle.page_runs.proofs.clearing.clear.Goals.{After-take_all}

abbrev is_cleared : (c : After-take_all) → IsCleared c.split.new.spans c.take_all.new.spans c.args.first (c.args.first + c.args.count)
is_cleared c = cleared c.split.new.spans c.trim.new.spans c.take_all.new.spans c.args.first (c.args.first + c.args.count) (omega arith) c.trim.ensures c.take_all.ensures

pub returns-clause-runs : goal.returns-clause-runs
returns-clause-runs c =
    let at = (goal.at.returns-clause-runs c).After-take_all in
    cleared_runs c.split.new.spans c.take_all.new.spans c.args.first c.args.count c.in_ok-split.ensures.edge c.split.ensures.runs (is_cleared at)

pub returns-clause-ok : goal.returns-clause-ok
returns-clause-ok c =
    let at = (goal.at.returns-clause-ok c).After-take_all in
    cleared_marks c.split.new.spans c.take_all.new.spans c.args.first c.args.count c.in_ok-split.ensures.edge c.split.ensures.runs (is_cleared at)
    ∙ ap (λ m. unmapped m c.args.first c.args.count) c.split.ensures.same
