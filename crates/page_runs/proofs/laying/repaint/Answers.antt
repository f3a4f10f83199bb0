use Rattle.std.proofs.Common.{◌∙◌, ap}
use Rattle.page_runs.specs.declared.spans.Span.{Span}
use Rattle.page_runs.proofs.Single.{one_runs, one_made}
use Rattle.page_runs.proofs.laying.repaint.Goals as goal
use Rattle.page_runs.proofs.laying.repaint.Goals.{After-put}

abbrev new : (c : After-put) → Span
new c = record { count = c.args.span.count; mark = c.made.result }

pub settle-requires-clause-runs : goal.settle-requires-clause-runs
settle-requires-clause-runs c =
    let at = (goal.at.settle-requires-clause-runs c).After-put in
    one_runs c.args.spans.now c.put.new.spans c.args.change c.args.span (new at) c.requires.whole (ap (λ mark. record { count = c.args.span.count; mark = mark }) c.made.ensures) c.requires.fits c.requires.runs c.put.ensures

pub returns-clause-made : goal.returns-clause-made
returns-clause-made c =
    let at = (goal.at.returns-clause-made c).After-put in
    c.settle_at.ensures.same ∙ c.settle.ensures.same
    ∙ one_made c.args.spans.now c.put.new.spans c.args.change c.args.span (new at) c.requires.whole (ap (λ mark. record { count = c.args.span.count; mark = mark }) c.made.ensures) c.requires.fits c.requires.runs c.put.ensures
