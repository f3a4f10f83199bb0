use Rattle.std.proofs.Common.{◌∙◌, ap}
use Rattle.page_runs.specs.Spans.{mapped}
use Rattle.page_runs.proofs.Single.{laid_runs, laid_marks}
use Rattle.page_runs.proofs.laying.lay_over.Goals as goal

pub settle-requires-clause-runs : goal.settle-requires-clause-runs
settle-requires-clause-runs c =
    let open_range = c.in-Ok.ensures.cut in
    laid_runs c.clear_ends.new.spans c.make_one.new.spans c.args.first c.args.count c.args.mark c.requires.some c.requires.pages c.requires.indexes open_range.start open_range.stop c.clear_ends.ensures.runs c.make_one.ensures

pub returns-in-Ok-clause-ok : goal.returns-in-Ok-clause-ok
returns-in-Ok-clause-ok c =
    let open_range = c.in-Ok.ensures.cut in
    c.settle_at.ensures.same ∙ c.settle.ensures.same
    ∙ laid_marks c.clear_ends.new.spans c.make_one.new.spans c.args.first c.args.count c.args.mark c.requires.some c.requires.pages c.requires.indexes open_range.start open_range.stop c.clear_ends.ensures.runs c.make_one.ensures
    ∙ ap (λ m. mapped m c.args.first c.args.count c.args.mark) c.clear_ends.ensures.same
