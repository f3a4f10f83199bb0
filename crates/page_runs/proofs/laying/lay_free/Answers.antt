use Rattle.std.proofs.Common.{◌∙◌}
use Rattle.page_runs.proofs.Parts.{runs_along}
use Rattle.page_runs.proofs.Single.{free_start, free_stop, free_laid, laid_runs, laid_marks}
use Rattle.page_runs.proofs.laying.lay_free.Goals as goal

pub returns-in_err-add-clause-runs : goal.returns-in_err-add-clause-runs
returns-in_err-add-clause-runs c = runs_along _ _ c.in_err-add.ensures.err c.requires.runs

pub settle_at-requires : goal.settle_at-requires
settle_at-requires c =
    let m = c.args.spans.now in
    let free = c.requires.free in
    laid_runs m c.add.new.spans c.args.first c.args.count c.args.mark c.requires.some c.requires.pages c.requires.indexes
    (free_start m m c.args.first c.args.count c.args.mark c.requires.some free) (free_stop m m c.args.first c.args.count c.args.mark c.requires.some free) c.requires.runs
    (free_laid m c.add.new.spans c.args.first c.args.count c.args.mark c.requires.some free c.in_ok-add.ensures.ok)

pub returns-clause-ok : goal.returns-clause-ok
returns-clause-ok c =
    let m = c.args.spans.now in
    let free = c.requires.free in
    c.settle_at.ensures.same
    ∙ laid_marks m c.add.new.spans c.args.first c.args.count c.args.mark c.requires.some c.requires.pages c.requires.indexes
    (free_start m m c.args.first c.args.count c.args.mark c.requires.some free) (free_stop m m c.args.first c.args.count c.args.mark c.requires.some free) c.requires.runs
    (free_laid m c.add.new.spans c.args.first c.args.count c.args.mark c.requires.some free c.in_ok-add.ensures.ok)
