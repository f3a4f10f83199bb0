use Rattle.std.proofs.Common.{ap, ◌∙◌, arith, ◌+◌, ◌-◌}
use Rattle.page_map.specs.Change.{least}
use Rattle.page_runs.specs.Spans.{marks}
use Rattle.page_runs.specs.Runs.{is_vacant}
use Rattle.page_runs.proofs.Crowded.{later_start}
use Rattle.page_runs.proofs.runs.PageRuns.gap.Goals as goal

pub returns : goal.returns
returns c =
    c.gap.ensures
    ∙ later_start (marks c.self.inside.spans) c.args.first c.min-start.result c.args.end c.args.count (omega (arith, c.min-start.ensures, c.start.ensures.low, c.requires.range)) (omega (arith, c.min-start.ensures)) c.requires.some
    (λ start low high. c.start.ensures.none (marks c.self.inside.spans) c.self.invariant.crowded start low (omega (arith, high, c.min-start.ensures)))
    ∙ ap (λ m. least c.args.first (c.args.end + 1 - (c.args.first + c.args.count)) (λ start. is_vacant m start c.args.count)) c.self.view_is
