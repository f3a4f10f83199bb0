use Rattle.std.proofs.Common.{ap, sym, ◌∙◌, ◌+◌, ◌-◌}
use Rattle.page_map.specs.Change.{least}
use Rattle.page_runs.specs.Spans.{marks}
use Rattle.page_runs.specs.Runs.{is_vacant}
use Rattle.page_runs.proofs.runs.PageRuns.note_gap.Goals as goal

pub invariant_of-self : goal.invariant_of-self
invariant_of-self c = record {
  runs = c.self.invariant.runs;
  crowded = c.before-self-inside.ensures (marks c.self.inside.spans)
      (c.gap-gap.ensures ∙ ap (λ m. least c.args.first (c.args.end + 1 - (c.args.first + c.args.count)) (λ start. is_vacant m start c.args.count)) (sym c.self.view_is));
}
