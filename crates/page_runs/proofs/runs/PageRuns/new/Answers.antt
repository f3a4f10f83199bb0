use Rattle.std.proofs.Common.{ap}
use Rattle.page_runs.specs.Spans.{marks_of}
use Rattle.page_runs.proofs.runs.PageRuns.new.Goals as goal

pub returns : goal.returns
unfolding marks_of
returns c = ap marks_of c.new.ensures.empty
