use Rattle.page_runs.proofs.Vacant.{emptied_are_runs, emptied_same}
use Rattle.page_runs.proofs.edges.settle.Goals as goal

pub returns-in-None-clause-runs : goal.returns-in-None-clause-runs
returns-in-None-clause-runs c = emptied_are_runs c.args.spans.now c.take.new.spans c.args.page c.args.span c.requires.there c.in-None.is c.requires.runs c.take.ensures

pub returns-in-None-clause-same : goal.returns-in-None-clause-same
returns-in-None-clause-same c = emptied_same c.args.spans.now c.take.new.spans c.args.page c.args.span c.requires.there c.in-None.is c.requires.runs c.take.ensures
