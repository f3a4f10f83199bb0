use Rattle.page_runs.proofs.Single.{laid_after}
use Rattle.page_runs.proofs.laying.make_one.Goals as goal

pub returns : goal.returns
returns c = laid_after c.args.spans.now c.take_all.new.spans c.put.new.spans c.args.first c.args.count c.args.mark c.requires.some c.take_all.ensures c.put.ensures
