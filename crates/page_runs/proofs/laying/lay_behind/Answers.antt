use Rattle.std.proofs.Common.{arith}
use Rattle.page_runs.proofs.laying.lay_behind.Goals as goal

pub overflow_add-edge : goal.overflow_add-edge
overflow_add-edge c = let run = c.requires.runs.whole c.args.at c.args.lower c.requires.last.there in omega (arith, run.pages)
