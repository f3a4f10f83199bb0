use Rattle.std.proofs.Common.{sym}
use Rattle.page_runs.proofs.Least.{is_next, is_no_next}
use Rattle.page_runs.proofs.runs.PageRuns.next.Goals as goal

pub returns-in-Some : goal.returns-in-Some
returns-in-Some c = sym (is_next c.args.self.now c.args.first c.args.end c.in-Some.run' c.in-Some.ensures.some)

pub returns-in-None : goal.returns-in-None
returns-in-None c = sym (is_no_next c.args.self.now c.args.first c.args.end c.requires c.in-None.ensures.none)
