use Rattle.std.proofs.Common.{sym}
use Rattle.page_map.proofs.Least.{least_passes}
use Rattle.std.specs.Prelude.{is_none}
use Rattle.std.specs.FinMap as map
use Rattle.page_runs.proofs.Full.{full_up_to, full_to_end}
use Rattle.page_runs.proofs.runs.PageRuns.full_from.Goals as goal

pub overflow_sub-result : goal.overflow_sub-result
overflow_sub-result c = (least_passes c.args.first _ (λ page. is_none (map.get c.args.self.now page)) c.in-Some.hole (sym c.in-Some.ensures)).0

pub returns-in-Some : goal.returns-in-Some
returns-in-Some c = full_up_to c.args.self.now c.args.first c.args.end c.requires c.in-Some.hole (sym c.in-Some.ensures)

pub returns-in-None : goal.returns-in-None
returns-in-None c = full_to_end c.args.self.now c.args.first c.args.end c.requires (sym c.in-None.ensures)
