use Rattle.std.proofs.Common.{sym, ◌∙◌, arith}
use Rattle.page_runs.proofs.Crowded.{none_before, none_found}
use Rattle.page_runs.proofs.crowds.Crowd.before.Goals as goal

pub returns-in-Some : goal.returns-in-Some
returns-in-Some c m is = none_before m c.args.first c.args.end c.args.count c.in-Some.start (sym is ∙ c.in-Some.is)

pub returns-in-None : goal.returns-in-None
returns-in-None c m is start low high = none_found m c.args.first c.args.end c.args.count (sym is ∙ c.in-None.is) c.requires start low (omega (arith, high, c.saturating_sub.ensures))
