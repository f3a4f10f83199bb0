use Rattle.std.proofs.lemmas.Result.{on_ok_weaker}
use Rattle.page_runs.proofs.changes.cut.Goals as goal

pub returns-clause-edges : goal.returns-clause-edges
returns-clause-edges c = λ q is. c.split-2.ensures.edges q (c.split.ensures.edges q is)

pub returns-clause-cut : goal.returns-clause-cut
returns-clause-cut c = on_ok_weaker c.split-2.result (λ stop. record { start = c.split-2.ensures.edges c.args.change.first c.in_ok-split.ensures.edge; stop = stop }) c.split-2.ensures.edge
