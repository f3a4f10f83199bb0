use Rattle.std.proofs.Common.{arith}
use Rattle.std.proofs.lemmas.Result.{on_ok_weaker}
use Rattle.page_runs.proofs.laying.start_run.Goals as goal

pub returns-in-Some-clause-cut : goal.returns-in-Some-clause-cut
returns-in-Some-clause-cut c =
    let to = c.in-Some.ensures.some in
    on_ok_weaker c.split.result (λ start. record {
      start = start;
      stop = c.split.ensures.edges c.args.end c.requires.edge;
      taken = c.split.ensures.taken c.args.first (to.taken c.args.first (omega arith) to.some);
    }) c.split.ensures.edge
