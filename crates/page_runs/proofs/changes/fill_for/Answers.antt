use Rattle.std.proofs.lemmas.Result.{on_ok_weaker}
use Rattle.page_runs.proofs.changes.fill_for.Goals as goal

pub returns-in-Map-clause-filled : goal.returns-in-Map-clause-filled
returns-in-Map-clause-filled c = on_ok_weaker c.fill.result (λ filled mark is. filled) c.fill.ensures.filled
