use Rattle.page_runs.proofs.Vacant.{starts_behind}
use Rattle.page_runs.proofs.filling.next_start.Goals as goal

pub returns-in-Some-clause-gap : goal.returns-in-Some-clause-gap
returns-in-Some-clause-gap c =
    let at = c.in-Some.ensures.some in
    record { some = starts_behind c.args.spans.now c.requires.runs c.args.page _ _ c.requires.free at.there at.from; none = at.least }
