use Rattle.machine_plan.proofs.Asked.{item_there}
use Rattle.held_spans.proofs.Told.{answered}
use Rattle.held_spans.proofs.spans.span_at.Goals as goal

pub returns-in-Some-clause-answers : goal.returns-in-Some-clause-answers
returns-in-Some-clause-answers c =
    answered c.args.held.now.rows c.row-item.result c.args.page c.in-Some.span
    (item_there c.rows-row-items.result.now c.args.held.now.rows c.loop-row.row-index c.row-item.result c.rows-row-items.ensures.list c.loop-row-test.true c.row-item.is) c.in-Some.ensures
