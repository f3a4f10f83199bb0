use Rattle.machine_plan.proofs.Asked.{answered, item_there}
use Rattle.machine_plan.proofs.asking.query.Goals as goal

pub returns-in-Some : goal.returns-in-Some
returns-in-Some c = let told = c.in-Some.ensures in
    answered c.args.held.now.rows c.row-item.result c.args.page (item_there c.rows-row-items.result.now c.args.held.now.rows c.loop-row.row-index c.row-item.result c.rows-row-items.ensures.list c.loop-row-test.true c.row-item.is)
    told.0 c.in-Some.status told.1
