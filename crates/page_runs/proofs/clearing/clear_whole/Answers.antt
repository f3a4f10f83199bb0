use Rattle.page_runs.proofs.Cleared.{cleared_marks, cleared_runs, whole_cleared, whole_stop}
use Rattle.page_runs.proofs.clearing.clear_whole.Goals as goal

pub returns-clause-runs : goal.returns-clause-runs
returns-clause-runs c =
    let r = c.requires in
    cleared_runs c.args.spans.now c.take.new.spans c.args.first c.args.count (whole_stop c.args.spans.now c.take.new.spans r.runs c.args.first c.args.count c.args._span r.whole c.take.ensures) r.runs
    (whole_cleared c.args.spans.now c.take.new.spans r.runs c.args.first c.args.count c.args._span r.whole c.take.ensures)

pub returns-clause-made : goal.returns-clause-made
returns-clause-made c =
    let r = c.requires in
    cleared_marks c.args.spans.now c.take.new.spans c.args.first c.args.count (whole_stop c.args.spans.now c.take.new.spans r.runs c.args.first c.args.count c.args._span r.whole c.take.ensures) r.runs
    (whole_cleared c.args.spans.now c.take.new.spans r.runs c.args.first c.args.count c.args._span r.whole c.take.ensures)
