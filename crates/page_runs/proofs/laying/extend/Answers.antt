use Rattle.std.proofs.Common.{◌∙◌}
use Rattle.page_runs.proofs.Extended.{extended_runs, extended_marks}
use Rattle.page_runs.proofs.laying.extend.Goals as goal

pub settle_at-requires : goal.settle_at-requires
settle_at-requires c =
    let r = c.requires in
    extended_runs c.args.spans.now c.put.new.spans c.args.at c.args.count c.args.lower r.some r.there r.pages r.indexes r.free r.runs c.put.ensures

pub returns-clause-made : goal.returns-clause-made
returns-clause-made c mark on =
    let r = c.requires in
    c.settle_at.ensures.same
    ∙ extended_marks c.args.spans.now c.put.new.spans c.args.at c.args.count c.args.lower r.some r.there r.pages r.indexes r.free r.runs c.put.ensures mark on
