use Rattle.std.proofs.Common.{◌+◌, sym, arith}
use Rattle.page_runs.specs.declared.spans.Span.{Span}
use Rattle.page_runs.proofs.Split.{IsHalved, was_halved, whole_is_runs, same_marks}
use Rattle.page_runs.proofs.edges.join.Goals as goal
use Rattle.page_runs.proofs.edges.join.Goals.{After-put}

pub overflow_add-both : goal.overflow_add-both
overflow_add-both c = let run = c.requires.runs.whole c.args.page c.args.upper c.requires.there in omega (arith, run.pages)

abbrev both : (c : After-put) → Span
both c = record { count = c.in-Some.lower.count + c.args.upper.count; mark = c.in-Some.lower.mark }

abbrev halved : (c : After-put) → IsHalved c.put.new.spans c.args.spans.now c.in-Some.first c.args.page (both c) c.in-Some.lower c.args.upper
halved c = was_halved c.args.spans.now c.take.new.spans c.put.new.spans c.args.page c.in-Some.first c.in-Some.lower c.args.upper c.requires.runs
    c.in-Some.ensures.some.there c.requires.there (omega (arith, c.in-Some.ensures.some.near)) c.if-lower-page.false (c.is_onward.ensures.0 c.if-is_onward.true)
    c.take.ensures c.put.ensures

pub returns-then-is_onward-clause-runs : goal.returns-then-is_onward-clause-runs
returns-then-is_onward-clause-runs c =
    let at = (goal.at.returns-then-is_onward-clause-runs c).After-put in
    whole_is_runs c.put.new.spans c.args.spans.now c.in-Some.first c.args.page (both at) c.in-Some.lower c.args.upper (halved at) c.requires.runs c.put.ensures.ordered

pub returns-then-is_onward-clause-same : goal.returns-then-is_onward-clause-same
returns-then-is_onward-clause-same c =
    let at = (goal.at.returns-then-is_onward-clause-same c).After-put in
    sym (same_marks c.put.new.spans c.args.spans.now c.in-Some.first c.args.page (both at) c.in-Some.lower c.args.upper (halved at)
    (whole_is_runs c.put.new.spans c.args.spans.now c.in-Some.first c.args.page (both at) c.in-Some.lower c.args.upper (halved at) c.requires.runs c.put.ensures.ordered) c.requires.runs)
