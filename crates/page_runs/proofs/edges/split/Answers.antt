use Rattle.std.proofs.Common.{◌-◌, refl}
use Rattle.page_runs.specs.declared.spans.Span.{Span}
use Rattle.page_runs.proofs.Parts.{runs_along}
use Rattle.page_runs.proofs.Split.{IsHalved, is_halved, halves_are_runs, same_marks, taken_stays}
use Rattle.page_runs.proofs.edges.split.Goals as goal
use Rattle.page_runs.proofs.edges.split.Goals.{After-put}

abbrev upper : (c : After-put) → Span
upper c = record { count = c.in-Some.span.count - (c.args.page - c.in-Some.first); mark = c.onward.result }

abbrev lower : (c : After-put) → Span
lower c = record { count = c.args.page - c.in-Some.first; mark = c.in-Some.span.mark }

abbrev halved : (c : After-put) → IsHalved c.args.spans.now c.put.new.spans c.in-Some.first c.args.page c.in-Some.span (lower c) (upper c)
halved c = is_halved c.args.spans.now c.add.new.spans c.put.new.spans c.args.page c.in-Some.first c.in-Some.span (upper c) c.in-Some.ensures.some c.if-place-eq0.false c.if-span-place.false
    refl c.onward.ensures c.in_ok-add.ensures.ok c.put.ensures

pub returns-in_err-add-clause-runs : goal.returns-in_err-add-clause-runs
returns-in_err-add-clause-runs c = runs_along _ _ c.in_err-add.ensures.err c.requires

pub returns-clause-runs : goal.returns-clause-runs
returns-clause-runs c =
    let at = (goal.at.returns-clause-runs c).After-put in
    halves_are_runs c.args.spans.now c.put.new.spans c.in-Some.first c.args.page c.in-Some.span (lower at) (upper at) (halved at) c.requires c.put.ensures.ordered

pub returns-clause-same : goal.returns-clause-same
returns-clause-same c =
    let at = (goal.at.returns-clause-same c).After-put in
    same_marks c.args.spans.now c.put.new.spans c.in-Some.first c.args.page c.in-Some.span (lower at) (upper at) (halved at) c.requires
    (halves_are_runs c.args.spans.now c.put.new.spans c.in-Some.first c.args.page c.in-Some.span (lower at) (upper at) (halved at) c.requires c.put.ensures.ordered)

pub returns-clause-taken : goal.returns-clause-taken
returns-clause-taken c =
    let at = (goal.at.returns-clause-taken c).After-put in
    taken_stays c.args.spans.now c.put.new.spans c.in-Some.first c.args.page c.in-Some.span (lower at) (upper at) (halved at)
