use Rattle.std.proofs.Common.{◌-◌, None, refl, arith}
use Rattle.page_runs.specs.declared.spans.Span.{Span}
use Rattle.page_runs.proofs.Parts.{runs_along}
use Rattle.page_runs.proofs.Vacant.{filled_are_runs, filled_edge, filled_same, filled_start, filled_to}
use Rattle.page_runs.proofs.filling.fill_gap.Goals as goal
use Rattle.page_runs.proofs.filling.fill_gap.Goals.{After-add}

abbrev gap : (c : After-add) → Span
gap c = record { count = c.next_start-edge.result - c.args.page; mark = None }

pub returns-in_err-add-clause-runs : goal.returns-in_err-add-clause-runs
returns-in_err-add-clause-runs c = runs_along _ _ c.in_err-add.ensures.err c.requires.runs

pub returns-clause-runs : goal.returns-clause-runs
returns-clause-runs c =
    let edge = c.next_start-edge.ensures in
    filled_are_runs c.args.spans.now c.add.new.spans c.args.page c.next_start-edge.result (gap (goal.at.returns-clause-runs c).After-add) refl refl edge.gap.some
    (omega (arith, edge.within, c.ranges.end.fits)) c.requires.free edge.gap.none c.requires.runs c.in_ok-add.ensures.ok

pub returns-clause-same : goal.returns-clause-same
returns-clause-same c =
    let edge = c.next_start-edge.ensures in
    filled_same c.args.spans.now c.add.new.spans c.args.page c.next_start-edge.result (gap (goal.at.returns-clause-same c).After-add) refl refl edge.gap.some
    (omega (arith, edge.within, c.ranges.end.fits)) c.requires.free edge.gap.none c.requires.runs c.in_ok-add.ensures.ok

pub returns-clause-filled : goal.returns-clause-filled
returns-clause-filled c =
    let edge = c.next_start-edge.ensures in
    filled_to c.args.spans.now c.add.new.spans c.args.page c.next_start-edge.result (gap (goal.at.returns-clause-filled c).After-add) refl refl edge.gap.some
    (omega (arith, edge.within, c.ranges.end.fits)) c.requires.free edge.gap.none c.requires.runs c.in_ok-add.ensures.ok

pub returns-clause-start : goal.returns-clause-start
returns-clause-start c =
    let edge = c.next_start-edge.ensures in
    filled_start c.args.spans.now c.add.new.spans c.args.page c.next_start-edge.result (gap (goal.at.returns-clause-start c).After-add) refl refl edge.gap.some
    (omega (arith, edge.within, c.ranges.end.fits)) c.requires.free edge.gap.none c.requires.runs c.in_ok-add.ensures.ok

pub returns-clause-edge : goal.returns-clause-edge
returns-clause-edge c =
    let edge = c.next_start-edge.ensures in
    filled_edge c.args.spans.now c.add.new.spans c.args.page c.next_start-edge.result (gap (goal.at.returns-clause-edge c).After-add) refl refl edge.gap.some
    (omega (arith, edge.within, c.ranges.end.fits)) c.requires.free edge.gap.none c.requires.runs c.in_ok-add.ensures.ok c.args.end edge.within
