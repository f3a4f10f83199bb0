use Rattle.std.proofs.Common.{Some, subst, arith}
use Rattle.page_runs.specs.Runs.{HasNone, IsPart}
use Rattle.page_runs.proofs.Parts.{is_next_part, no_part}
use Rattle.page_runs.proofs.runs.PageRuns.part.Goals as goal

pub returns-in_default-first_marked-clause-none : goal.returns-in_default-first_marked-clause-none
returns-in_default-first_marked-clause-none c =
    subst (λ m. HasNone m c.args.first c.args.end) c.self.view_is
    (no_part c.self.inside.spans c.self.invariant.runs c.args.first c.args.end c.in_default.ensures.none c.in_default-first_marked.ensures.none)

pub returns-clause-some : goal.returns-clause-some
returns-clause-some c =
    let at = c.in-Some-first_marked.ensures.some in
    let next = c.in-Some-first_marked.next in
    let run = c.self.invariant.runs.whole next.first (record { count = next.count; mark = Some next.mark }) at.there in
    subst (λ m. IsPart m c.args.first c.args.end (record { first = next.first; count = c.min-2.result; mark = next.mark })) c.self.view_is
    (is_next_part c.self.inside.spans c.self.invariant.runs c.args.first c.args.end next c.min-2.result c.in_default.ensures.none at
    (omega (arith, run.some, at.before, c.min-2.ensures)) (omega (arith, c.min-2.ensures)) (omega (arith, at.before, c.min-2.ensures)))
