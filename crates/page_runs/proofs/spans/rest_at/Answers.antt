use Rattle.std.proofs.Common.{◌+◌, ◌-◌, ◌^◌, ◌<◌, sym, subst, arith}
use Rattle.page_runs.specs.Mark.{first_index}
use Rattle.page_runs.specs.Spans.{marks, IsRest}
use Rattle.page_runs.proofs.Parts.{is_rest, no_rest, no_mark_here, none_up_to}
use Rattle.page_runs.proofs.spans.rest_at.Goals as goal

pub returns-in_default-clause-none : goal.returns-in_default-clause-none
returns-in_default-clause-none c = none_up_to c.args.spans.now c.requires c.args.page c.in_default.ensures.none

pub returns-then-span-place-clause-none : goal.returns-then-span-place-clause-none
returns-then-span-place-clause-none c = no_rest c.args.spans.now c.requires c.args.page c.in-Some.first c.in-Some.span c.in-Some.ensures.some c.if-span-place.true

pub returns-in_default-mark-clause-none : goal.returns-in_default-mark-clause-none
returns-in_default-mark-clause-none c = no_mark_here c.args.spans.now c.requires c.args.page c.in-Some.first c.in-Some.span c.in-Some.ensures.some c.in_default-mark.is c.if-span-place.false

pub after-requires : goal.after-requires
after-requires c =
    let run = c.requires.whole c.in-Some.first c.in-Some.span c.in-Some.ensures.some.there in
    let index = subst (λ m. first_index m + c.in-Some.span.count < 2 ^ 64) c.in-Some-mark.is run.indexes in
    omega (arith, index, c.if-span-place.false)

pub returns-clause-some : goal.returns-clause-some
returns-clause-some c =
    subst (λ mark. IsRest (marks c.args.spans.now) c.args.page (record { first = c.args.page; count = c.in-Some.span.count - (c.args.page - c.in-Some.first); mark = mark })) (sym c.after.ensures)
    (is_rest c.args.spans.now c.requires c.args.page c.in-Some.first c.in-Some.span c.in-Some.ensures.some c.in-Some-mark.mark c.in-Some-mark.is c.if-span-place.false)
