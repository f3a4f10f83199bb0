use Rattle.std.proofs.Common.{arith}
use Rattle.page_runs.proofs.Vacant.{ends_at, ends_before, none_before}
use Rattle.page_runs.proofs.filling.end_at.Goals as goal

pub overflow_add-end : goal.overflow_add-end
overflow_add-end c = let run = c.requires.whole c.in-Some.first c.in-Some.span c.in-Some.ensures.some.there in omega (arith, run.pages)

pub returns-in_default-clause-none : goal.returns-in_default-clause-none
returns-in_default-clause-none c = none_before c.args.spans.now c.args.page c.in_default.ensures.none

pub returns-then-page-end-clause-some : goal.returns-then-page-end-clause-some
returns-then-page-end-clause-some c = ends_at c.args.spans.now c.args.page c.in-Some.first c.in-Some.span c.in-Some.ensures.some c.if-page-end.true

pub returns-else-page-end-clause-none : goal.returns-else-page-end-clause-none
returns-else-page-end-clause-none c = ends_before c.args.spans.now c.requires c.args.page c.in-Some.first c.in-Some.span c.in-Some.ensures.some c.if-page-end.false
