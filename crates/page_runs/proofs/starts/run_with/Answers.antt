use Rattle.std.proofs.Common.{◌+◌, ◌^◌, ◌<◌, subst}
use Rattle.page_runs.specs.Mark.{first_index}
use Rattle.page_runs.proofs.Backward.{is_run_with}
use Rattle.page_runs.proofs.Parts.{no_rest, no_mark_here, none_up_to}
use Rattle.page_runs.proofs.starts.run_with.Goals as goal

pub returns-in_default-clause-none : goal.returns-in_default-clause-none
returns-in_default-clause-none c = none_up_to c.args.spans.now c.requires c.args.page c.in_default.ensures.none

pub returns-then-span-page-clause-none : goal.returns-then-span-page-clause-none
returns-then-span-page-clause-none c = no_rest c.args.spans.now c.requires c.args.page c.in-Some.first c.in-Some.span c.in-Some.ensures.some c.if-span-page.true

pub returns-in_default-mark-clause-none : goal.returns-in_default-mark-clause-none
returns-in_default-mark-clause-none c = no_mark_here c.args.spans.now c.requires c.args.page c.in-Some.first c.in-Some.span c.in-Some.ensures.some c.in_default-mark.is c.if-span-page.false

pub returns-clause-some : goal.returns-clause-some
returns-clause-some c = is_run_with c.args.spans.now c.requires c.args.page c.in-Some.first c.in-Some.span c.in-Some-mark.mark c.in-Some.ensures.some c.in-Some-mark.is c.if-span-page.false

pub returns-clause-indexes : goal.returns-clause-indexes
returns-clause-indexes c =
    let run = c.requires.whole c.in-Some.first c.in-Some.span c.in-Some.ensures.some.there in
    subst (λ m. first_index m + c.in-Some.span.count < 2 ^ 64) c.in-Some-mark.is run.indexes
