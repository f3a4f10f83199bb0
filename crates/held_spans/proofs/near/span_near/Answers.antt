use Rattle.std.proofs.Common.{subst}
use Rattle.held_spans.specs.Spans.{IsSpanAmong}
use Rattle.held_spans.proofs.Passed.{among}
use Rattle.held_spans.proofs.near.span_near.Goals as goal

pub returns-in-Some-clause-answers : goal.returns-in-Some-clause-answers
returns-in-Some-clause-answers c =
    among c.args.held.now.rows c.args.page c.in-Some.span (subst (λ rows. IsSpanAmong rows c.args.page c.in-Some.span) c.rows-rows.ensures.list c.in-Some.ensures)

pub returns-in-Some-sought-clause-answers : goal.returns-in-Some-sought-clause-answers
returns-in-Some-sought-clause-answers c =
    among c.args.held.now.rows c.args.page c.in-Some-sought.span
    (subst (λ rows. IsSpanAmong rows c.args.page c.in-Some-sought.span) c.rows-rows.ensures.list c.in-Some-sought.ensures.some)
