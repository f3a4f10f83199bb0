use Rattle.std.proofs.Common.{◌+◌, subst}
use Rattle.held_needs.specs.Cutting.{IsLowest}
use Rattle.held_needs.proofs.Lowest.{lowest_of}
use Rattle.held_needs.proofs.missing.lowest.Goals as goal

pub returns : goal.returns
returns c = λ levels space st is asked.
    subst (λ n. IsLowest n space c.args.page st.tables (c.span_at.result.level + 1)) is.same_levels (lowest_of st is.consistent space c.args.page c.span_at.result (c.span_at.ensures.answers space st asked is.shown))
