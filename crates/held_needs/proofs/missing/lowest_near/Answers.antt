use Rattle.std.proofs.Common.{◌+◌, subst}
use Rattle.held_needs.specs.Cutting.{IsLowest}
use Rattle.held_needs.proofs.Lowest.{lowest_of}
use Rattle.held_needs.proofs.missing.lowest_near.Goals as goal

pub returns : goal.returns
returns c = λ levels space st is asked.
    subst (λ n. IsLowest n space c.args.page st.tables (c.span_near.result.level + 1)) is.same_levels (lowest_of st is.consistent space c.args.page c.span_near.result (c.span_near.ensures.answers space st asked is.shown))
