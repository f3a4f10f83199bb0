use Rattle.std.proofs.Common.{subst}
use Rattle.range_cursor.specs.Arena.{RefusesPlace, GivesPlace}
use Rattle.range_cursor.proofs.Joined.{gap_is, gap_none, gap_wrong}
use Rattle.range_cursor.proofs.calls.gap_for.Goals as goal

pub returns-then-len-eq0 : goal.returns-then-len-eq0
returns-then-len-eq0 c perm what = gap_wrong c.args.levels c.args.thread c.args.held.now.rows c.args.space c.args.len perm what 0 c.if-len-eq0.true

pub returns-in_default : goal.returns-in_default
returns-in_default c perm what =
    gap_none c.args.levels c.args.thread c.args.held.now.rows c.args.space c.args.len perm what c.in_default.field-0 c.pages.result 0 c.pages.ensures.count
    (subst (λ s. RefusesPlace c.args.levels c.args.thread s c.pages.result c.args.held.now.rows c.in_default.field-0) c.number.ensures.value c.in_default.ensures.refused)

pub returns : goal.returns
returns c perm what =
    gap_is c.args.levels c.args.thread c.args.held.now.rows c.args.space c.args.len perm what c.in-Ok.page c.pages.result c.pages.ensures.count
    (subst (λ s. GivesPlace c.args.levels c.args.thread s c.pages.result c.args.held.now.rows c.in-Ok.page) c.number.ensures.value c.in-Ok.ensures.granted)
