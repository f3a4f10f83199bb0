use Rattle.std.specs.Prelude.{◌-◌, is_some}
use Rattle.std.specs.FinMap.{get}
use Rattle.std.proofs.Common.{sym, ◌∙◌, ap}
use Rattle.page_map.specs.Change.{least}
use Rattle.page_map.specs.State.{space_at}
use Rattle.txn_plan.specs.Covers.{is_as}
use Rattle.range_cursor.proofs.pieces.least_there.Goals as goal

pub returns-then-present : goal.returns-then-present
returns-then-present c space st asked shown =
    c.first_mapped.ensures space st asked shown ∙ ap (λ b. least c.args.first (c.args.end - c.args.first) (λ page. is_as b (is_some (get (space_at st space) page)))) (sym c.if-present.true)

pub returns-else-present : goal.returns-else-present
returns-else-present c space st asked shown =
    c.first_hole.ensures space st asked shown ∙ ap (λ b. least c.args.first (c.args.end - c.args.first) (λ page. is_as b (is_some (get (space_at st space) page)))) (sym c.if-present.false)
