use Rattle.std.specs.Prelude.{◌-◌, cond, is_some, None}
use Rattle.std.specs.FinMap.{get}
use Rattle.std.proofs.Common.{sym, ◌∙◌, ap}
use Rattle.page_map.specs.Change.{least}
use Rattle.page_map.specs.Mapping.{after_ops}
use Rattle.page_map.specs.State.{space_at}
use Rattle.range_cursor.proofs.judging.first_taken.Goals as goal

pub returns-then-fresh : goal.returns-then-fresh
returns-then-fresh c space st asked shown =
    c.least_after.ensures space st asked shown
    ∙ ap (λ b. cond b (least c.args.first (c.args.end - c.args.first) (λ page. is_some (get (after_ops c.args.done.now (space_at st space)) page))) None) (sym c.if-fresh.true)
