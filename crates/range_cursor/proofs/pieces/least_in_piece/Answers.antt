use Rattle.std.proofs.Common.{◌∙◌}
use Rattle.page_map.specs.State.{space_at}
use Rattle.txn_plan.proofs.Leasts.{settled_here, settled_nowhere, unsettled}
use Rattle.range_cursor.proofs.pieces.least_in_piece.Goals as goal

pub returns-then-settled-present : goal.returns-then-settled-present
returns-then-settled-present c space st asked shown =
    settled_here c.args.ops.now (space_at st space) c.args.present c.args.first c.args.end c.in-Some.settled c.requires.some c.in-Some.ensures c.if-settled-present.true

pub returns-else-settled-present : goal.returns-else-settled-present
returns-else-settled-present c space st asked shown =
    settled_nowhere c.args.ops.now (space_at st space) c.args.present c.args.first c.args.end c.requires.same c.in-Some.settled c.in-Some.ensures c.if-settled-present.false

pub returns-in-None : goal.returns-in-None
returns-in-None c space st asked shown =
    c.least_there.ensures space st asked shown ∙ unsettled c.args.ops.now (space_at st space) c.args.present c.args.first c.args.end c.requires.same c.in-None.ensures
