use Rattle.std.proofs.Common.{◌∙◌}
use Rattle.txn_plan.proofs.Leasts.{settled_here, settled_nowhere, unsettled}
use Rattle.txn_plan.proofs.pieces.least_in_piece.Goals as goal

pub returns-then-settled-present : goal.returns-then-settled-present
returns-then-settled-present c =
    settled_here c.args.ops.now c.args.cells.now c.args.present c.args.first c.args.end c.in-Some.settled c.requires.some c.in-Some.ensures c.if-settled-present.true

pub returns-else-settled-present : goal.returns-else-settled-present
returns-else-settled-present c =
    settled_nowhere c.args.ops.now c.args.cells.now c.args.present c.args.first c.args.end c.requires.same c.in-Some.settled c.in-Some.ensures c.if-settled-present.false

pub returns-in-None : goal.returns-in-None
returns-in-None c = c.least_there.ensures ∙ unsettled c.args.ops.now c.args.cells.now c.args.present c.args.first c.args.end c.requires.same c.in-None.ensures
