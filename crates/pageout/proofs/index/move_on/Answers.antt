use Rattle.std.proofs.Common.{sym, ◌∙◌}
use Rattle.pageout.proofs.Sole.{none_moves}
use Rattle.pageout.proofs.index.move_on.Goals as goal

pub returns-else-contains-clause-ok : goal.returns-else-contains-clause-ok
returns-else-contains-clause-ok c = none_moves c.args.order.now c.args.from c.args.to (sym c.contains.ensures ∙ c.if-contains.false) c.requires
