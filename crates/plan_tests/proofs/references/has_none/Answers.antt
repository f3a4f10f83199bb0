use Rattle.std.proofs.Common.{sym, ◌∙◌}
use Rattle.plan_tests.proofs.None.{one_more}
use Rattle.plan_tests.proofs.references.has_none.Goals as goal

pub loop-index-preserved : goal.loop-index-preserved
loop-index-preserved c = one_more c.args.cells.now c.loop-index.index c.get.result.now c.get.ensures (sym c.is_reference.ensures ∙ c.if-is_reference.false) c.loop-index.invariant
