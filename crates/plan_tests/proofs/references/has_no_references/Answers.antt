use Rattle.std.proofs.Common.{length, ap, arith}
use Rattle.plan_tests.proofs.None.{few_of}
use Rattle.plan_tests.proofs.references.has_no_references.Goals as goal

pub returns : goal.returns
returns c all = few_of c.args.held.now.rows (λ k d h. c.loop-row.invariant k d (omega (arith, h, c.loop-row-test.false, ap length c.rows-row-items.ensures.list)))
