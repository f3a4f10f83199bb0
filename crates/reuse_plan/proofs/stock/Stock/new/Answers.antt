use Rattle.std.proofs.Common.{ap, ◌∙◌, arith}
use Rattle.std.specs.FinSet as set
use Rattle.free_numbers.specs.Numbers.{NumbersBelow}
use Rattle.reuse_plan.proofs.Stocked.{none_from, one_from}
use Rattle.reuse_plan.proofs.stock.Stock.new.Goals as goal

pub loop-row-init : goal.loop-row-init
loop-row-init c = (ap (λ (n : NumbersBelow). n.limit) c.in_ok-free.ensures, λ q. ap (λ (n : NumbersBelow). set.contains n.numbers q) c.in_ok-free.ensures ∙ none_from c.args.rows q)

pub loop-row-preserved : goal.loop-row-preserved
loop-row-preserved c = (
  ap (λ (n : NumbersBelow). n.limit) c.put.ensures ∙ c.loop-row.invariant.0,
  λ q. one_from c.loop-row.free.numbers c.put.new.self.numbers c.loop-row.row q (let low = c.loop-row.auto.row in omega arith) (ap (λ (n : NumbersBelow). n.numbers) c.put.ensures) c.loop-row.invariant.1,
)
