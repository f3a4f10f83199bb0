use Rattle.std.proofs.Common.{false, [], ◌∷◌, length, length-append, ap, arith}
use Rattle.row_uses.proofs.Lists.{range_more}
use Rattle.row_uses.proofs.Starts.{false_none, false_more}
use Rattle.cover_uses.proofs.tests.made.Goals as goal

pub loop-init : goal.loop-init
loop-init c = (ap length c.new-rows.ensures.items, false_none _ c.new-rows.ensures.items)

pub loop-preserved : goal.loop-preserved
loop-preserved c = (
  (let e = ap length c.in_ok-push.ensures.items in let more = length-append c.loop.rows.items (false ∷ []) in let is = c.loop.invariant.0 in omega arith),
  false_more c.loop.rows.items _ c.loop.invariant.1 c.in_ok-push.ensures.items,
)

pub loop-row-init : goal.loop-row-init
loop-row-init c = c.new-free.ensures.items

pub loop-row-preserved : goal.loop-row-preserved
loop-row-preserved c = range_more 0 c.loop-row.row c.loop-row.free.items _ (let low = c.loop-row.auto.row in omega arith) c.loop-row.invariant c.in_ok-push-2.ensures.items
