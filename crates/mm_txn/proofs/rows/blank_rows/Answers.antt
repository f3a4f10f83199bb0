use Rattle.mm_txn.proofs.Starting.{blank_none, blank_more}
use Rattle.mm_txn.proofs.rows.blank_rows.Goals as goal

pub loop-init : goal.loop-init
loop-init c = blank_none _ c.in_ok-rows.ensures.items

pub loop-preserved : goal.loop-preserved
loop-preserved c = blank_more _ c.loop.rows.items _ _ c.loop.invariant c.in_ok-cells.ensures c.in_ok-push.ensures.items
