use Rattle.std.proofs.Common.{subst}
use Rattle.tree_lock.specs.Held.{HeldList, IsInOrder}
use Rattle.tree_lock.proofs.held.Held.rows.Goals as goal

pub returns-clause-order : goal.returns-clause-order
returns-clause-order g c = subst (λ (h : HeldList g.row.R.Denot). IsInOrder h.rows) c.self.view_is c.self.invariant.order
