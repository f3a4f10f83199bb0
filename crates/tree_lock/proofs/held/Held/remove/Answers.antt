use Rattle.std.proofs.Common.{◌<◌, length, sym, subst}
use Rattle.tree_lock.specs.Held.{HeldList, IsHeldList, IsRemoved}
use Rattle.tree_lock.proofs.Rows.{removed_list}
use Rattle.tree_lock.proofs.held.Held.remove.Goals as goal

pub invariant_of-self : goal.invariant_of-self
invariant_of-self g c =
    let e = c.remove.ensures in
    let within = subst (λ (h : HeldList g.row.R.Denot). c.args.place < length h.rows) (sym c.self.view_is) c.requires in
    subst (λ (room : _). IsHeldList c.remove.new.self.items room) (sym e.capacity) (removed_list c.args.place c.remove.result _ _ _ c.self.invariant within e.value e.by_index.2 e.by_index.0 e.by_index.1).1

pub returns-clause-removed : goal.returns-clause-removed
returns-clause-removed g c =
    let e = c.remove.ensures in
    let within = subst (λ (h : HeldList g.row.R.Denot). c.args.place < length h.rows) (sym c.self.view_is) c.requires in
    subst (λ (h : HeldList g.row.R.Denot). IsRemoved c.args.place c.remove.result h.rows c.remove.new.self.items) c.self.view_is
    (removed_list c.args.place c.remove.result _ _ _ c.self.invariant within e.value e.by_index.2 e.by_index.0 e.by_index.1).0
