use Rattle.std.proofs.Common.{◌<◌, length, refl, sym, subst}
use Rattle.tree_lock.specs.Held.{HeldList}
use Rattle.tree_lock.proofs.Rows.{content_done, content_found, content_list}
use Rattle.tree_lock.proofs.held.Held.content_mut.Goals as goal

pub invariant_of-self-lent : goal.invariant_of-self-lent
invariant_of-self-lent g c w =
    let within = subst (λ (h : HeldList g.row.R.Denot). c.args.place < length h.rows) (sym c.self.view_is) c.requires in
    content_list c.self.inside.rows.items _ c.args.place c.index_mut-row.result.now _ c.self.invariant within c.index_mut-row.ensures.value refl refl

pub returns : goal.returns
returns g c = (
  (refl, λ w. content_done c.self.inside.rows.items c.self.inside.rows.cap c.args.place c.index_mut-row.result.now w c.args.self.now c.self.view_is c.requires c.index_mut-row.ensures.value),
  record { lends = tt; content = λ d. content_found c.self.inside.rows.items c.self.inside.rows.cap c.args.place c.index_mut-row.result.now d c.args.self.now c.self.view_is c.requires c.index_mut-row.ensures.value },
)
