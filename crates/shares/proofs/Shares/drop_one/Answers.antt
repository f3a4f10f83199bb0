use Rattle.shares.proofs.Unused.{AreCounted-dropped, last_owner}
use Rattle.shares.proofs.Shares.drop_one.Goals as goal

pub invariant_of-self : goal.invariant_of-self
invariant_of-self c =
    let owned = rw (← c.self.view_is) at c.requires in
    let last = last_owner c.self.inside.counts.items c.args.number _ c.index.ensures owned c.if-left-eq0.true in
    rw c.put.ensures (AreCounted-dropped _ _ c.self.invariant c.args.number _ c.if-left-eq0.true last)
