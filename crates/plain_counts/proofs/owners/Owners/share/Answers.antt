use Rattle.std.proofs.Common.{◌<◌, get_or, subst, sym, arith}
use Rattle.plain_counts.proofs.Tally.{counted, tally-kept}
use Rattle.plain_counts.proofs.owners.Owners.share.Goals as goal

pub invariant_of-self : goal.invariant_of-self
invariant_of-self c =
    let carried : 0 < get_or c.self.inside.counts.items c.args.number 0 = subst (λ l. 0 < get_or l c.args.number 0) (sym c.self.view_is) c.requires.carried in
    tally-kept _ _ _ c.args.number c.self.invariant (counted _ _ carried) _ (λ e. omega (arith, e, carried)) (λ e. omega arith)
