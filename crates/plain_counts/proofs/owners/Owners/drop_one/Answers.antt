use Rattle.std.proofs.Common.{◌≡◌, cond, nat_eq, ◌<◌, ◌+◌, ◌-◌, length, get_or, set, subst, sym, ap, ◌∙◌, arith, take_at}
use Rattle.plain_counts.specs.Owners.{bit_of, IsTallied}
use Rattle.plain_counts.proofs.Tally.{counted, tally-kept, tally-more, free-below}
use Rattle.plain_counts.proofs.owners.Owners.drop_one.Goals as goal

pub overflow_add-self : goal.overflow_add-self
overflow_add-self c =
    let carried : 0 < get_or c.self.inside.counts.items c.args.number 0 = subst (λ l. 0 < get_or l c.args.number 0) (sym c.self.view_is) c.requires in
    record { fits = free-below _ _ _ c.args.number c.self.invariant (counted _ _ carried) (λ e. omega (arith, e, carried)) }

pub invariant_of-self : goal.invariant_of-self
invariant_of-self c =
    let carried : 0 < get_or c.self.inside.counts.items c.args.number 0 = subst (λ l. 0 < get_or l c.args.number 0) (sym c.self.view_is) c.requires in
    let long : length c.set_bit.new.words ≡ length c.self.inside.bits.items = c.set_bit.auto.words ∙ ap length c.deref_mut.ensures.value in
    subst (λ l. IsTallied (set c.self.inside.counts.items c.args.number (c.index.result.now - 1)) l (c.self.inside.free + 1))
    (sym (take_at c.set_bit.new.words _ c.self.inside.bits.len (omega (arith, long))))
    (tally-more _ _ _ c.args.number c.self.invariant (counted _ _ carried) c.set_bit.new.words _ long (λ m. c.set_bit.ensures m ∙ ap (λ w. cond (nat_eq m c.args.number) 1 (bit_of w m)) c.deref_mut.ensures.value) (λ e. omega (arith, e, carried)) c.if-left-eq0.true)

pub invariant_of-self-else-left-eq0 : goal.invariant_of-self-else-left-eq0
invariant_of-self-else-left-eq0 c =
    let carried : 0 < get_or c.self.inside.counts.items c.args.number 0 = subst (λ l. 0 < get_or l c.args.number 0) (sym c.self.view_is) c.requires in
    tally-kept _ _ _ c.args.number c.self.invariant (counted _ _ carried) _ (λ e. omega (arith, e, carried)) c.if-left-eq0.false
