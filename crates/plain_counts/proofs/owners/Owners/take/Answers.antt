use Rattle.std.proofs.Common.{◌≡◌, ℕ, [], ◌<◌, ◌-◌, ◌≢◌, cond, nat_eq, length, get_or, set, subst, sym, ap, ◌∙◌, arith, take_at}
use Rattle.std.specs.Prelude.{IfNone}
use Rattle.plain_counts.specs.Owners.{bit_of, unused_of, IsTallied}
use Rattle.plain_counts.proofs.Tally.{least-marked, unused-none, tally-taken, unused-taken}
use Rattle.plain_counts.proofs.owners.Owners.take.Goals as goal
use Rattle.plain_counts.proofs.owners.Owners.take.Goals.{In_ok-number}

-- the number is the least unused one
abbrev least : (c : In_ok-number) → (c.in_ok-number.number < length c.self.inside.counts.items) × (get_or c.self.inside.counts.items c.in_ok-number.number 0 ≡ 0) × ((m : ℕ) → m < c.in_ok-number.number → get_or c.self.inside.counts.items m 0 ≢ 0)
least c = least-marked _ _ _ c.self.invariant c.in_ok-number.number
    (ap (λ w. bit_of w c.in_ok-number.number) (sym c.deref.ensures.value) ∙ c.in_ok-number.ensures.0)
    (λ m h. ap (λ w. bit_of w m) (sym c.deref.ensures.value) ∙ c.in_ok-number.ensures.1 m h)

pub returns-in_err-number-clause-none : goal.returns-in_err-number-clause-none
returns-in_err-number-clause-none c =
    subst (λ o. IfNone o (unused_of c.args.self.now ≡ [])) (sym c.from_residual.ensures)
    (ap unused_of (sym c.self.view_is) ∙ unused-none _ _ _ c.self.invariant (λ n. ap (λ w. bit_of w n) (sym c.deref.ensures.value) ∙ c.in_err-number.ensures n))

pub overflow_sub-self : goal.overflow_sub-self
overflow_sub-self c =
    let l = least (goal.at.overflow_sub-self c).In_ok-number in
    omega (arith, c.self.invariant.free_is, ap length (unused-taken c.self.inside.counts.items c.in_ok-number.number 1 l.0 l.1 (λ e. absurd (omega (arith, e))) l.2))

pub invariant_of-self : goal.invariant_of-self
invariant_of-self c =
    let l = least (goal.at.invariant_of-self c).In_ok-number in
    let long : length c.clear_bit.new.words ≡ length c.self.inside.bits.items = c.clear_bit.auto.words ∙ ap length c.deref_mut.ensures.value in
    subst (λ w. IsTallied (set c.self.inside.counts.items c.in_ok-number.number 1) w (c.self.inside.free - 1))
    (sym (take_at c.clear_bit.new.words _ c.self.inside.bits.len (omega (arith, long))))
    (tally-taken _ _ _ c.in_ok-number.number c.self.invariant l.0 c.clear_bit.new.words long
    (λ m. c.clear_bit.ensures m ∙ ap (λ w. cond (nat_eq m c.in_ok-number.number) 0 (bit_of w m)) c.deref_mut.ensures.value) l.1 l.2)

pub returns-clause-taken : goal.returns-clause-taken
returns-clause-taken c =
    let l = least (goal.at.returns-clause-taken c).In_ok-number in
    ap unused_of (sym c.self.view_is) ∙ unused-taken c.self.inside.counts.items c.in_ok-number.number 1 l.0 l.1 (λ e. absurd (omega (arith, e))) l.2

pub returns-clause-unused : goal.returns-clause-unused
returns-clause-unused c =
    let l = least (goal.at.returns-clause-unused c).In_ok-number in
    subst (λ counts. (c.in_ok-number.number < length counts) × (get_or counts c.in_ok-number.number 0 ≡ 0)) c.self.view_is (l.0, l.1)
