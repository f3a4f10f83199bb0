use Rattle.std.proofs.Common.{rules, ◌≡◌, replicate, subst, sym, arith}
use Rattle.plain_counts.specs.Owners.{IsTallied}
use Rattle.plain_counts.proofs.Tally.{tally-new}
use Rattle.plain_counts.proofs.owners.Owners.new.Goals as goal

pub invariant_of-result : goal.invariant_of-result
invariant_of-result c =
    let zeros : c.in_ok-counts.counts.items ≡ replicate c.args.numbers 0 = c.in_ok-counts.ensures.items_if_clones_equal (search rules) in
    subst (λ l. IsTallied l c.in_ok-bits.bits.items c.args.numbers) (sym zeros)
    (tally-new c.args.numbers c.in_ok-bits.bits.items c.ranges.numbers.fits (omega (arith, c.in_ok-bits.ensures.room)) (omega (arith, c.in_ok-bits.ensures.few)) c.in_ok-bits.ensures.bits)
