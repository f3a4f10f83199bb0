use Rattle.std.proofs.Common.{◌≡◌, ◌-◌, not, ap, ◌∙◌, arith}
use Rattle.std.specs.Prelude.{◌&&◌, nat_eq}
use Rattle.std.specs.FinSet as set
use Rattle.table_place.specs.Place.{is_inside}
use Rattle.plain_counts.proofs.Removed.{retain_twice, retain_all, retain_same, is_inside_below, one_level_more, no_level, all_levels}
use Rattle.plain_counts.proofs.tables.Tables.remove_up_to.Goals as goal

pub loop-level-init : goal.loop-level-init
loop-level-init c = retain_all c.args.self.now _ (λ p _. no_level c.args.levels c.args.space c.args.first (c.args.end - c.args.first) p)

pub loop-level-preserved : goal.loop-level-preserved
loop-level-preserved c =
    let count = c.args.end - c.args.first in
    c.remove_covered.ensures
    ∙ ap (λ s. set.retain s (λ p. not (nat_eq p.level c.loop-level.level && is_inside c.args.levels c.args.space c.args.first count p))) c.loop-level.invariant
    ∙ retain_twice c.args.self.now _ _ _ (one_level_more c.args.levels c.args.space c.args.first count c.loop-level.level)

pub returns : goal.returns
returns c =
    let last : c.loop-level.level ≡ c.args.levels = omega (arith, c.loop-level-test.false, c.loop-level.auto) in
    c.loop-level.invariant
    ∙ retain_same c.args.self.now _ _ (λ p. ap (λ l. not (is_inside_below c.args.levels c.args.space c.args.first (c.args.end - c.args.first) l p)) last ∙ all_levels c.args.levels c.args.space c.args.first (c.args.end - c.args.first) p)
