use Rattle.std.proofs.Common.{◌≡◌, ◌∙◌, ℕ, ◌+◌, sym, ap, arith}
use Rattle.page_map.specs.Tables.{need}
use Rattle.held_needs.proofs.Counted.{upto, begins, step, ends}
use Rattle.held_needs.proofs.cut.count_range.Goals as goal

added : (a b c d e : ℕ) → a ≡ b + d → b ≡ c + e → a ≡ c + (e + d)
added a b c d e h g = omega (arith, h, g)

pub loop-level-init : goal.loop-level-init
loop-level-init c = record {
  few = omega arith;
  so_far = λ space t lo hi. begins c.args.levels space t c.args.done.now c.args.pages c.args.near c.args.far c.requires.short.some lo hi;
}

pub loop-level-preserved : goal.loop-level-preserved
loop-level-preserved c = record {
  few = omega (arith, c.loop-level.invariant.few, c.count_level-count.ensures.few, c.loop-level.auto.level);
  so_far = λ space t lo hi.
      let more = step c.args.levels space t c.args.done.now c.args.pages c.args.near c.args.far c.requires.short.some lo hi c.loop-level.level (omega (arith, c.loop-level.auto.level)) (omega (arith, c.loop-level-test.true)) in
      let level = c.loop-level.level in
      added _ (need (upto c.args.levels space t c.args.done.now c.args.pages c.args.near c.args.far c.requires.short.some lo hi level) t) _ c.count_level-count.result c.loop-level.count
      (more ∙ ap (λ n. need (upto c.args.levels space t c.args.done.now c.args.pages c.args.near c.args.far c.requires.short.some lo hi level) t + n) (sym c.count_level-count.ensures.count)) (c.loop-level.invariant.so_far space t lo hi);
}

pub returns-clause-adds : goal.returns-clause-adds
returns-clause-adds c = λ space t lo hi.
    let here : c.loop-level.level ≡ c.args.levels = omega (arith, c.loop-level-test.false, c.loop-level.auto.level-end, c.requires.some) in
    ends c.args.levels space t c.args.done.now c.args.pages c.args.near c.args.far c.requires.short.some lo hi
    ∙ ap (λ level. need (upto c.args.levels space t c.args.done.now c.args.pages c.args.near c.args.far c.requires.short.some lo hi level) t) (sym here)
    ∙ c.loop-level.invariant.so_far space t lo hi
