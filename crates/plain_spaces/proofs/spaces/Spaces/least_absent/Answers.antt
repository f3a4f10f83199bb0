use Rattle.std.proofs.Common.{◌≡◌, Some, None, refl, sym, ap, ◌∙◌, arith, Bor}
use mathlib.Core.Logic.{inl, inr}
use Rattle.std.specs.Prelude.{Option, is_some, not}
use Rattle.std.specs.Option.{option_copied}
use Rattle.std.proofs.lemmas.Bool.{cases_lt}
use Rattle.std.specs.FinMap as map
use Rattle.plain_counts.proofs.Least.{least_is, least_none}
use Rattle.plain_spaces.proofs.spaces.Spaces.least_absent.Goals as goal

-- a borrow is there where a value is
there : {A : Type 0} (r : Option (Bor A)) → is_some (option_copied r) ≡ is_some r
there None = refl
there (Some x) = refl

pub loop-space-preserved : goal.loop-space-preserved
loop-space-preserved c = λ s below. elim (cases_lt s c.loop-space.space) [
  | inl before ↦ c.loop-space.invariant s before
  | inr from ↦
      let same : s ≡ c.loop-space.space = omega (arith, below, from) in
      ap (map.contains_key c.args.self.now) same ∙ ap is_some (sym c.get.ensures) ∙ there c.get.result ∙ c.if-is_none.ensures
]

pub returns-then-is_none : goal.returns-then-is_none
returns-then-is_none c =
    sym (least_is (λ space. not (map.contains_key c.args.self.now space)) 0 64 c.loop-space.space (omega arith) (omega arith)
    (ap not (ap is_some (sym c.get.ensures) ∙ there c.get.result ∙ c.if-is_none.ensures))
    (λ k low below. ap not (c.loop-space.invariant k below)))

pub returns : goal.returns
returns c = sym (least_none (λ space. not (map.contains_key c.args.self.now space)) 0 64 (λ k low high. ap not (c.loop-space.invariant k (omega (arith, high)))))
