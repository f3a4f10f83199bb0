-- The first answer over a range of numbers, and the least number of a range that passes a test.
use Rattle.std.proofs.Common.{◌≡◌, ℕ, zero, suc, ◌+◌, ◌<◌, ◌≤◌, Bool, true, false, cond, refl, ap, ◌∙◌, arith}
use mathlib.Core.Logic.{inl, inr}
use Rattle.std.specs.Prelude.{Option, Some, None}
use Rattle.std.proofs.lemmas.Bool.{cases_eq}
use Rattle.page_map.specs.Change.{earliest, least}

module _ {B : Type 0} (answer : ℕ → Option B) where
  abbrev or_later : Option B → Option B → Option B
  or_later o later = elim o [ Some b ↦ Some b | None ↦ later ]

  -- one number of the range answers, and none before it
  pub earliest_is : (first count n : ℕ) (b : B) → first ≤ n → n < first + count → answer n ≡ Some b → ((k : ℕ) → first ≤ k → k < n → answer k ≡ None) →
      earliest first count answer ≡ Some b
  unfolding earliest
  earliest_is first zero n b low high is none = absurd (omega (arith, low, high))
  earliest_is first (suc count) n b low high is none =
      elim (cases_eq first n) [
        | inl e ↦ ap (λ o. or_later o (earliest (first + 1) count answer)) (ap answer e ∙ is)
        | inr apart ↦
            ap (λ o. or_later o (earliest (first + 1) count answer)) (none first (omega arith) (omega (arith, low, apart)))
            ∙ earliest_is (first + 1) count n b (omega (arith, low, apart)) (omega (arith, high)) is (λ k after before. none k (omega (arith, after)) before)
      ]

  -- no number of the range answers
  pub earliest_none : (first count : ℕ) → ((k : ℕ) → first ≤ k → k < first + count → answer k ≡ None) → earliest first count answer ≡ None
  unfolding earliest
  earliest_none first zero none = refl
  earliest_none first (suc count) none =
      ap (λ o. or_later o (earliest (first + 1) count answer)) (none first (omega arith) (omega arith))
      ∙ earliest_none (first + 1) count (λ k low high. none k (omega (arith, low)) (omega (arith, high)))

module _ (passes : ℕ → Bool) where
  -- one number of the range passes, and none before it
  pub least_is : (first count n : ℕ) → first ≤ n → n < first + count → passes n ≡ true → ((k : ℕ) → first ≤ k → k < n → passes k ≡ false) →
      least first count passes ≡ Some n
  least_is first count n low high is none =
      earliest_is (λ n. cond (passes n) (Some n) None) first count n n low high (ap (λ b. cond b (Some n) None) is) (λ k after before. ap (λ b. cond b (Some k) None) (none k after before))

  -- no number of the range passes
  pub least_none : (first count : ℕ) → ((k : ℕ) → first ≤ k → k < first + count → passes k ≡ false) → least first count passes ≡ None
  least_none first count none = earliest_none (λ n. cond (passes n) (Some n) None) first count (λ k low high. ap (λ b. cond b (Some k) None) (none k low high))
