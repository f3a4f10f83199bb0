-- How many pages have marks before the first that has none.
use Rattle.std.proofs.Common.{◌≡◌, ℕ, ◌+◌, ◌-◌, ◌≤◌, Bool, true, false, cond, refl, sym, ap, ◌∙◌, arith}
use mathlib.Core.Bool.{true≢false}
use Rattle.std.specs.Prelude.{Option, Some, None, IsSome, is_none}
use Rattle.std.specs.FinMap.{get}
use Rattle.page_map.specs.Change.{least}
use Rattle.page_map.proofs.Least.{least_passes, none_below_least, unanswered}
use Rattle.page_runs.specs.declared.mark.Mark.{Mark}
use Rattle.page_runs.specs.Spans.{Marks}
use Rattle.page_runs.specs.Runs.{IsFullFrom}
use Rattle.page_runs.proofs.Views.{not_some}

none_is : (o : Option Mark) → is_none o ≡ true → o ≡ None
none_is None e = refl
none_is (Some mark) e = absurd (true≢false (sym e))

some_is : (o : Option Mark) → is_none o ≡ false → IsSome o
some_is None e = absurd (true≢false e)
some_is (Some mark) e = refl

module _ (m : Marks) (first end : ℕ) (low : first ≤ end) where
  pub full_up_to : (hole : ℕ) → least first (end - first) (λ page. is_none (get m page)) ≡ Some hole → IsFullFrom m first end (hole - first)
  full_up_to hole is =
      let at = least_passes first (end - first) (λ page. is_none (get m page)) hole is in
      let back : first + (hole - first) ≡ hole = omega (arith, at.0) in
      record {
        within = omega (arith, at.0, at.1, low);
        full = λ i less. some_is (get m (first + i)) (none_below_least (λ page. is_none (get m page)) first (end - first) hole (first + i) is (omega arith) (omega (arith, less)));
        ends = λ less. ap (get m) back ∙ none_is (get m hole) at.2;
      }

  none_answers : (page : ℕ) → ◌≡◌ {A = Option ℕ} (cond (is_none (get m page)) (Some page) None) None → IsSome (get m page)
  none_answers page none = go (is_none (get m page)) refl none
    where
      go : (b : Bool) → is_none (get m page) ≡ b → ◌≡◌ {A = Option ℕ} (cond b (Some page) None) None → IsSome (get m page)
      go false e h = some_is (get m page) e
      go true e h = absurd (not_some (sym h))

  pub full_to_end : least first (end - first) (λ page. is_none (get m page)) ≡ None → IsFullFrom m first end (end - first)
  full_to_end none = record {
    within = omega (arith, low);
    full = λ i less. none_answers (first + i) (unanswered (λ n. cond (is_none (get m n)) (Some n) None) first (end - first) none (first + i) (omega arith) (omega (arith, less)));
    ends = λ less. absurd (omega (arith, less, low));
  }
