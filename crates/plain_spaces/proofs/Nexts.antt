-- The least page of a range that has a cell.
use Rattle.std.proofs.Common.{◌≡◌, ℕ, ◌+◌, ◌<◌, ◌≤◌, Bool, true, false, cond, refl}
use mathlib.Core.Bool.{true≢false}
use Rattle.std.specs.Prelude.{Option, Some, None, is_some}
use Rattle.std.specs.Ordering.{nat_cmp}
use Rattle.std.specs.FinMap.{FinMap, get}
use Rattle.page_map.specs.Change.{least}
use Rattle.page_map.proofs.Least.{least_passes, unanswered, none_below_least}

pub none_from : {A : Type 0} (o : Option A) → is_some o ≡ false → o ≡ None
none_from None h = refl
none_from (Some x) h = absurd (true≢false h)

-- no number of the range passes
pub none_passes : (passes : ℕ → Bool) (first count : ℕ) → least first count passes ≡ None → (q : ℕ) → first ≤ q → q < first + count → passes q ≡ false
none_passes passes first count e q a b = go (passes q) refl (unanswered (λ n. cond (passes n) (Some n) None) first count e q a b)
  where
    go : (t : Bool) → passes q ≡ t → cond t (Some q) None ≡ None → passes q ≡ false
    go false is h = is
    go true is h = absurd (not h)
      where
        not : ◌≡◌ {A = Option ℕ} (Some q) None → ⊥
        not e = cc

module _ {X : Type 0} (m : FinMap nat_cmp X) (first count : ℕ) where
  abbrev has : ℕ → Bool
  has q = is_some (get m q)

  pub next_here : (page : ℕ) → least first count (λ q. is_some (get m q)) ≡ Some page → (first ≤ page) × (page < first + count)
  next_here page e = let at = least_passes first count has page e in (at.0, at.1)

  pub none_before : (page : ℕ) → least first count (λ q. is_some (get m q)) ≡ Some page → (q : ℕ) → first ≤ q → q < page → get m q ≡ None
  none_before page e q a b = none_from (get m q) (none_below_least has first count page q e a b)

  pub none_at_all : least first count (λ q. is_some (get m q)) ≡ None → (q : ℕ) → first ≤ q → q < first + count → get m q ≡ None
  none_at_all e q a b = none_from (get m q) (none_passes has first count e q a b)
