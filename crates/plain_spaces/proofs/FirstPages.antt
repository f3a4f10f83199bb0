-- A range that is changed from its front on, page by page.
use Rattle.std.proofs.Common.{◌≡◌, ℕ, ◌+◌, ◌-◌, ◌<◌, ◌≤◌, Bool, true, false, cond, refl, sym, ◌∙◌, arith}
use mathlib.Core.Logic.{inl, inr}
use Rattle.std.specs.Prelude.{Option}
use Rattle.std.specs.Ordering.{nat_cmp}
use Rattle.std.proofs.lemmas.Bool.{cases_lt}
use Rattle.std.specs.FinMap.{FinMap, get}
use Rattle.table_place.specs.Range.{within}
use Rattle.page_map.specs.Change.{change}
use Rattle.page_map.proofs.Range.{get-change, change_is, inside, outside}

module _ {X : Type 0} (m : FinMap nat_cmp X) where
  -- two changes that agree on the pages of the range
  pub change_alike : (f g : ℕ → Option X → Option X) (first count : ℕ) → ((q : ℕ) → first ≤ q → q < first + count → f q (get m q) ≡ g q (get m q)) → change m first count f ≡ change m first count g
  change_alike f g first count same = change_is m first count g (change m first count f) (λ q. get-change m first count f q ∙ go q (within first count q) refl)
    where
      go : (q : ℕ) (b : Bool) → within first count q ≡ b → cond b (f q (get m q)) (get m q) ≡ cond b (g q (get m q)) (get m q)
      go q false e = refl
      go q true e = same q (inside first count q e).0 (inside first count q e).1

  module _ (f : ℕ → Option X → Option X) (next page end : ℕ) (low : next ≤ page) where
    -- the pages before one stay as they are
    pub change_skip : page ≤ end → ((q : ℕ) → next ≤ q → q < page → f q (get m q) ≡ get m q) → change m next (end - next) f ≡ change m page (end - page) f
    change_skip high quiet = change_is m page (end - page) f (change m next (end - next) f) (λ q. get-change m next (end - next) f q ∙ go q (within next (end - next) q) (within page (end - page) q) refl refl)
      where
        go : (q : ℕ) (b d : Bool) → within next (end - next) q ≡ b → within page (end - page) q ≡ d → cond b (f q (get m q)) (get m q) ≡ cond d (f q (get m q)) (get m q)
        go q true true eb ed = refl
        go q false false eb ed = refl
        go q false true eb ed = absurd (outside next (end - next) q eb (omega (arith, (inside page (end - page) q ed).0, low)) (omega (arith, (inside page (end - page) q ed).1, (inside page (end - page) q ed).0, low)))
        go q true false eb ed = elim (cases_lt q page) [
          | inl before ↦ quiet q (inside next (end - next) q eb).0 before
          | inr after ↦ absurd (outside page (end - page) q ed after (omega (arith, (inside next (end - next) q eb).1, (inside next (end - next) q eb).0, after)))
        ]

  -- the first page, and then the others
  pub change_front : (f : ℕ → Option X → Option X) (page end : ℕ) → page < end → change m page (end - page) f ≡ change (change m page 1 f) (page + 1) (end - (page + 1)) f
  change_front f page end high =
      sym (change_is m page (end - page) f (change (change m page 1 f) (page + 1) (end - (page + 1)) f) (λ q.
      get-change (change m page 1 f) (page + 1) (end - (page + 1)) f q
      ∙ (λ i. cond (within (page + 1) (end - (page + 1)) q) (f q (get-change m page 1 f q i)) (get-change m page 1 f q i))
      ∙ go q (within (page + 1) (end - (page + 1)) q) (within page 1 q) (within page (end - page) q) refl refl refl))
    where
      go : (q : ℕ) (a b d : Bool) → within (page + 1) (end - (page + 1)) q ≡ a → within page 1 q ≡ b → within page (end - page) q ≡ d →
          cond a (f q (cond b (f q (get m q)) (get m q))) (cond b (f q (get m q)) (get m q)) ≡ cond d (f q (get m q)) (get m q)
      go q true true d ea eb ed = absurd (omega (arith, (inside (page + 1) (end - (page + 1)) q ea).0, (inside page 1 q eb).1))
      go q true false true ea eb ed = refl
      go q false true true ea eb ed = refl
      go q false false false ea eb ed = refl
      go q true false false ea eb ed = absurd (outside page (end - page) q ed (omega (arith, (inside (page + 1) (end - (page + 1)) q ea).0)) (omega (arith, (inside (page + 1) (end - (page + 1)) q ea).1, (inside (page + 1) (end - (page + 1)) q ea).0)))
      go q false true false ea eb ed = absurd (outside page (end - page) q ed (inside page 1 q eb).0 (omega (arith, high, (inside page 1 q eb).1)))
      go q false false true ea eb ed = elim (cases_lt page q) [
        | inl after ↦ absurd (outside (page + 1) (end - (page + 1)) q ea (omega (arith, after)) (omega (arith, after, (inside page (end - page) q ed).1)))
        | inr at ↦ absurd (outside page 1 q eb (inside page (end - page) q ed).0 (omega (arith, at)))
      ]
