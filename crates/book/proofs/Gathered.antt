-- What the entries of a map yield, key by key.
use Rattle.std.proofs.Common.{◌≡◌, ℕ, zero, suc, ◌+◌, ◌<◌, ◌≤◌, false, cond, List, [], ◌∷◌, ◌++◌, refl, sym, ap, ◌∙◌, arith, append_assoc}
use Rattle.std.specs.Prelude.{Some, T, nat_eq}
use Rattle.std.specs.List.{flat_map, AllByRecursion}
use Rattle.std.specs.Option.{option_map_or}
use Rattle.std.specs.Ordering.{nat_cmp}
use Rattle.std.specs.Cmp.{unsigned_tied, nat_eq_equiv}
use Rattle.std.proofs.lemmas.Bool.{cases_eq}
use mathlib.Core.Logic.{◌⊎◌, inl, inr}
use Rattle.std.specs.FinMap as fin
use Rattle.std.specs.FinMap.{FinMap, find, is_sorted, entries_sorted, get-entries}
use Rattle.page_map.proofs.Weights.{first, second}
use Rattle.book.proofs.Totals.{Within, later, none_below, top, below_top}

module _ {B : Type 0} where
  -- the lists of so many numbers from one on, in their order
  unfoldable pub gather : (ℕ → List B) → ℕ → ℕ → List B
  gather f low zero = []
  gather f low (suc n) = f low ++ gather f (low + 1) n

  pub gather_none : (f : ℕ → List B) (low n : ℕ) → ((k : ℕ) → low ≤ k → k < low + n → f k ≡ []) → gather f low n ≡ []
  unfolding gather
  gather_none f low zero h = refl
  gather_none f low (suc n) h = (λ i. h low (omega arith) (omega arith) i ++ gather_none f (low + 1) n (λ k a b. h k (omega (arith, a)) (omega (arith, b))) i)

  pub gather_same : (f g : ℕ → List B) (low n : ℕ) → ((k : ℕ) → low ≤ k → k < low + n → f k ≡ g k) → gather f low n ≡ gather g low n
  unfolding gather
  gather_same f g low zero h = refl
  gather_same f g low (suc n) h = (λ i. h low (omega arith) (omega arith) i ++ gather_same f g (low + 1) n (λ k a b. h k (omega (arith, a)) (omega (arith, b))) i)

  plus_zero : (f : ℕ → List B) (low m : ℕ) → gather f low m ≡ gather f (low + 0) m
  plus_zero f low m = ap (λ k. gather f k m) (none low)
    where
      none : (k : ℕ) → k ≡ k + 0
      none k = omega arith

  pub gather_parts : (f : ℕ → List B) (low n m : ℕ) → gather f low (n + m) ≡ gather f low n ++ gather f (low + n) m
  unfolding gather
  gather_parts f low zero m = ap (λ k. gather f low k) (zero_plus m) ∙ plus_zero f low m
    where
      zero_plus : (k : ℕ) → 0 + k ≡ k
      zero_plus k = omega arith
  gather_parts f low (suc n) m =
      ap (λ k. gather f low k) (one_more n m)
      ∙ ap (λ l. f low ++ l) (gather_parts f (low + 1) n m)
      ∙ sym (append_assoc (f low) (gather f (low + 1) n) (gather f (low + 1 + n) m))
      ∙ ap (λ k. f low ++ gather f (low + 1) n ++ gather f k m) (next low n)
    where
      one_more : (n m : ℕ) → suc n + m ≡ suc (n + m)
      one_more n m = omega arith

      next : (low n : ℕ) → low + 1 + n ≡ low + suc n
      next low n = omega arith

module _ {X B : Type 0} (f : ℕ → X → List B) where
  abbrev pub yielded : List (ℕ × X) → List B
  yielded es = flat_map (λ e. f e.0 e.1) es

  abbrev pub at_key : List (ℕ × X) → ℕ → List B
  at_key es k = option_map_or (f k) (find nat_cmp k es) []

  abbrev pub here : FinMap nat_cmp X → ℕ → List B
  here m k = option_map_or (f k) (fin.get m k) []

  -- what a list in order yields is what the keys of a range yield that has them
  yielded_is : (n low : ℕ) (es : List (ℕ × X)) → T (is_sorted nat_cmp es) → AllByRecursion (Within (λ _ _. 0) low n) es → yielded es ≡ gather (at_key es) low n
  unfolding gather
  yielded_is zero low [] h within = refl
  yielded_is zero low (e ∷ es) h within = absurd (omega (arith, within.0.0, within.0.1))
  yielded_is (suc n) low [] h within = sym (gather_none (at_key []) low (suc n) (λ k a b. refl))
  yielded_is (suc n) low (e ∷ es) h within = go (λ fs. yielded_is n (low + 1) fs) (cases_eq e.0 low)
    where
      found_first : find nat_cmp e.0 (e ∷ es) ≡ Some e.1
      found_first = ap (λ b. cond b (Some e.1) (find nat_cmp e.0 es)) (unsigned_tied e.0 e.0 ∙ nat_eq_equiv.refl e.0)

      beside : (k : ℕ) → e.0 < k → at_key (e ∷ es) k ≡ at_key es k
      beside k a = ap (λ b. option_map_or (f k) (cond b (Some e.1) (find nat_cmp k es)) []) (unsigned_tied k e.0 ∙ differs a)
        where
          differs : {a b : ℕ} → a < b → nat_eq b a ≡ false
          differs l = grind (arith, l)

      go : ((fs : List (ℕ × X)) → T (is_sorted nat_cmp fs) → AllByRecursion (Within (λ _ _. 0) (low + 1) n) fs → yielded fs ≡ gather (at_key fs) (low + 1) n) → (e.0 ≡ low) ⊎ (e.0 ≡ low → ⊥) →
          yielded (e ∷ es) ≡ gather (at_key (e ∷ es)) low (suc n)
      go more (inl same) =
          let first_is : at_key (e ∷ es) low ≡ f e.0 e.1 = ap (at_key (e ∷ es)) (sym same) ∙ ap (λ o. option_map_or (f e.0) o []) found_first in
          let rest = more es (second _ _ h) (later (λ _ _. 0) low n e es within.0.0 (first _ _ h) within.1) in
          let alike = gather_same (at_key (e ∷ es)) (at_key es) (low + 1) n (λ k a b. beside k (omega (arith, same, a))) in
          (λ i. sym first_is i ++ (rest ∙ sym alike) i)
      go more (inr apart) =
          let none : at_key (e ∷ es) low ≡ [] = ap (λ o. option_map_or (f low) o []) (ap (λ b. cond b (Some e.1) (find nat_cmp low es)) (unsigned_tied low e.0 ∙ differs (omega (arith, apart, within.0.0))) ∙ none_below (λ _ _. 0) low e.0 es within.0.0 (first _ _ h)) in
          let rest = more (e ∷ es) h ((omega (arith, apart, within.0.0), omega (arith, within.0.1)), later (λ _ _. 0) low n e es within.0.0 (first _ _ h) within.1) in
          rest ∙ ap (λ l. l ++ gather (at_key (e ∷ es)) (low + 1) n) (sym none)
        where
          differs : {a b : ℕ} → a < b → nat_eq a b ≡ false
          differs l = grind (arith, l)

  -- a bound on the keys of a map, and what its entries yield
  pub bound : FinMap nat_cmp X → ℕ
  bound m = top (λ _ _. 0) (fin.entries m)

  pub gathered : (m : FinMap nat_cmp X) (n : ℕ) → bound m ≤ n → yielded (fin.entries m) ≡ gather (here m) 0 n
  unfolding bound
  gathered m n enough =
      yielded_is n 0 (fin.entries m) (entries_sorted m) (below_top (λ _ _. 0) n (fin.entries m) enough)
      ∙ gather_same (at_key (fin.entries m)) (here m) 0 n (λ k a b. ap (λ o. option_map_or (f k) o []) (sym (get-entries m k)))
