-- Putting in the tables that are missing, and taking them out again.
use Rattle.std.proofs.Common.{◌≡◌, ℕ, zero, suc, Bool, true, false, not, List, [], ◌∷◌, ◌++◌, take, refl, sym, ap, ◌∙◌}
use mathlib.Core.Bool.{true≢false}
use Rattle.std.specs.Prelude.{◌&&◌, ◌||◌}
use Rattle.std.specs.List.{list_any}
use Rattle.std.specs.Ordering.{eq_by_cmp}
use Rattle.std.specs.declared.cmp.Ordering.{Ordering}
use Rattle.std.specs.Cmp.{IsTotalOrder}
use Rattle.std.specs.FinMap.{IsAntisymmetric}
use Rattle.std.specs.FinSet as set
use Rattle.std.specs.FinSet.{FinSet, same_set, contains-empty, contains-insert, contains-remove, contains-union, contains-difference, contains-from_list, from_list_push}
use Rattle.page_map.proofs.Evaluate.{union_insert}

-- ---- putting in and taking out

any_later : (a b c : Bool) → (b ≡ true → c ≡ true) → (a || b) ≡ true → (a || c) ≡ true
any_later true b c f h = refl
any_later false b c f h = f h

any_taken : {A : Type 0} (test : A → Bool) (n : ℕ) (xs : List A) → list_any test (take n xs) ≡ true → list_any test xs ≡ true
any_taken test zero xs h = absurd (true≢false (sym h))
any_taken test (suc n) [] h = absurd (true≢false (sym h))
any_taken test (suc n) (x ∷ xs) h = any_later (test x) (list_any test (take n xs)) (list_any test xs) (any_taken test n xs) h

module _ {K : Type 0} {R : K → K → Ordering} (o : IsTotalOrder R) (same : IsAntisymmetric R) where
  pub put_more : (s : FinSet R) (ks : List K) (k : K) → set.union s (set.from_list (ks ++ k ∷ [])) ≡ set.insert (set.union s (set.from_list ks)) k
  put_more s ks k = ap (set.union s) (from_list_push o same ks k) ∙ union_insert o same s (set.from_list ks) k

  pub take_out_none : (s : FinSet R) → set.difference s set.empty ≡ s
  take_out_none s = same_set o same _ _ (λ q. contains-difference o s set.empty q ∙ ap (λ b. set.contains s q && not b) (contains-empty R q) ∙ and_true (set.contains s q))
    where
      and_true : (b : Bool) → (b && true) ≡ b
      and_true true = refl
      and_true false = refl

  pub take_out_more : (s : FinSet R) (ks : List K) (k : K) → set.difference s (set.from_list (ks ++ k ∷ [])) ≡ set.remove (set.difference s (set.from_list ks)) k
  take_out_more s ks k = ap (set.difference s) (from_list_push o same ks k) ∙ same_set o same _ _ (λ q.
      contains-difference o s (set.insert (set.from_list ks) k) q ∙ ap (λ b. set.contains s q && not b) (contains-insert o (set.from_list ks) k q)
      ∙ turn (set.contains s q) (eq_by_cmp R q k) (set.contains (set.from_list ks) q)
      ∙ sym (contains-remove o (set.difference s (set.from_list ks)) k q ∙ ap (λ b. not (eq_by_cmp R q k) && b) (contains-difference o s (set.from_list ks) q)))
    where
      turn : (c e t : Bool) → (c && not (e || t)) ≡ (not e && (c && not t))
      turn true true t = refl
      turn true false t = refl
      turn false true t = refl
      turn false false t = refl

  -- what was not there, put in as far as memory went, and taken out again
  pub taken_out : (s : FinSet R) (ks : List K) (n : ℕ) → set.difference s (set.from_list ks) ≡ s → set.difference (set.union s (set.from_list (take n ks))) (set.from_list ks) ≡ s
  taken_out s ks n apart = same_set o same _ _ (λ q.
      contains-difference o (set.union s (set.from_list (take n ks))) (set.from_list ks) q
      ∙ (λ i. (contains-union o s (set.from_list (take n ks)) q ∙ ap (λ b. set.contains s q || b) (contains-from_list o (take n ks) q)) i && not (contains-from_list o ks q i))
      ∙ left (set.contains s q) (list_any (eq_by_cmp R q) (take n ks)) (list_any (eq_by_cmp R q) ks)
      (sym (contains-difference o s (set.from_list ks) q ∙ ap (λ b. set.contains s q && not b) (contains-from_list o ks q)) ∙ ap (λ t. set.contains t q) apart)
      (any_taken (eq_by_cmp R q) n ks))
    where
      left : (c t m : Bool) → (c && not m) ≡ c → (t ≡ true → m ≡ true) → ((c || t) && not m) ≡ c
      left true t m e h = e
      left false true m e h = ap not (h refl)
      left false false m e h = refl

  -- the missing ones of a list
  module _ (s : FinSet R) (ks : List K) where
    abbrev missing_of : FinSet R
    missing_of = set.difference (set.from_list ks) s

    -- none of them is there
    pub missing_apart : set.difference s missing_of ≡ s
    missing_apart = same_set o same _ _ (λ q.
        contains-difference o s missing_of q ∙ ap (λ b. set.contains s q && not b) (contains-difference o (set.from_list ks) s q)
        ∙ out (set.contains s q) (set.contains (set.from_list ks) q))
      where
        out : (c a : Bool) → (c && not (a && not c)) ≡ c
        out true true = refl
        out true false = refl
        out false a = refl

    -- with them all are there
    pub all_there : set.union s missing_of ≡ set.union s (set.from_list ks)
    all_there = same_set o same _ _ (λ q.
        contains-union o s missing_of q ∙ ap (λ b. set.contains s q || b) (contains-difference o (set.from_list ks) s q)
        ∙ joined (set.contains s q) (set.contains (set.from_list ks) q)
        ∙ sym (contains-union o s (set.from_list ks) q))
      where
        joined : (c a : Bool) → (c || (a && not c)) ≡ (c || a)
        joined true a = refl
        joined false true = refl
        joined false false = refl

    -- and without them again as before
    pub out_again : set.difference (set.union s missing_of) missing_of ≡ s
    out_again = same_set o same _ _ (λ q.
        contains-difference o (set.union s missing_of) missing_of q
        ∙ ap (λ b. b && not (set.contains missing_of q)) (contains-union o s missing_of q)
        ∙ ap (λ b. (set.contains s q || b) && not b) (contains-difference o (set.from_list ks) s q)
        ∙ left (set.contains s q) (set.contains (set.from_list ks) q))
      where
        left : (c a : Bool) → ((c || (a && not c)) && not (a && not c)) ≡ c
        left true true = refl
        left true false = refl
        left false true = refl
        left false false = refl
