-- At most as many numbers are in use as there are pages that have one.
--     any_few      numbers each of which belongs to one of some items, of which each has at most one
--     free_and_used      what is unused and what is in use are all
--     zero_sum      a sum over values each of which weighs nothing
use Rattle.std.proofs.Common.{◌≡◌, ℕ, zero, suc, ◌+◌, ◌<◌, ◌≤◌, Bool, true, false, cond, not, ◌||◌, List, [], ◌∷◌, length, refl, sym, ap, ◌∙◌, arith}
use mathlib.Core.Bool.{true≢false}
use Rattle.std.specs.Prelude.{Option, Some, None, map, nat_eq}
use Rattle.std.specs.Option.{option_map_or}
use Rattle.std.specs.List.{AllByRecursion, filter, list_any, range_with_len, sum_by}
use Rattle.std.specs.Ordering.{nat_cmp}
use Rattle.std.specs.FinMap as fin
use Rattle.std.specs.FinMap.{FinMap}
use Rattle.std.proofs.lemmas.Bool.{eqb-true, ne_eqb}
use Rattle.std.proofs.lemmas.List.Sums.{sum_by-cons}
use Rattle.page_map.specs.State.{unused}
use Rattle.page_map.specs.Found.{in_use}
use Rattle.page_map.proofs.Few.{each_entry}
use Rattle.page_map.proofs.Written.{length_range}

-- ---- filters

either_few : (p q : ℕ → Bool) (ns : List ℕ) → length (filter (λ n. p n || q n) ns) ≤ length (filter p ns) + length (filter q ns)
either_few p q [] = omega arith
either_few p q (n ∷ ns) = go (p n) (q n) (either_few p q ns)
  where
    go : (a b : Bool) → length (filter (λ n. p n || q n) ns) ≤ length (filter p ns) + length (filter q ns) →
        length (cond (a || b) (n ∷ filter (λ n. p n || q n) ns) (filter (λ n. p n || q n) ns)) ≤ length (cond a (n ∷ filter p ns) (filter p ns)) + length (cond b (n ∷ filter q ns) (filter q ns))
    go true true h = omega (arith, h)
    go true false h = omega (arith, h)
    go false true h = omega (arith, h)
    go false false h = h

none_pass : (ns : List ℕ) → length (filter (λ n. false) ns) ≡ 0
none_pass [] = refl
none_pass (n ∷ ns) = none_pass ns

pub any_few : {X : Type 0} (t : X → ℕ → Bool) (ns : List ℕ) → ((x : X) → length (filter (t x) ns) ≤ 1) → (xs : List X) → length (filter (λ n. list_any (λ x. t x n) xs) ns) ≤ length xs
any_few t ns one [] = omega (arith, none_pass ns)
any_few t ns one (x ∷ xs) = omega (arith, either_few (t x) (λ n. list_any (λ x. t x n) xs) ns, one x, any_few t ns one xs)

pub more_pass : (p q : ℕ → Bool) → ((n : ℕ) → p n ≡ true → q n ≡ true) → (ns : List ℕ) → length (filter p ns) ≤ length (filter q ns)
more_pass p q gives [] = omega arith
more_pass p q gives (n ∷ ns) = go (p n) (q n) refl refl (more_pass p q gives ns)
  where
    go : (a b : Bool) → p n ≡ a → q n ≡ b → length (filter p ns) ≤ length (filter q ns) → length (cond a (n ∷ filter p ns) (filter p ns)) ≤ length (cond b (n ∷ filter q ns) (filter q ns))
    go true true is also rest = omega (arith, rest)
    go true false is also rest = absurd (true≢false (sym (gives n is) ∙ also))
    go false true is also rest = omega (arith, rest)
    go false false is also rest = rest

-- a number is once in a range
none_below : (m low k : ℕ) → m < low → length (filter (nat_eq m) (range_with_len low k)) ≡ 0
none_below m low zero h = refl
none_below m low (suc k) h =
    ap (λ b. length (cond b (low ∷ filter (nat_eq m) (range_with_len (low + 1) k)) (filter (nat_eq m) (range_with_len (low + 1) k)))) (ne_eqb m low (λ e. absurd (omega (arith, e, h))))
    ∙ none_below m (low + 1) k (omega (arith, h))

once : (m low k : ℕ) → length (filter (nat_eq m) (range_with_len low k)) ≤ 1
once m low zero = omega arith
once m low (suc k) = go (nat_eq m low) refl (once m (low + 1) k)
  where
    below : (m low : ℕ) → m ≡ low → m < low + 1
    below m low e = omega arith

    go : (b : Bool) → nat_eq m low ≡ b → length (filter (nat_eq m) (range_with_len (low + 1) k)) ≤ 1 →
        length (cond b (low ∷ filter (nat_eq m) (range_with_len (low + 1) k)) (filter (nat_eq m) (range_with_len (low + 1) k))) ≤ 1
    go true e h = omega (arith, none_below m (low + 1) k (below m low (eqb-true m low e)))
    go false e h = h

pub at_most_once : (o : Option ℕ) (low k : ℕ) → length (filter (λ n. option_map_or (λ m. nat_eq m n) o false) (range_with_len low k)) ≤ 1
at_most_once None low k = omega (arith, none_pass (range_with_len low k))
at_most_once (Some m) low k = once m low k

-- ---- unused and in use

parts : (p : ℕ → Bool) (ns : List ℕ) → length (filter p ns) + length (filter (λ n. not (p n)) ns) ≡ length ns
parts p [] = refl
parts p (n ∷ ns) = go (p n) (parts p ns)
  where
    go : (b : Bool) → length (filter p ns) + length (filter (λ n. not (p n)) ns) ≡ length ns →
        length (cond b (n ∷ filter p ns) (filter p ns)) + length (cond (not b) (n ∷ filter (λ n. not (p n)) ns) (filter (λ n. not (p n)) ns)) ≡ suc (length ns)
    go true h = omega (arith, h)
    go false h = omega (arith, h)

pub free_and_used : (owners : ℕ → ℕ) (limit : ℕ) → length (unused owners limit) + length (in_use owners limit) ≡ limit
free_and_used owners limit = parts (λ n. nat_eq (owners n) 0) (range_with_len 0 limit) ∙ length_range 0 limit

-- ---- values that weigh nothing

module _ {X : Type 0} (w : X → ℕ) where
  no_weight : (es : List (ℕ × X)) → AllByRecursion (λ (e : ℕ × X). w e.1 ≡ 0) es → sum_by w (map (λ e. e.1) es) ≡ 0
  no_weight [] h = refl
  no_weight (e ∷ es) h = omega (arith, sum_by-cons w e.1 (map (λ e. e.1) es), h.0, no_weight es h.1)

  pub zero_sum : (m : FinMap nat_cmp X) → ((k : ℕ) (x : X) → fin.get m k ≡ Some x → w x ≡ 0) → sum_by w (fin.values m) ≡ 0
  zero_sum m h = no_weight (fin.entries m) (each_entry (λ k x. w x ≡ 0) m h)
