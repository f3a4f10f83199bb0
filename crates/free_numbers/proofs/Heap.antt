-- Lemmas on the numbers that a heap has.
use Rattle.std.proofs.Common.{◌≡◌, ℕ, zero, suc, ◌^◌, ◌<◌, ◌≤◌, true, false, ◌||◌, eqb, List, [], ◌∷◌, length, map, sym, refl, ap, ◌∙◌, arith}
use Rattle.std.specs.FinSet as set
use Rattle.std.specs.Ordering.{nat_cmp}
use Rattle.std.specs.Cmp.{nat_cmp_total, unsigned_tied}
use Rattle.std.specs.List.{list_any}
use Rattle.std.specs.List.Sorted.{IsPermutation}
use Rattle.std.specs.BinaryHeap.{IsHeap, IsUpperBound}
use Rattle.std.proofs.lemmas.Bool.Decides.{nat_tests}
use Rattle.std.proofs.lemmas.List.Sorted.{list_any-IsPermutation, length_permutation}
use Rattle.std.specs.declared.cmp.Reverse.{Reverse}
use Rattle.std.specs.declared.cmp.Ordering.{Ordering}
use Rattle.free_numbers.specs.FreeNumbers.{IsLeast}
use Rattle.free_numbers.specs.Numbers.{numbers_of, IsKept}

abbrev Heap : Type 0
Heap = List (Reverse ℕ)

abbrev least_first : Reverse ℕ → Reverse ℕ → Ordering
least_first x y = nat_cmp y.0 x.0

list_any-map : (q : ℕ) (heap : Heap) → list_any (λ y. eqb y q) (map (λ r. r.0) heap) ≡ list_any (λ r. eqb r.0 q) heap
list_any-map q [] = refl
list_any-map q (r ∷ rest) = ap (λ b. eqb r.0 q || b) (list_any-map q rest)

pub contains-numbers_of : (heap : Heap) (q : ℕ) → set.contains (numbers_of heap) q ≡ list_any (λ r. eqb r.0 q) heap
contains-numbers_of heap q = set.contains-from_list_nat (map (λ r. r.0) heap) q ∙ list_any-map q heap

-- a heap has the numbers of any other order of it
pub numbers_of-permutation : (xs ys : Heap) → IsPermutation xs ys → numbers_of ys ≡ numbers_of xs
numbers_of-permutation xs ys moved =
    set.same_set nat_cmp_total set.nat_cmp-IsAntisymmetric (numbers_of ys) (numbers_of xs)
    (λ q. contains-numbers_of ys q ∙ sym (list_any-IsPermutation (λ r. eqb r.0 q) xs ys moved) ∙ sym (contains-numbers_of xs q))

pub len-numbers_of-le : (heap : Heap) → set.len (numbers_of heap) ≤ length heap
len-numbers_of-le [] = omega (arith, set.len-empty nat_cmp)
len-numbers_of-le (r ∷ rest) = grind (arith, set.len-insert nat_cmp_total (numbers_of rest) r.0, len-numbers_of-le rest)

-- no number below the top is in the heap
pub none_below_top : (heap : Heap) (top : Reverse ℕ) → IsUpperBound least_first top heap → (k : ℕ) → k < top.0 → list_any (λ r. eqb r.0 k) heap ≡ false
none_below_top [] top bound k below = refl
none_below_top (r ∷ rest) top bound k below = grind (arith, nat_tests, none_below_top rest top bound.1 k below, bound.0)

-- a set of numbers below a limit has at most as many
pub len-le-limit : (limit : ℕ) (s : set.FinSet nat_cmp) → ((n : ℕ) → set.contains s n ≡ true → n < limit) → set.len s ≤ limit
len-le-limit zero s below =
    let none : s ≡ set.empty = set.same_set nat_cmp_total set.nat_cmp-IsAntisymmetric s set.empty (λ n. grind (arith, below n, set.contains-empty nat_cmp n)) in
    omega (arith, ap set.len none, set.len-empty nat_cmp)
len-le-limit (suc n) s below =
    let less = len-le-limit n (set.remove s n) (λ k had. grind (arith, nat_tests, below k, set.contains-remove nat_cmp_total s n k, unsigned_tied k n, had)) in
    grind (arith, less, set.len-remove nat_cmp_total s n)

-- one of them is not in the set
pub len-lt-limit : (limit : ℕ) (s : set.FinSet nat_cmp) → ((n : ℕ) → set.contains s n ≡ true → n < limit) → (n : ℕ) → n < limit → set.contains s n ≡ false → set.len s < limit
len-lt-limit limit s below n inside absent =
    let more = len-le-limit limit (set.insert s n) (λ k had. grind (arith, nat_tests, below k, set.contains-insert nat_cmp_total s n k, unsigned_tied k n, had)) in
    grind (arith, more, set.len-insert nat_cmp_total s n)

pub IsKept-empty : (limit capacity : ℕ) → IsHeap least_first [] → limit ≤ capacity → limit < 2 ^ 32 → IsKept limit [] capacity
IsKept-empty limit capacity ordered room fits = record {
  once = set.len-empty nat_cmp;
  below = λ n had. grind (arith, set.contains-empty nat_cmp n);
  ordered = ordered;
  room = room;
  fits = fits;
}

-- a number that was absent joins the heap
pub IsKept-push : (limit capacity more : ℕ) (xs ys : Heap) (n : ℕ) → IsKept limit xs capacity → n < limit → set.contains (numbers_of xs) n ≡ false → IsPermutation (record { 0 = n } ∷ xs) ys → IsHeap least_first ys → capacity ≤ more → IsKept limit ys more
IsKept-push limit capacity more xs ys n kept inside absent moved ordered room =
    let same : numbers_of ys ≡ set.insert (numbers_of xs) n = numbers_of-permutation _ ys moved in
    record {
      once = grind (arith, set.len-insert nat_cmp_total (numbers_of xs) n, length_permutation _ ys moved, kept.once, ap set.len same);
      below = λ k had. grind (arith, nat_tests, kept.below k, set.contains-insert nat_cmp_total (numbers_of xs) n k, unsigned_tied k n, had, ap (λ s. set.contains s k) same);
      ordered = ordered;
      room = omega (arith, kept.room);
      fits = kept.fits;
    }

module _ (limit capacity : ℕ) (xs ys : Heap) (top : Reverse ℕ) (kept : IsKept limit xs capacity) (moved : IsPermutation xs (top ∷ ys)) where
  -- the heap has its top once
  absent_below_top : (set.contains (numbers_of ys) top.0 ≡ false) × (set.len (numbers_of ys) ≡ length ys)
  absent_below_top =
      let same : set.insert (numbers_of ys) top.0 ≡ numbers_of xs = numbers_of-permutation xs (top ∷ ys) moved in
      let counted = ap set.len same in
      let short = len-numbers_of-le ys in
      let longer = length_permutation xs (top ∷ ys) moved in
      (grind (arith, set.len-insert nat_cmp_total (numbers_of ys) top.0, kept.once), grind (arith, set.len-insert nat_cmp_total (numbers_of ys) top.0, kept.once))

  pub numbers_of-pop : numbers_of ys ≡ set.remove (numbers_of xs) top.0
  numbers_of-pop =
      let same : set.insert (numbers_of ys) top.0 ≡ numbers_of xs = numbers_of-permutation xs (top ∷ ys) moved in
      set.same_set nat_cmp_total set.nat_cmp-IsAntisymmetric _ _
      (λ k. grind (arith, nat_tests, absent_below_top.0, ap (λ s. set.contains s k) same, set.contains-insert nat_cmp_total (numbers_of ys) top.0 k, set.contains-remove nat_cmp_total (numbers_of xs) top.0 k, unsigned_tied k top.0))

  pub IsKept-pop : IsHeap least_first ys → IsKept limit ys capacity
  IsKept-pop ordered = record {
    once = absent_below_top.1;
    below = λ k had. grind (arith, nat_tests, kept.below k, had, ap (λ s. set.contains s k) numbers_of-pop, set.contains-remove nat_cmp_total (numbers_of xs) top.0 k);
    ordered = ordered;
    room = kept.room;
    fits = kept.fits;
  }

  -- the top is the least
  pub IsLeast-pop : IsUpperBound least_first top xs → IsLeast (numbers_of xs) top.0
  IsLeast-pop bound =
      let same : set.insert (numbers_of ys) top.0 ≡ numbers_of xs = numbers_of-permutation xs (top ∷ ys) moved in (
        grind (arith, nat_tests, ap (λ s. set.contains s top.0) same, set.contains-insert nat_cmp_total (numbers_of ys) top.0 top.0, unsigned_tied top.0 top.0),
        λ k below. contains-numbers_of xs k ∙ none_below_top xs top bound k below,
      )
