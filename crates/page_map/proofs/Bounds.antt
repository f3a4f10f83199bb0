-- At most as many pages of a space carry a number as there are numbers.
use Rattle.std.proofs.Common.{◌≡◌, ℕ, zero, suc, ◌+◌, ◌<◌, ◌≤◌, Bool, true, false, cond, List, [], ◌∷◌, length, refl, sym, ap, subst, ◌∙◌, arith}
use mathlib.Core.Bool.{true≢false}
use mathlib.Core.Logic.{inl, inr}
use Rattle.std.specs.Prelude.{Option, Some, None, is_some, ◌&&◌, map, nat_eq}
use Rattle.std.specs.Option.{option_map_or, unwrap_or}
use Rattle.std.specs.List.{sum_by, count_by, filter, range_with_len, AllByRecursion}
use Rattle.std.specs.Cmp.{nat_eq_equiv}
use Rattle.std.proofs.lemmas.Bool.{cases_eq}
use Rattle.std.proofs.lemmas.List.{length-map}
use Rattle.std.proofs.lemmas.List.Sums.{sum_by-cons}
use Rattle.std.specs.FinMap as fin
use Rattle.std.specs.FinMap.{get}
use Rattle.table_place.specs.Range.{within}
use Rattle.page_map.specs.declared.cell.Cell.{Cell}
use Rattle.page_map.specs.Change.{keys_in}
use Rattle.page_map.specs.State.{State, AddressSpace, SharersAgree, space_at, cell_at, carries}
use Rattle.page_map.proofs.Few.{each_entry, one_each}

sum_added : (f g : ℕ → ℕ) (low n : ℕ) → sum_by (λ k. f k + g k) (range_with_len low n) ≡ sum_by f (range_with_len low n) + sum_by g (range_with_len low n)
sum_added f g low zero = refl
sum_added f g low (suc n) =
    omega (arith, sum_by-cons (λ k. f k + g k) low (range_with_len (low + 1) n), sum_by-cons f low (range_with_len (low + 1) n), sum_by-cons g low (range_with_len (low + 1) n), sum_added f g (low + 1) n)

sum_at : (f : ℕ → ℕ) (low n m : ℕ) → low ≤ m → m < low + n → f m ≤ sum_by f (range_with_len low n)
sum_at f low zero m a b = absurd (omega (arith, a, b))
sum_at f low (suc n) m a b = elim (cases_eq m low) [
  | inl same ↦ omega (arith, sum_by-cons f low (range_with_len (low + 1) n), ap f same)
  | inr apart ↦ omega (arith, sum_by-cons f low (range_with_len (low + 1) n), sum_at f (low + 1) n m (later apart) (omega (arith, b)))
]
  where
    later : (m ≡ low → ⊥) → low + 1 ≤ m
    later apart = omega (arith, a, apart)

sum_small : (f : ℕ → ℕ) → ((k : ℕ) → f k ≤ 1) → (low n : ℕ) → sum_by f (range_with_len low n) ≤ n
sum_small f small low zero = omega arith
sum_small f small low (suc n) = omega (arith, sum_by-cons f low (range_with_len (low + 1) n), small low, sum_small f small (low + 1) n)

module _ (number_of : Cell → Option ℕ) (limit : ℕ) where
  -- how many numbers the cells of a list carry together
  total : List (ℕ × Cell) → ℕ
  total es = sum_by (λ n. count_by (carries number_of n) (map (λ e. e.1) es)) (range_with_len 0 limit)

  total_cons : (e : ℕ × Cell) (es : List (ℕ × Cell)) → total (e ∷ es) ≡ sum_by (λ n. cond (carries number_of n e.1) 1 0) (range_with_len 0 limit) + total es
  unfolding total
  total_cons e es =
      (λ i. sum_by (λ n. sum_by-cons (λ c. cond (carries number_of n c) 1 0) e.1 (map (λ e. e.1) es) i) (range_with_len 0 limit))
      ∙ sum_added (λ n. cond (carries number_of n e.1) 1 0) (λ n. count_by (carries number_of n) (map (λ e. e.1) es)) 0 limit

  module _ (first count : ℕ) (passes : Cell → Bool) where
    abbrev pub HasNumber : Cell → Type 0
    HasNumber c = passes c ≡ true → (m : ℕ) × (number_of c ≡ Some m) × (m < limit)

    passing_few : (es : List (ℕ × Cell)) → AllByRecursion (λ (e : ℕ × Cell). HasNumber e.1) es → count_by passes (map (λ e. e.1) es) ≤ total es
    unfolding total
    passing_few [] h = omega arith
    passing_few (e ∷ es) h = omega (arith, sum_by-cons (λ c. cond (passes c) 1 0) e.1 (map (λ e. e.1) es), total_cons e es, passing_few es h.1, here (passes e.1) refl)
      where
        here : (b : Bool) → passes e.1 ≡ b → cond b 1 0 ≤ sum_by (λ n. cond (carries number_of n e.1) 1 0) (range_with_len 0 limit)
        here false is = omega arith
        here true is =
            let m = h.0 is in
            let one : ◌≡◌ {A = ℕ} (cond (carries number_of m.0 e.1) 1 0) 1 = ap (λ b. cond b 1 0) (ap (λ o. option_map_or (λ k. nat_eq k m.0) o false) m.1 ∙ nat_eq_equiv.refl m.0) in
            omega (arith, one, sum_at (λ n. cond (carries number_of n e.1) 1 0) 0 limit m.0 (omega arith) (omega (arith, m.2)))

    cells_few : (cells : AddressSpace) → ((n : ℕ) → count_by (carries number_of n) (fin.values cells) ≤ 1) → ((q : ℕ) (c : Cell) → get cells q ≡ Some c → HasNumber c) →
        count_by passes (fin.values cells) ≤ limit
    unfolding total
    cells_few cells one numbered =
        let few = passing_few (fin.entries cells) (each_entry (λ q c. HasNumber c) cells numbered) in
        let small = sum_small (λ n. count_by (carries number_of n) (fin.values cells)) one 0 limit in
        omega (arith, few, small)

    -- those of a range are some of all
    of_range : (es : List (ℕ × Cell)) → length (filter (λ e. within first count e.0 && passes e.1) es) ≤ count_by passes (map (λ e. e.1) es)
    of_range [] = omega arith
    of_range (e ∷ es) = go (within first count e.0) (passes e.1) refl (of_range es)
      where
        go : (a b : Bool) → passes e.1 ≡ b → length (filter (λ e. within first count e.0 && passes e.1) es) ≤ count_by passes (map (λ e. e.1) es) →
            length (cond (a && b) (e ∷ filter (λ e. within first count e.0 && passes e.1) es) (filter (λ e. within first count e.0 && passes e.1) es)) ≤ count_by passes (map (λ e. e.1) (e ∷ es))
        go false b is few = omega (arith, few, sum_by-cons (λ c. cond (passes c) 1 0) e.1 (map (λ e. e.1) es))
        go true false is few = omega (arith, few, sum_by-cons (λ c. cond (passes c) 1 0) e.1 (map (λ e. e.1) es))
        go true true is few =
            let one : ◌≡◌ {A = ℕ} (cond (passes e.1) 1 0) 1 = ap (λ b. cond b 1 0) is in
            omega (arith, few, one, sum_by-cons (λ c. cond (passes c) 1 0) e.1 (map (λ e. e.1) es))

    range_few : (cells : AddressSpace) → count_by passes (fin.values cells) ≤ limit → length (keys_in cells first count passes) ≤ limit
    range_few cells few = omega (arith, few, of_range (fin.entries cells), length-map (filter (λ e. within first count e.0 && passes e.1) (fin.entries cells)) (λ (e : ℕ × Cell). e.0))

    pub few_pass : (st : State) (space : ℕ) (cells : AddressSpace) → get st.spaces space ≡ Some cells → SharersAgree number_of st →
        ((q : ℕ) (c : Cell) → get cells q ≡ Some c → HasNumber c) → length (keys_in cells first count passes) ≤ limit
    few_pass st space cells here shared numbered = range_few cells (cells_few cells (λ n.
        subst (λ (m : AddressSpace). count_by (carries number_of n) (fin.values m) ≤ 1) (ap (λ (o : Option AddressSpace). unwrap_or o fin.empty) here) (one_each number_of n st shared space)) numbered)

    -- the same of a space, present or absent, of which each number is below the limit
    module _ (st : State) (space : ℕ) (shared : SharersAgree number_of st) (low : (s p n : ℕ) (c : Cell) → cell_at st s p ≡ Some c → number_of c ≡ Some n → n < limit)
        (gives : (c : Cell) → passes c ≡ true → is_some (number_of c) ≡ true) where
      pub few_numbered : count_by passes (fin.values (space_at st space)) ≤ limit
      few_numbered = cells_few (space_at st space) (λ n. one_each number_of n st shared space) (λ q c e is. go q c e (number_of c) refl (gives c is))
        where
          go : (q : ℕ) (c : Cell) → cell_at st space q ≡ Some c → (o : Option ℕ) → number_of c ≡ o → is_some o ≡ true → (m : ℕ) × (number_of c ≡ Some m) × (m < limit)
          go q c e None has h = absurd (true≢false (sym h))
          go q c e (Some m) has h = (m, has, low space q m c e has)

      pub few_numbered_in : length (keys_in (space_at st space) first count passes) ≤ limit
      few_numbered_in = range_few (space_at st space) few_numbered
