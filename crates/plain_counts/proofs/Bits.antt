-- Bits of numbers in words of 64.
use Rattle.std.proofs.Common.{◌≡◌, ℕ, ◌+◌, ◌-◌, ◌*◌, ◌/◌, ◌%◌, ◌^◌, ◌<◌, ◌≤◌, ◌≢◌, cond, List, [], ◌∷◌, ◌++◌, replicate, length, get_or, set, sym, ap, ◌∙◌, arith, get_or-set_same, get_or-set_other, w64}
use Rattle.std.specs.Prelude.{nat_eq, nat_lt}
use mathlib.Core.Logic.{◌⊎◌, inl, inr}
use Rattle.std.specs.Int.{bit_at, trailing_zeros}
use Rattle.std.proofs.lemmas.List.{get_or_past, get_or_at, get_or_append_left, get_or-replicate, length-replicate, length-append}
use Rattle.std.proofs.lemmas.Nat.Bits.{bit_at-trailing_zeros, bit_at-zero, bit_at_ones, bit_at_ones_above}
use Rattle.std.proofs.lemmas.Bool.{cases_eq, cases_lt, cases_order, lt-ltb, le-ltb, eq-eqb, ne_eqb, cond-true, cond-false}
use Rattle.plain_counts.specs.Owners.{bit_of}

-- a word is replaced by one that differs at one bit at most
pub bit_of-set : (ws : List ℕ) (k v b : ℕ) → k / 64 < length ws → bit_at v (k % 64) ≡ b →
    ((i : ℕ) → i < 64 → i ≢ k % 64 → bit_at v i ≡ bit_at (get_or ws (k / 64) 0) i) →
    (n : ℕ) → bit_of (set ws (k / 64) v) n ≡ cond (nat_eq n k) b (bit_of ws n)
unfolding bit_of
bit_of-set ws k v b inside here others n =
    elim (cases_eq n k) [
      | inl same ↦ ap (λ m. bit_at (get_or (set ws (k / 64) v) (m / 64) 0) (m % 64)) same
          ∙ ap (λ w. bit_at w (k % 64)) (get_or-set_same ws (k / 64) v 0 inside) ∙ here ∙ sym (cond-true (nat_eq n k) b _ (eq-eqb n k same))
      | inr apart ↦ other apart (cases_eq (n / 64) (k / 64)) ∙ sym (cond-false (nat_eq n k) b _ (ne_eqb n k apart))
    ]
  where
    other : (n ≡ k → ⊥) → (n / 64 ≡ k / 64) ⊎ (n / 64 ≡ k / 64 → ⊥) → bit_at (get_or (set ws (k / 64) v) (n / 64) 0) (n % 64) ≡ bit_at (get_or ws (n / 64) 0) (n % 64)
    other apart (inl word) =
        ap (λ m. bit_at (get_or (set ws (k / 64) v) m 0) (n % 64)) word
        ∙ ap (λ w. bit_at w (n % 64)) (get_or-set_same ws (k / 64) v 0 inside)
        ∙ others (n % 64) (omega arith) (λ e. apart (omega arith))
        ∙ ap (λ m. bit_at (get_or ws m 0) (n % 64)) (sym word)
    other apart (inr word) = ap (λ w. bit_at w (n % 64)) (get_or-set_other ws (k / 64) (n / 64) v 0 word)

-- the lowest 1 of a word above 0, where all words before it are 0
pub lowest_found : (ws : List ℕ) (k : ℕ) → 0 < get_or ws k 0 → get_or ws k 0 < 2 ^ 64 → ((j : ℕ) → j < k → get_or ws j 0 ≡ 0) →
    (bit_of ws (64 * k + trailing_zeros w64 (get_or ws k 0)) ≡ 1) × ((m : ℕ) → m < 64 * k + trailing_zeros w64 (get_or ws k 0) → bit_of ws m ≡ 0)
unfolding bit_of
lowest_found ws k above fits before = (
  (λ i. bit_at (get_or ws (whole z found.0 i) 0) (rest z found.0 i)) ∙ found.1,
  λ m h. at m h (cases_lt (m / 64) k),
)
  where
    z : ℕ
    z = trailing_zeros w64 (get_or ws k 0)

    found : (z < 64) × (bit_at (get_or ws k 0) z ≡ 1) × ((i : ℕ) → i < z → bit_at (get_or ws k 0) i ≡ 0)
    found = bit_at-trailing_zeros w64 (get_or ws k 0) above fits

    whole : (r : ℕ) → r < 64 → (64 * k + r) / 64 ≡ k
    whole r h = omega arith

    rest : (r : ℕ) → r < 64 → (64 * k + r) % 64 ≡ r
    rest r h = omega arith

    at : (m : ℕ) → m < 64 * k + z → (m / 64 < k) ⊎ (k ≤ m / 64) → bit_at (get_or ws (m / 64) 0) (m % 64) ≡ 0
    at m h (inl lower) = ap (λ w. bit_at w (m % 64)) (before (m / 64) lower) ∙ bit_at-zero (m % 64)
    at m h (inr upper) =
        let here : m / 64 ≡ k = omega (arith, h, found.0, upper) in
        ap (λ w. bit_at (get_or ws w 0) (m % 64)) here ∙ found.2 (m % 64) (omega (arith, here, h))

pub none_found : (ws : List ℕ) → ((j : ℕ) → j < length ws → get_or ws j 0 ≡ 0) → (n : ℕ) → bit_of ws n ≡ 0
unfolding bit_of
none_found ws all n = ap (λ w. bit_at w (n % 64)) (at (cases_lt (n / 64) (length ws))) ∙ bit_at-zero (n % 64)
  where
    at : (n / 64 < length ws) ⊎ (length ws ≤ n / 64) → get_or ws (n / 64) 0 ≡ 0
    at (inl l) = all (n / 64) l
    at (inr l) = get_or_past ws (n / 64) 0 l

-- the first n bits are 1
pub bit_of-first : (n : ℕ) (m : ℕ) → bit_of (replicate (n / 64) 18446744073709551615 ++ (2 ^ (n % 64) - 1) ∷ []) m ≡ cond (nat_lt m n) 1 0
unfolding bit_of
bit_of-first n m = by_word (cases_order (m / 64) (n / 64))
  where
    ws : List ℕ
    ws = replicate (n / 64) 18446744073709551615 ++ (2 ^ (n % 64) - 1) ∷ []

    by_word : ((m / 64 ≡ n / 64) ⊎ ((m / 64 < n / 64) ⊎ (n / 64 < m / 64))) → bit_at (get_or ws (m / 64) 0) (m % 64) ≡ cond (nat_lt m n) 1 0
    by_word (inl here) =
        ap (λ w. bit_at w (m % 64)) (get_or_at (replicate (n / 64) 18446744073709551615) (2 ^ (n % 64) - 1) [] 0 (m / 64) (length-replicate {A = ℕ} (n / 64) 18446744073709551615 ∙ sym here))
        ∙ by_bit (cases_lt (m % 64) (n % 64))
      where
        by_bit : (m % 64 < n % 64) ⊎ (n % 64 ≤ m % 64) → bit_at (2 ^ (n % 64) - 1) (m % 64) ≡ cond (nat_lt m n) 1 0
        by_bit (inl l) = bit_at_ones (n % 64) (m % 64) l ∙ sym (cond-true _ _ _ (lt-ltb m n (omega (arith, here, l))))
        by_bit (inr l) = bit_at_ones_above (n % 64) (m % 64) l ∙ sym (cond-false _ _ _ (le-ltb m n (omega (arith, here, l))))
    by_word (inr (inl lower)) =
        ap (λ w. bit_at w (m % 64)) (get_or_append_left (replicate (n / 64) 18446744073709551615) _ 0 (m / 64) (omega (arith, lower, length-replicate {A = ℕ} (n / 64) 18446744073709551615))
        ∙ get_or-replicate (n / 64) (m / 64) 18446744073709551615 0 lower)
        ∙ bit_at_ones 64 (m % 64) (omega arith) ∙ sym (cond-true _ _ _ (lt-ltb m n (omega (arith, lower))))
    by_word (inr (inr upper)) =
        ap (λ w. bit_at w (m % 64)) (get_or_past ws (m / 64) 0 (omega (arith, upper, length-append (replicate (n / 64) 18446744073709551615) ((2 ^ (n % 64) - 1) ∷ []), length-replicate {A = ℕ} (n / 64) 18446744073709551615)))
        ∙ bit_at-zero (m % 64) ∙ sym (cond-false _ _ _ (le-ltb m n (omega (arith, upper))))
