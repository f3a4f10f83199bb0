-- Lemmas on the unused numbers of a list of counts.
use Rattle.std.proofs.Common.{◌≡◌, ℕ, ◌-◌, ◌<◌, ◌≤◌, Bool, true, false, None, Some, cond, eqb, List, length, get_or, set, sym, ap, ◌∙◌, ⊎_elim, lit≤, arith}
use Rattle.std.proofs.lemmas.Bool.Decides.{nat_tests}
use Rattle.std.proofs.lemmas.List.Sums.{position_or_len_is, sum_by-set}
use Rattle.std.proofs.lemmas.Grind.{common_steps}
use Rattle.std.proofs.lemmas.Bool.{cases_lt, cases_eq, false≢true}
use Rattle.std.proofs.lemmas.List.{get_or_past, get_or_default, get_or-set_same, get_or-set_other, length-set}
use Rattle.std.specs.FinSet as finite
use Rattle.std.specs.Ordering.{nat_cmp}
use Rattle.std.specs.Cmp.{nat_cmp_total, unsigned_tied}
use Rattle.free_numbers.specs.Numbers.{NumbersBelow}
use Rattle.free_numbers.specs.FreeNumbers.{IsLeast, without, with_number}
use Rattle.shares.specs.Counts.{AreCounted, count_of, least_unused}

abbrev is_zero : ℕ → Bool
is_zero count = eqb count 0

-- a number that reads as 0 where 1 stands past the end is within the list
within : (counts : List ℕ) (n : ℕ) → is_zero (get_or counts n 1) ≡ true → n < length counts
within counts n zero = ⊎_elim (λ below. below) (λ past. absurd (false≢true (ap is_zero (sym (get_or_past counts n 1 past)) ∙ zero))) (cases_lt n (length counts))

-- the count that was read is 1 where one fewer is none
pub last_owner : (counts : List ℕ) (n read : ℕ) → read ≡ get_or counts n read → 0 < count_of counts n → read - 1 ≡ 0 → count_of counts n ≡ 1
last_owner counts n read is owned none =
    let inside : n < length counts = ⊎_elim (λ below. below) (λ past. absurd (omega (arith, get_or_past counts n 0 past))) (cases_lt n (length counts)) in
    omega (arith, get_or_default counts n read 0 inside)

most-set : (counts : List ℕ) (n count : ℕ) → count ≤ 64 → ((k : ℕ) → count_of counts k ≤ 64) → (k : ℕ) → count_of (set counts n count) k ≤ 64
most-set counts n count small most k = grind (arith, common_steps, most k)

module _ (counts : List ℕ) (unused : NumbersBelow) (kept : AreCounted counts unused) where
  pub least_unused-none : unused.numbers ≡ finite.empty → least_unused counts ≡ None
  least_unused-none none =
      let used : (k : ℕ) → k < length counts → is_zero (get_or counts k 1) ≡ false = λ k _. sym (kept.unused_ones k) ∙ ap (λ s. finite.contains s k) none ∙ finite.contains-empty nat_cmp k in
      let at_end = position_or_len_is is_zero counts (length counts) 1 (omega arith) used (λ past. absurd (omega arith)) in
      grind (arith, nat_tests, at_end)

  module _ (n : ℕ) (least : IsLeast unused.numbers n) where
    pub below_length : n < length counts
    below_length = within counts n (sym (kept.unused_ones n) ∙ least.0)

    pub least_unused-least : least_unused counts ≡ Some n
    least_unused-least =
        let here = position_or_len_is is_zero counts n 1 (omega (arith, below_length)) (λ k below. sym (kept.unused_ones k) ∙ least.1 k below) (λ _. sym (kept.unused_ones n) ∙ least.0) in
        grind (arith, nat_tests, here, below_length)

    pub AreCounted-taken : AreCounted (set counts n 1) (without unused n)
    AreCounted-taken =
        let inside = below_length in
        record {
          limit = kept.limit ∙ sym (length-set counts n 1);
          unused_ones = λ k. ⊎_elim
              (λ same. grind (arith, nat_tests, finite.contains-remove nat_cmp_total unused.numbers n k, unsigned_tied k n, get_or-set_same counts n 1 1 inside))
              (λ other. grind (arith, nat_tests, finite.contains-remove nat_cmp_total unused.numbers n k, unsigned_tied k n, kept.unused_ones k, get_or-set_other counts n k 1 1 other))
              (cases_eq k n);
          unused_count = grind (arith, nat_tests, finite.len-remove nat_cmp_total unused.numbers n, least.0, kept.unused_count, kept.unused_ones n, sum_by-set (λ x. cond (is_zero x) 1 0) counts n 1 1 inside);
          most = most-set counts n 1 (lit≤ tt) kept.most;
        }

  pub AreCounted-dropped : (n left : ℕ) → left ≡ 0 → count_of counts n ≡ 1 → AreCounted (set counts n left) (with_number unused n)
  AreCounted-dropped n left none last =
      let inside : n < length counts = ⊎_elim (λ below. below) (λ past. absurd (omega (arith, get_or_past counts n 0 past))) (cases_lt n (length counts)) in
      let was : get_or counts n 1 ≡ 1 = get_or_default counts n 1 0 inside ∙ last in
      rw none (record {
        limit = kept.limit ∙ sym (length-set counts n 0);
        unused_ones = λ k. ⊎_elim
            (λ same. grind (arith, nat_tests, finite.contains-insert nat_cmp_total unused.numbers n k, unsigned_tied k n, get_or-set_same counts n 0 1 inside))
            (λ other. grind (arith, nat_tests, finite.contains-insert nat_cmp_total unused.numbers n k, unsigned_tied k n, kept.unused_ones k, get_or-set_other counts n k 0 1 other))
            (cases_eq k n);
        unused_count = grind (arith, nat_tests, finite.len-insert nat_cmp_total unused.numbers n, kept.unused_count, kept.unused_ones n, sum_by-set (λ x. cond (is_zero x) 1 0) counts n 0 1 inside);
        most = most-set counts n 0 (lit≤ tt) kept.most;
      })
