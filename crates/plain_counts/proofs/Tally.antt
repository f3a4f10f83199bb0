-- The unused numbers, when the count of one changes.
use Rattle.std.proofs.Common.{◌≡◌, ℕ, zero, suc, ◌+◌, ◌-◌, ◌*◌, ◌^◌, ◌<◌, ◌≤◌, ◌≢◌, Bool, true, false, cond, ◌&&◌, List, [], ◌∷◌, length, get_or, set, replicate, refl, sym, ap, ◌∙◌, arith, length-set, get_or-set_same, get_or-set_other}
use Rattle.std.specs.Prelude.{nat_eq, nat_lt}
use Rattle.std.specs.List.{filter, range_with_len}
use Rattle.std.proofs.lemmas.List.{get_or_past, length-replicate}
use mathlib.Core.Logic.{◌⊎◌, inl, inr}
use Rattle.std.proofs.lemmas.Bool.{cases_lt, cases_eq, and_parts, and_from, both_ways, ltb-true, eqb-true, eq-eqb, ne_eqb, lt-ltb, cond-true, cond-false}
use Rattle.page_map.specs.State.{unused}
use Rattle.plain_counts.specs.Owners.{unused_of, is_unused, bit_of, IsTallied}

-- a number with a count stands in the list of counts
pub counted : (counts : List ℕ) (n : ℕ) → 0 < get_or counts n 0 → n < length counts
counted counts n h = go (cases_lt n (length counts))
  where
    go : (n < length counts) ⊎ (length counts ≤ n) → n < length counts
    go (inl l) = l
    go (inr l) = absurd (omega (arith, h, get_or_past counts n 0 l))

-- the same answers at the numbers of the range
pub same_filter : (p q : ℕ → Bool) (lo len : ℕ) → ((m : ℕ) → lo ≤ m → m < lo + len → p m ≡ q m) → filter p (range_with_len lo len) ≡ filter q (range_with_len lo len)
same_filter p q lo zero h = refl
same_filter p q lo (suc len) h =
    (λ i. cond (h lo (omega arith) (omega arith) i) (lo ∷ same_filter p q (lo + 1) len (λ m a b. h m (omega arith) (omega arith)) i) (same_filter p q (lo + 1) len (λ m a b. h m (omega arith) (omega arith)) i))

-- the first that passes p passes no longer
first_filter : (p q : ℕ → Bool) (n : ℕ) → p n ≡ true → q n ≡ false → ((m : ℕ) → m < n → p m ≡ false) → ((m : ℕ) → m ≢ n → q m ≡ p m) →
    (lo len : ℕ) → lo ≤ n → n < lo + len → filter p (range_with_len lo len) ≡ n ∷ filter q (range_with_len lo len)
first_filter p q n pn qn below others lo zero low high = absurd (omega (arith, low, high))
first_filter p q n pn qn below others lo (suc len) low high =
    elim (cases_eq lo n) [
      | inl e ↦
          ap (λ b. cond b (lo ∷ filter p (range_with_len (lo + 1) len)) (filter p (range_with_len (lo + 1) len))) (ap p e ∙ pn)
          ∙ (λ i. e i ∷ same_filter p q (lo + 1) len (λ m a b. sym (others m (λ f. omega (arith, e, f, a)))) i)
          ∙ ap (λ l. n ∷ l) (ap (λ b. cond b (lo ∷ filter q (range_with_len (lo + 1) len)) (filter q (range_with_len (lo + 1) len))) (sym (ap q e ∙ qn)))
      | inr apart ↦
          let skip : p lo ≡ false = below lo (omega arith) in
          ap (λ b. cond b (lo ∷ filter p (range_with_len (lo + 1) len)) (filter p (range_with_len (lo + 1) len))) skip
          ∙ first_filter p q n pn qn below others (lo + 1) len (omega arith) (omega arith)
          ∙ ap (λ l. n ∷ l) (ap (λ b. cond b (lo ∷ filter q (range_with_len (lo + 1) len)) (filter q (range_with_len (lo + 1) len))) (sym (others lo apart ∙ skip)))
    ]

-- one more passes
more_filter : (p q : ℕ → Bool) (n : ℕ) → p n ≡ false → q n ≡ true → ((m : ℕ) → m ≢ n → q m ≡ p m) →
    (lo len : ℕ) → lo ≤ n → n < lo + len → length (filter q (range_with_len lo len)) ≡ length (filter p (range_with_len lo len)) + 1
more_filter p q n pn qn others lo zero low high = absurd (omega (arith, low, high))
more_filter p q n pn qn others lo (suc len) low high =
    elim (cases_eq lo n) [
      | inl e ↦
          ap (λ b. length (cond b (lo ∷ filter q (range_with_len (lo + 1) len)) (filter q (range_with_len (lo + 1) len)))) (ap q e ∙ qn)
          ∙ ap (λ l. suc (length l)) (same_filter q p (lo + 1) len (λ m a b. others m (λ f. omega (arith, e, f, a))))
          ∙ one _
          ∙ ap (λ b. length (cond b (lo ∷ filter p (range_with_len (lo + 1) len)) (filter p (range_with_len (lo + 1) len))) + 1) (sym (ap p e ∙ pn))
      | inr apart ↦ both (p lo) (q lo) refl refl (others lo apart) (more_filter p q n pn qn others (lo + 1) len (omega arith) (omega arith))
    ]
  where
    one : (a : ℕ) → suc a ≡ a + 1
    one a = omega arith

    both : (a b : Bool) → p lo ≡ a → q lo ≡ b → b ≡ a → length (filter q (range_with_len (lo + 1) len)) ≡ length (filter p (range_with_len (lo + 1) len)) + 1 →
        length (filter q (range_with_len lo (suc len))) ≡ length (filter p (range_with_len lo (suc len))) + 1
    both a b pa qb e h =
        ap (λ x. length (cond x (lo ∷ filter q (range_with_len (lo + 1) len)) (filter q (range_with_len (lo + 1) len)))) (qb ∙ e)
        ∙ joined a _ _ h
        ∙ ap (λ x. length (cond x (lo ∷ filter p (range_with_len (lo + 1) len)) (filter p (range_with_len (lo + 1) len))) + 1) (sym pa)
      where
        joined : (x : Bool) (k l : List ℕ) → length k ≡ length l + 1 → length (cond x (lo ∷ k) k) ≡ length (cond x (lo ∷ l) l) + 1
        joined true k l h = omega (arith, h)
        joined false k l h = h

module _ (counts : List ℕ) (n v : ℕ) (within : n < length counts) where
  at_same : get_or (set counts n v) n 0 ≡ v
  at_same = get_or-set_same counts n v 0 within

  at_other : (m : ℕ) → m ≢ n → get_or (set counts n v) m 0 ≡ get_or counts m 0
  at_other m apart = get_or-set_other counts n m v 0 apart

  pub is_unused-set : (m : ℕ) → is_unused (set counts n v) m ≡ cond (nat_eq m n) (nat_eq v 0) (is_unused counts m)
  is_unused-set m =
      ap (λ l. nat_lt m l && nat_eq (get_or (set counts n v) m 0) 0) (length-set counts n v)
      ∙ elim (cases_eq m n) [
        | inl e ↦ (λ i. lt-ltb m (length counts) (omega arith) i && nat_eq ((ap (λ k. get_or (set counts n v) k 0) e ∙ at_same) i) 0) ∙ sym (cond-true (nat_eq m n) _ _ (eq-eqb m n e))
        | inr apart ↦ ap (λ k. nat_lt m (length counts) && nat_eq k 0) (at_other m apart) ∙ sym (cond-false (nat_eq m n) _ _ (ne_eqb m n apart))
      ]

  -- the least unused number is taken
  pub unused-taken : get_or counts n 0 ≡ 0 → v ≢ 0 → ((m : ℕ) → m < n → get_or counts m 0 ≢ 0) → unused_of counts ≡ n ∷ unused_of (set counts n v)
  unused-taken zero_at used below =
      first_filter (λ m. nat_eq (get_or counts m 0) 0) (λ m. nat_eq (get_or (set counts n v) m 0) 0) n
      (eq-eqb _ 0 zero_at) (ne_eqb _ 0 (λ e. used (sym at_same ∙ e))) (λ m h. ne_eqb _ 0 (below m h)) (λ m apart. ap (λ k. nat_eq k 0) (at_other m apart))
      0 (length counts) (omega arith) (omega arith)
      ∙ ap (λ l. n ∷ unused (λ m. get_or (set counts n v) m 0) l) (sym (length-set counts n v))

  -- a number that stays in use
  pub unused-kept : get_or counts n 0 ≢ 0 → v ≢ 0 → unused_of (set counts n v) ≡ unused_of counts
  unused-kept was used =
      ap (λ l. unused (λ m. get_or (set counts n v) m 0) l) (length-set counts n v)
      ∙ same_filter (λ m. nat_eq (get_or (set counts n v) m 0) 0) (λ m. nat_eq (get_or counts m 0) 0) 0 (length counts) (λ m a b. at m (cases_eq m n))
    where
      at : (m : ℕ) → (m ≡ n) ⊎ (m ≡ n → ⊥) → nat_eq (get_or (set counts n v) m 0) 0 ≡ nat_eq (get_or counts m 0) 0
      at m (inl e) = ne_eqb _ 0 (λ z. used (sym at_same ∙ ap (λ k. get_or (set counts n v) k 0) (sym e) ∙ z)) ∙ sym (ne_eqb _ 0 (λ z. was (ap (λ k. get_or counts k 0) (sym e) ∙ z)))
      at m (inr apart) = ap (λ k. nat_eq k 0) (at_other m apart)

  -- a number that nobody carries any more
  pub unused-more : get_or counts n 0 ≢ 0 → v ≡ 0 → length (unused_of (set counts n v)) ≡ length (unused_of counts) + 1
  unused-more was gone =
      ap (λ l. length (unused (λ m. get_or (set counts n v) m 0) l)) (length-set counts n v)
      ∙ more_filter (λ m. nat_eq (get_or counts m 0) 0) (λ m. nat_eq (get_or (set counts n v) m 0) 0) n
      (ne_eqb _ 0 was) (eq-eqb _ 0 (at_same ∙ gone)) (λ m apart. ap (λ k. nat_eq k 0) (at_other m apart))
      0 (length counts) (omega arith) (omega arith)

-- a list is not longer than the range that it was chosen from
length-filter : (p : ℕ → Bool) (lo len : ℕ) → length (filter p (range_with_len lo len)) ≤ len
length-filter p lo zero = omega arith
length-filter p lo (suc len) = go (p lo) _ (length-filter p (lo + 1) len)
  where
    go : (b : Bool) (l : List ℕ) → length l ≤ len → length (cond b (lo ∷ l) l) ≤ suc len
    go true l h = omega (arith, h)
    go false l h = omega (arith, h)

pub length-unused : (counts : List ℕ) → length (unused_of counts) ≤ length counts
length-unused counts = length-filter (λ n. nat_eq (get_or counts n 0) 0) 0 (length counts)

-- the bits of the unused numbers, when the count of one changes: its bit becomes b
bits_follow : (counts words new : List ℕ) (n v : ℕ) → n < length counts → ((m : ℕ) → bit_of words m ≡ cond (is_unused counts m) 1 0) →
    ((m : ℕ) → bit_of new m ≡ cond (nat_eq m n) (cond (nat_eq v 0) 1 0) (bit_of words m)) → (m : ℕ) → bit_of new m ≡ cond (is_unused (set counts n v) m) 1 0
bits_follow counts words new n v within bits changed m =
    changed m ∙ ap (cond (nat_eq m n) (cond (nat_eq v 0) 1 0)) (bits m) ∙ joined (nat_eq m n) ∙ ap (λ b. cond b 1 0) (sym (is_unused-set counts n v within m))
  where
    joined : (b : Bool) → ◌≡◌ {A = ℕ} (cond b (cond (nat_eq v 0) 1 0) (cond (is_unused counts m) 1 0)) (cond (cond b (nat_eq v 0) (is_unused counts m)) 1 0)
    joined true = refl
    joined false = refl

module _ (counts words : List ℕ) (free n : ℕ) (t : IsTallied counts words free) (within : n < length counts) where
  -- a count that stays above 0
  pub tally-kept : (v : ℕ) → get_or counts n 0 ≢ 0 → v ≢ 0 → IsTallied (set counts n v) words free
  tally-kept v was used = record {
    few = omega (arith, length-set counts n v, t.few);
    room = omega (arith, length-set counts n v, t.room);
    short = t.short;
    bits = bits_follow counts words words n v within t.bits (λ m. same m (cases_eq m n));
    free_is = t.free_is ∙ ap length (sym (unused-kept counts n v within was used));
  }
    where
      same : (m : ℕ) → (m ≡ n) ⊎ (m ≡ n → ⊥) → bit_of words m ≡ cond (nat_eq m n) (cond (nat_eq v 0) 1 0) (bit_of words m)
      same m (inl e) =
          t.bits m
          ∙ ap (λ b. cond (nat_lt m (length counts) && b) 1 0) (ne_eqb _ 0 (λ z. was (ap (λ k. get_or counts k 0) (sym e) ∙ z)))
          ∙ no (nat_lt m (length counts))
          ∙ sym (cond-true (nat_eq m n) _ _ (eq-eqb m n e) ∙ ap (λ b. cond b 1 0) (ne_eqb v 0 used))
        where
          no : (b : Bool) → ◌≡◌ {A = ℕ} (cond (b && false) 1 0) 0
          no true = refl
          no false = refl
      same m (inr apart) = sym (cond-false (nat_eq m n) _ _ (ne_eqb m n apart))

  -- the least unused number is taken
  pub tally-taken : (new : List ℕ) → length new ≡ length words → ((m : ℕ) → bit_of new m ≡ cond (nat_eq m n) 0 (bit_of words m)) →
      get_or counts n 0 ≡ 0 → ((m : ℕ) → m < n → get_or counts m 0 ≢ 0) → IsTallied (set counts n 1) new (free - 1)
  tally-taken new long changed zero_at below = record {
    few = omega (arith, length-set counts n 1, t.few);
    room = omega (arith, length-set counts n 1, t.room, long);
    short = omega (arith, t.short, long);
    bits = bits_follow counts words new n 1 within t.bits changed;
    free_is = omega (arith, t.free_is, ap length (unused-taken counts n 1 within zero_at (λ e. absurd (omega (arith, e))) below));
  }

  -- nobody carries the number any more
  pub tally-more : (new : List ℕ) (v : ℕ) → length new ≡ length words → ((m : ℕ) → bit_of new m ≡ cond (nat_eq m n) 1 (bit_of words m)) →
      get_or counts n 0 ≢ 0 → v ≡ 0 → IsTallied (set counts n v) new (free + 1)
  tally-more new v long changed was gone = record {
    few = omega (arith, length-set counts n v, t.few);
    room = omega (arith, length-set counts n v, t.room, long);
    short = omega (arith, t.short, long);
    bits = bits_follow counts words new n v within t.bits (λ m. changed m ∙ ap (λ b. cond (nat_eq m n) (cond b 1 0) (bit_of words m)) (sym (eq-eqb v 0 gone)));
    free_is = omega (arith, t.free_is, unused-more counts n v within was gone);
  }

  -- where a count is above 0, fewer are unused than there are
  pub free-below : get_or counts n 0 ≢ 0 → free + 1 < 2 ^ 32
  free-below was = omega (arith, t.few, t.free_is, unused-more counts n 0 within was refl, length-unused (set counts n 0), length-set counts n 0)

module _ (counts words : List ℕ) (free : ℕ) (t : IsTallied counts words free) where
  one_or_zero : (b : Bool) → ◌≡◌ {A = ℕ} (cond b 1 0) 1 → b ≡ true
  one_or_zero true e = refl
  one_or_zero false e = absurd (omega (arith, e))

  zero_or_one : (b : Bool) → ◌≡◌ {A = ℕ} (cond b 1 0) 0 → b ≡ false
  zero_or_one false e = refl
  zero_or_one true e = absurd (omega (arith, e))

  -- a number whose bit is 1, and below it none
  pub least-marked : (n : ℕ) → bit_of words n ≡ 1 → ((m : ℕ) → m < n → bit_of words m ≡ 0) →
      (n < length counts) × (get_or counts n 0 ≡ 0) × ((m : ℕ) → m < n → get_or counts m 0 ≢ 0)
  least-marked n one below =
      let both = and_parts (nat_lt n (length counts)) (nat_eq (get_or counts n 0) 0) (one_or_zero _ (sym (t.bits n) ∙ one)) in
      let within = ltb-true n (length counts) both.0 in
      (within, eqb-true _ 0 both.1, λ m h z. both_ways _ (zero_or_one _ (sym (t.bits m) ∙ below m h)) (and_from _ _ (lt-ltb m (length counts) (omega (arith, within, h))) (eq-eqb _ 0 z)))

  pub unused-none : ((n : ℕ) → bit_of words n ≡ 0) → unused_of counts ≡ []
  unused-none none = go 0 (length counts) (omega arith)
    where
      go : (lo len : ℕ) → lo + len ≤ length counts → filter (λ n. nat_eq (get_or counts n 0) 0) (range_with_len lo len) ≡ []
      go lo zero h = refl
      go lo (suc len) h =
          ap (λ b. cond b (lo ∷ filter (λ n. nat_eq (get_or counts n 0) 0) (range_with_len (lo + 1) len)) (filter (λ n. nat_eq (get_or counts n 0) 0) (range_with_len (lo + 1) len)))
          (ne_eqb _ 0 (λ z. both_ways _ (zero_or_one _ (sym (t.bits lo) ∙ none lo)) (and_from _ _ (lt-ltb lo (length counts) (omega arith)) (eq-eqb _ 0 z))))
          ∙ go (lo + 1) len (omega arith)

-- where no number is carried
pub tally-new : (n : ℕ) (words : List ℕ) → n < 2 ^ 32 → n ≤ 64 * length words → length words ≤ 2 ^ 26 → ((m : ℕ) → bit_of words m ≡ cond (nat_lt m n) 1 0) → IsTallied (replicate n 0) words n
tally-new n words few room short bits = record {
  few = omega (arith, length-replicate {A = ℕ} n 0, few);
  room = omega (arith, length-replicate {A = ℕ} n 0, room);
  short = short;
  bits = λ m. bits m ∙ ap (λ b. cond b 1 0) (sym (ap (λ l. nat_lt m l && nat_eq (get_or (replicate n 0) m 0) 0) (length-replicate {A = ℕ} n 0) ∙ at m (nat_lt m n) refl));
  free_is = sym (ap (λ l. length (unused (λ m. get_or (replicate n 0) m 0) l)) (length-replicate {A = ℕ} n 0) ∙ all 0 n);
}
  where
    nothing : (k m : ℕ) → ◌≡◌ {A = ℕ} (get_or (replicate k 0) m 0) 0
    nothing zero m = refl
    nothing (suc k) zero = refl
    nothing (suc k) (suc m) = nothing k m

    at : (m : ℕ) (b : Bool) → nat_lt m n ≡ b → (b && nat_eq (get_or (replicate n 0) m 0) 0) ≡ b
    at m true e = eq-eqb _ 0 (nothing n m)
    at m false e = refl

    all : (lo len : ℕ) → length (filter (λ m. nat_eq (get_or (replicate n 0) m 0) 0) (range_with_len lo len)) ≡ len
    all lo zero = refl
    all lo (suc len) =
        ap (λ b. length (cond b (lo ∷ filter (λ m. nat_eq (get_or (replicate n 0) m 0) 0) (range_with_len (lo + 1) len)) (filter (λ m. nat_eq (get_or (replicate n 0) m 0) 0) (range_with_len (lo + 1) len))))
        (eq-eqb _ 0 (nothing n lo))
        ∙ ap suc (all (lo + 1) len)
