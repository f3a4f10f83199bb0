-- The order of positions.
use Rattle.std.proofs.Common.{◌≡◌, ◌≢◌, ℕ, Bool, true, ◌&&◌, ◌||◌, ◌+◌, ◌-◌, ◌*◌, ◌/◌, ◌%◌, ◌^◌, ◌<◌, ◌≤◌, ◌⊎◌, inl, inr, refl, sym, ap, subst, ◌∙◌, arith}
use Rattle.std.proofs.Math.Nat.{add-mul, mul_assoc, mul-div_cancel, mul-lt-mul_of_pos_right, mod-eq_of_lt}
use Rattle.std.proofs.Math.Pow.{pow-add, pow_mono}
use mathlib.Core.Logic.{dite}
use native.Mathlib.Decide.{ℕ_discrete}
use Rattle.std.proofs.lemmas.Bool.{and_parts, eq-eqb, ltb-true, cases_lt, cond-false, false≢true}
use Rattle.std.specs.Prelude.{nat_eq, nat_lt}
use Rattle.table_place.specs.declared.Place.{Place}
use Rattle.table_place.specs.Place.{span_first, span_count, has_page, is_place, is_directory, directory, entry_place}
use Rattle.table_place.specs.Range.{within}
use Rattle.table_place.proofs.Spans.{span_pos, span_up, level_bits, quotient_low}
use Rattle.table_place.proofs.Entries.{no_directory, page_parts, page_from, page_in_span, span_has_page}
use Rattle.table_place.proofs.Tables.{in_range, to_range}
use Rattle.tree_lock.specs.Zone.{IsTable}
use Rattle.tree_lock.specs.Order.{IsSpelled, IsBefore, IsAround}

-- ---- first pages

pub first_below : (p : Place) → IsSpelled p → span_first p < 2 ^ 128
first_below p s =
    let less : p.prefix * 512 ^ p.level < 2 ^ 45 * 512 ^ p.level = mul-lt-mul_of_pos_right s.prefix (span_pos p.level) in
    let is : 2 ^ 45 * 512 ^ p.level ≡ 2 ^ (45 + 9 * p.level) = ap (λ (n : ℕ). 2 ^ 45 * n) (level_bits p.level) ∙ sym (pow-add 2 45 (9 * p.level)) in
    let wide : 2 ^ (45 + 9 * p.level) ≤ 2 ^ 128 = pow_mono (most p.level s.level) in omega arith
  where
    most : (level : ℕ) → level < 2 ^ 3 → 45 + 9 * level ≤ 128
    most level less = omega arith

-- as it is computed
pub first_shifted : (p : Place) → IsSpelled p → p.prefix * 2 ^ (9 * p.level) % 2 ^ 128 ≡ span_first p
first_shifted p s = ap (λ (n : ℕ). p.prefix * n % 2 ^ 128) (sym (level_bits p.level)) ∙ mod-eq_of_lt (first_below p s)

-- a position is known by its space, its first page and its level
pub same_place : (a b : Place) → a.space ≡ b.space → span_first a ≡ span_first b → a.level ≡ b.level → a ≡ b
same_place a b space first level =
    let second : a.prefix * 512 ^ a.level ≡ b.prefix * 512 ^ a.level = first ∙ ap (λ (n : ℕ). b.prefix * 512 ^ n) (sym level) in
    let prefix : a.prefix ≡ b.prefix = sym (mul-div_cancel a.prefix (span_pos a.level)) ∙ (ap (λ (n : ℕ). n / 512 ^ a.level) second ∙ mul-div_cancel b.prefix (span_pos a.level)) in
    λ i. record { space = space i; level = level i; prefix = prefix i }

-- ---- the order is strict and total

pub before_same : (p : Place) → ¬ IsBefore p p
before_same p b = let less = b.level refl refl in omega arith

pub before_next : (a b c : Place) → IsBefore a b → IsBefore b c → IsBefore a c
before_next a b c p q = record {
  space = omega (arith, p.space, q.space);
  first = λ e. let one = p.space in let two = q.space in let f = p.first (omega arith) in let g = q.first (omega arith) in omega arith;
  level = λ e same. let one = p.space in let two = q.space in let f = p.first (omega arith) in let g = q.first (omega arith) in
      let k = p.level (omega arith) (omega arith) in let l = q.level (omega arith) (omega arith) in omega arith;
}

pub before_or_after : (a b : Place) → a ≢ b → IsBefore a b ⊎ IsBefore b a
before_or_after a b ne = dite (ℕ_discrete a.space b.space)
    (λ e. dite (ℕ_discrete (span_first a) (span_first b))
    (λ f. dite (ℕ_discrete a.level b.level)
    (λ k. absurd (ne (same_place a b e f k)))
    (λ k. by_level e f (cases_lt b.level a.level) k))
    (λ f. by_first e (cases_lt (span_first a) (span_first b)) f))
    (λ e. by_space (cases_lt a.space b.space) e)
  where
    by_level : a.space ≡ b.space → span_first a ≡ span_first b → (b.level < a.level) ⊎ (a.level ≤ b.level) → a.level ≢ b.level → IsBefore a b ⊎ IsBefore b a
    by_level e f (inl less) k = inl (record { space = omega arith; first = λ _. omega arith; level = λ _ _. less })
    by_level e f (inr more) k = inr (record { space = omega arith; first = λ _. omega arith; level = λ _ _. omega arith })

    by_first : a.space ≡ b.space → (span_first a < span_first b) ⊎ (span_first b ≤ span_first a) → span_first a ≢ span_first b → IsBefore a b ⊎ IsBefore b a
    by_first e (inl less) f = inl (record { space = omega arith; first = λ _. omega arith; level = λ _ g. absurd (f g) })
    by_first e (inr more) f = inr (record { space = omega arith; first = λ _. more; level = λ _ g. absurd (f (sym g)) })

    by_space : (a.space < b.space) ⊎ (b.space ≤ a.space) → a.space ≢ b.space → IsBefore a b ⊎ IsBefore b a
    by_space (inl less) e = inl (record { space = omega arith; first = λ g. absurd (e g); level = λ g. absurd (e g) })
    by_space (inr more) e = inr (record { space = more; first = λ g. absurd (e (sym g)); level = λ g. absurd (e (sym g)) })

-- ---- spans

wider_level : (i j : ℕ) → i ≤ j → 512 ^ i ≤ 512 ^ j
wider_level i j h = let more : 9 * i ≤ 9 * j = omega arith in let low = level_bits i in let high = level_bits j in let both = pow_mono more in omega arith

-- the directory has every page
all_pages : (p : Place) (space page : ℕ) → p.level ≡ 6 → has_page p space page ≡ true
all_pages p space page e = ap (λ (b : Bool). b || (nat_eq p.space space && nat_eq (page / 512 ^ p.level) p.prefix)) (eq-eqb p.level 6 e)

-- a level has as many spans as its level below 6 says, and the directory is that of the space 0
record IsRanked (p : Place) : Type 0 where
  space : p.space < 64
  high : p.level ≤ 6
  prefix : p.prefix < 512 ^ (6 - p.level)
  directory : p.level ≡ 6 → p.space ≡ 0

ranked_table : (levels : ℕ) (p : Place) → levels < 6 → is_place levels p ≡ true → IsRanked p
ranked_table levels p few h =
    let outer = and_parts (nat_lt p.space 64) (within 1 levels p.level && nat_lt p.prefix (512 ^ (levels - p.level))) h in
    let inner = and_parts (within 1 levels p.level) (nat_lt p.prefix (512 ^ (levels - p.level))) outer.1 in
    let depth = in_range 1 levels p.level inner.0 in
    let low = depth.0 in let high = depth.1 in
    let wider = wider_level (levels - p.level) (6 - p.level) (fewer levels p.level few) in let prefix = ltb-true p.prefix (512 ^ (levels - p.level)) inner.1 in
    record { space = ltb-true p.space 64 outer.0; high = omega arith; prefix = omega arith; directory = λ e. absurd (omega arith) }
  where
    fewer : (n k : ℕ) → n < 6 → n - k ≤ 6 - k
    fewer n k less = omega arith

ranked : (levels : ℕ) (p : Place) → levels < 6 → IsTable levels p → IsRanked p
ranked levels p few (inl e) = subst IsRanked (sym e) (record { space = omega arith; high = omega arith; prefix = omega arith; directory = λ _. refl })
ranked levels p few (inr h) = ranked_table levels p few h

-- a span that has the pages of another and one more
module _ (a b : Place) (sa : IsRanked a) (sb : IsRanked b) (around : IsAround a b) where
  not_all : b.level ≢ 6
  not_all e = false≢true (sym around.has_not ∙ all_pages b around.space around.page e)

  -- that of the directory
  from_top : a.level ≡ 6 → IsBefore a b
  from_top e =
      let none : a.prefix ≡ 0 = let few = subst (λ (k : ℕ). a.prefix < 512 ^ (6 - k)) e sa.prefix in omega arith in
      let nothing : 0 * 512 ^ a.level ≡ 0 = omega arith in let first : span_first a ≡ 0 = ap (λ (n : ℕ). n * 512 ^ a.level) none ∙ nothing in
      let space = sa.directory e in let high = sb.high in let other = not_all in
      record { space = omega arith; first = λ _. omega arith; level = λ _ _. omega arith }

  -- that of a table of a space, where the other is one of a table too
  from_table : a.level < 6 → b.level < 6 → IsBefore a b
  from_table low low_b = record { space = omega (arith, of_first.0); first = λ _. starts; level = λ _ same. by_level same (cases_lt b.level a.level) }
    where
      of_first : (a.space ≡ b.space) × (span_first b / 512 ^ a.level ≡ a.prefix)
      of_first = page_parts a b.space (span_first b) low (around.each b.space (span_first b) (page_from b b.space (span_first b) low_b refl (mul-div_cancel b.prefix (span_pos b.level))))

      starts : span_first a ≤ span_first b
      starts = subst (λ (n : ℕ). n * 512 ^ a.level ≤ span_first b) of_first.1 (quotient_low (span_first b) a.level)

      by_level : span_first a ≡ span_first b → (b.level < a.level) ⊎ (a.level ≤ b.level) → b.level < a.level
      by_level same (inl less) = less
      by_level same (inr more) =
          let inside = in_range (span_first a) (span_count a) around.page (page_in_span a around.space around.page low around.has) in
          let wider = wider_level a.level b.level more in
          let space = (page_parts a around.space around.page low around.has).0 in
          absurd (false≢true (sym around.has_not ∙ span_has_page b around.space around.page low_b (sym of_first.0 ∙ space)
          (to_range (span_first b) (span_count b) around.page (omega (arith, inside.0)) (omega (arith, inside.1, wider)))))

  ranked_before : IsBefore a b
  ranked_before = dite (ℕ_discrete a.level 6) from_top (λ ne. let high = sa.high in let high_b = sb.high in let other = not_all in from_table (omega arith) (omega arith))

pub around_before : (levels : ℕ) (a b : Place) → levels < 6 → IsTable levels a → IsTable levels b → IsAround a b → IsBefore a b
around_before levels a b few one other around = ranked_before a b (ranked levels a few one) (ranked levels b few other) around

-- ---- which positions can be spelled

pub spelled_directory : IsSpelled directory
spelled_directory = record { level = omega arith; space = omega arith; prefix = omega arith }

pub spelled_table : (levels : ℕ) (p : Place) → levels < 6 → is_place levels p ≡ true → IsSpelled p
spelled_table levels p few h =
    let outer = and_parts (nat_lt p.space 64) (within 1 levels p.level && nat_lt p.prefix (512 ^ (levels - p.level))) h in
    let inner = and_parts (within 1 levels p.level) (nat_lt p.prefix (512 ^ (levels - p.level))) outer.1 in
    let depth = in_range 1 levels p.level inner.0 in
    let low = depth.0 in let high = depth.1 in
    let wider : 512 ^ (levels - p.level) ≤ 512 ^ 5 = wider_level (levels - p.level) 5 (fewer levels p.level few) in let prefix = ltb-true p.prefix (512 ^ (levels - p.level)) inner.1 in
    record { level = omega arith; space = ltb-true p.space 64 outer.0; prefix = omega arith }
  where
    fewer : (n k : ℕ) → n < 6 → n - k ≤ 5
    fewer n k less = omega arith

-- ---- children

pub before_child : (levels i : ℕ) (p : Place) → 1 ≤ p.level → p.level < 6 → IsBefore p (entry_place levels p i)
before_child levels i p low high = subst (λ (q : Place). IsBefore p q) (sym (cond-false (is_directory p) _ _ (no_directory p high))) (record {
  space = omega arith;
  first = λ _. starts;
  level = λ _ _. omega arith;
})
  where
    starts : p.prefix * 512 ^ p.level ≤ (512 * p.prefix + i) * 512 ^ (p.level - 1)
    starts =
        let up : 512 ^ p.level ≡ 512 ^ (p.level - 1) * 512 = ap (λ (n : ℕ). 512 ^ n) (let e : p.level ≡ p.level - 1 + 1 = omega arith in e) ∙ span_up (p.level - 1) in
        let wide : p.prefix * 512 ^ p.level ≡ 512 * p.prefix * 512 ^ (p.level - 1) = ap (λ (n : ℕ). p.prefix * n) up ∙ regroup p.prefix (512 ^ (p.level - 1)) in
        let more = add-mul (512 * p.prefix) i (512 ^ (p.level - 1)) in omega arith
      where
        regroup : (m n : ℕ) → m * (n * 512) ≡ 512 * m * n
        regroup m n = omega (arith, mul_assoc m n 512, mul_assoc 512 m n)
