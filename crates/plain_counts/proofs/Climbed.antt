-- Above tables that are there none is missing.
use Rattle.std.proofs.Common.{◌≡◌, ℕ, zero, suc, ◌+◌, ◌-◌, ◌/◌, ◌^◌, ◌<◌, ◌≤◌, Bool, true, false, not, [], ◌∷◌, refl, sym, ap, subst, ◌∙◌, arith}
use Rattle.std.specs.Prelude.{◌&&◌, ◌||◌}
use Rattle.std.specs.List.{filter}
use Rattle.std.specs.Ordering.{eq_by_cmp}
use Rattle.std.specs.FinSet as set
use Rattle.table_place.specs.declared.Place.{Place}
use Rattle.table_place.specs.Place.{place_cmp, place_of, cut_by}
use Rattle.table_place.proofs.Spans.{quotient_up}
use Rattle.page_map.specs.Tables.{Tables, missing}
use Rattle.page_map.proofs.Wanted.{is_wanted}
use Rattle.page_map.proofs.Unlike.{wanted_filter}
use Rattle.plain_counts.specs.Cut.{is_cut, cut_in_level, with_missing, HaveParents}
use Rattle.plain_counts.proofs.Noted.{noted_not, same_missing, edges, both_noted, cut_below, level_noted, all_noted}

-- what is there is not missing, whether it is wanted or not
pub not_lacked : (wanted there : Bool) → there ≡ true → (wanted && not there) ≡ false
not_lacked true there e = ap not e
not_lacked false there e = refl

pub not_cut : (wanted there : Bool) → wanted ≡ false → (wanted && not there) ≡ false
not_cut wanted there e = ap (λ b. b && not there) e

pub lacked : (wanted there : Bool) → wanted ≡ true → there ≡ false → (wanted && not there) ≡ true
lacked wanted there e f = λ i. e i && not (f i)

-- the tables that have a page in their spans, from one that is there on
module _ (levels : ℕ) (t : Tables) (parents : HaveParents levels t) (space page : ℕ) where
  abbrev is_there : ℕ → Type 0
  is_there level = set.contains t (place_of space level page) ≡ true

  next_up : (level : ℕ) → level < levels → is_there level → is_there (level + 1)
  next_up level low there =
      ap (λ k. set.contains t (record { space = space; level = level + 1; prefix = k })) (quotient_up page level)
      ∙ parents (place_of space level page) there low

  so_many_up : (level more : ℕ) → level + more ≤ levels → is_there level → is_there (level + more)
  so_many_up level zero low there = let e : level ≡ level + 0 = omega arith in subst (λ l. set.contains t (place_of space l page) ≡ true) e there
  so_many_up level (suc more) low there =
      let e : level + more + 1 ≡ level + suc more = omega arith in
      subst (λ l. set.contains t (place_of space l page) ≡ true) e (next_up (level + more) (omega (arith, low)) (so_many_up level more (omega (arith, low)) there))

  pub higher : (level high : ℕ) → level ≤ high → high ≤ levels → set.contains t (place_of space level page) ≡ true → set.contains t (place_of space high page) ≡ true
  higher level high up low there =
      let e : level + (high - level) ≡ high = omega (arith, up) in
      subst (λ l. set.contains t (place_of space l page) ≡ true) e (so_many_up level (high - level) (omega (arith, up, low)) there)

module _ (space first count : ℕ) (some : 0 < count) (t : Tables) where
  -- one level, where both tables at the ends are there
  none_in_level : (level : ℕ) (m : Tables) → set.contains t (place_of space level first) ≡ true → set.contains t (place_of space level (first + count - 1)) ≡ true →
      m ≡ with_missing m (cut_in_level space first count level) t
  none_in_level level m near far =
      let a = place_of space level first in
      let b = place_of space level (first + count - 1) in
      both_noted space level first count some t m m m
      (noted_not t m (is_cut first count) a (not_lacked (is_cut first count a) (set.contains t a) near))
      (noted_not t m (is_cut first count) b (not_lacked (is_cut first count b) (set.contains t b) far))

  -- one level, where they are the same
  pub one_noted : (level : ℕ) (m n : Tables) → first / 512 ^ level ≡ (first + count - 1) / 512 ^ level →
      n ≡ with_missing m (filter (is_cut first count) (place_of space level first ∷ [])) t → n ≡ with_missing m (cut_in_level space first count level) t
  one_noted level m n same e = e ∙ ap (set.union m) (sym single ∙ edges space level first count some t)
    where
      twice : (c : Bool) → (c || (c || false)) ≡ (c || false)
      twice true = refl
      twice false = refl

      once : (q : Place) → is_wanted (place_of space level first ∷ place_of space level (first + count - 1) ∷ []) q ≡ is_wanted (place_of space level first ∷ []) q
      once q =
          ap (λ p. eq_by_cmp place_cmp q (place_of space level first) || (eq_by_cmp place_cmp q p || false)) (λ i. record { space = space; level = level; prefix = sym same i })
          ∙ twice (eq_by_cmp place_cmp q (place_of space level first))

      single : missing (filter (is_cut first count) (place_of space level first ∷ place_of space level (first + count - 1) ∷ [])) t ≡ missing (filter (is_cut first count) (place_of space level first ∷ [])) t
      single = same_missing _ _ t (λ q.
          wanted_filter (is_cut first count) (place_of space level first ∷ place_of space level (first + count - 1) ∷ []) q
          ∙ ap (λ c. c && is_cut first count q) (once q)
          ∙ sym (wanted_filter (is_cut first count) (place_of space level first ∷ []) q))

  module _ (levels level : ℕ) (parents : HaveParents levels t) (near : set.contains t (place_of space level first) ≡ true) (far : set.contains t (place_of space level (first + count - 1)) ≡ true) where
    so_many : (more : ℕ) (m n : Tables) → 1 ≤ level → level + 1 + more ≤ levels → n ≡ with_missing m (cut_below space first count (level + 1)) t →
        n ≡ with_missing m (cut_below space first count (level + 1 + more)) t
    so_many zero m n some_level low e =
        let same : level + 1 ≡ level + 1 + 0 = omega arith in
        e ∙ ap (λ l. with_missing m (cut_below space first count l) t) same
    so_many (suc more) m n some_level low e =
        let last : level + 1 + more + 1 ≡ level + 1 + suc more = omega arith in
        level_noted space first count (level + 1 + more) t m n n (omega arith) (so_many more m n some_level (omega (arith, low)) e)
        (none_in_level (level + 1 + more) n
        (higher levels t parents space first level (level + 1 + more) (omega arith) (omega (arith, low)) near)
        (higher levels t parents space (first + count - 1) level (level + 1 + more) (omega arith) (omega (arith, low)) far))
        ∙ ap (λ l. with_missing m (cut_below space first count l) t) last

    -- all levels, where both are there in one
    pub none_above : (m n : Tables) → 1 ≤ level → level < levels → n ≡ with_missing m (cut_below space first count (level + 1)) t → n ≡ with_missing m (cut_by levels space first count) t
    none_above m n some_level low e =
        let whole : level + 1 + (levels - (level + 1)) ≡ levels = omega (arith, low) in
        all_noted space first count levels t m n
        (so_many (levels - (level + 1)) m n some_level (omega (arith, low)) e ∙ ap (λ l. with_missing m (cut_below space first count l) t) whole)

-- what is the same twice, tested twice
pub both_same : (a b : Bool) → a ≡ b → a ≡ (a && b)
both_same a b e = go a ∙ ap (λ c. a && c) e
  where
    go : (a : Bool) → a ≡ (a && a)
    go true = refl
    go false = refl
