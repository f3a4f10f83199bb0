-- The tables above one page, from level 1 to the root.
--     tower_has      the table of a level above the page has it
--     closed_up      where one is a table of a state, so is each above it
--     table_above      a table that has the page is one of them
--     wider      the span of a lower one lies in that of a higher one
use Rattle.std.specs.Prelude.{◌≡◌, ℕ, zero, suc, ◌+◌, ◌-◌, ◌/◌, ◌^◌, ◌<◌, ◌≤◌, true}
use Rattle.std.specs.FinSet as set
use Rattle.std.proofs.Common.{sym, refl, ◌∙◌, ap, subst, arith}
use Rattle.page_map.specs.State.{State, IsConsistent, levels}
use Rattle.table_place.specs.declared.Place.{Place}
use Rattle.table_place.specs.Place.{root, place_of, parent, has_page}
use Rattle.table_place.proofs.Spans.{quotient_up, quotient_below}
use Rattle.table_place.proofs.Entries.{page_parts, page_from}

pub up_one : (s k page : ℕ) → parent (place_of s k page) ≡ place_of s (k + 1) page
up_one s k page = ap (λ n. record { space = s; level = k + 1; prefix = n }) (sym (quotient_up page k))

pub closed_up : (st : State) → IsConsistent st → (s k page n : ℕ) → k + n ≤ levels st → set.contains st.tables (place_of s k page) ≡ true → set.contains st.tables (place_of s (k + n) page) ≡ true
closed_up st is s k page zero few there = subst (λ m. set.contains st.tables (place_of s m page) ≡ true) (sym (plain k)) there
  where
    plain : (k : ℕ) → k + 0 ≡ k
    plain k = omega arith
closed_up st is s k page (suc n) few there =
    let next : k + n < levels st = omega (arith, few) in
    let lower = closed_up st is s k page n (omega (arith, few)) there in
    subst (λ m. set.contains st.tables (place_of s m page) ≡ true) (sum k n) (ap (set.contains st.tables) (sym (up_one s (k + n) page)) ∙ is.parents (place_of s (k + n) page) lower next)
  where
    sum : (k n : ℕ) → k + n + 1 ≡ k + suc n
    sum k n = omega arith

-- a table below the directory that has the page
pub table_above : (p : Place) (s page : ℕ) → p.level < 6 → has_page p s page ≡ true → p ≡ place_of s p.level page
table_above p s page low has = let is = page_parts p s page low has in λ i. record { space = is.0 i; level = p.level; prefix = sym is.1 i }

pub tower_has : (s k page : ℕ) → k < 6 → has_page (place_of s k page) s page ≡ true
tower_has s k page low = page_from (place_of s k page) s page low refl refl

pub quotient_on : (x y k n : ℕ) → x / 512 ^ k ≡ y / 512 ^ k → x / 512 ^ (k + n) ≡ y / 512 ^ (k + n)
quotient_on x y k zero same = subst (λ m. x / 512 ^ m ≡ y / 512 ^ m) (sym (plain k)) same
  where
    plain : (k : ℕ) → k + 0 ≡ k
    plain k = omega arith
quotient_on x y k (suc n) same =
    subst (λ m. x / 512 ^ m ≡ y / 512 ^ m) (sum k n) (quotient_up x (k + n) ∙ (ap (λ q. q / 512) (quotient_on x y k n same) ∙ sym (quotient_up y (k + n))))
  where
    sum : (k n : ℕ) → k + n + 1 ≡ k + suc n
    sum k n = omega arith

pub wider : (s k page n : ℕ) → k + n < 6 → (t x : ℕ) → has_page (place_of s k page) t x ≡ true → has_page (place_of s (k + n) page) t x ≡ true
wider s k page n low t x has =
    let is = page_parts (place_of s k page) t x (omega (arith, low)) has in
    page_from (place_of s (k + n) page) t x low is.0 (quotient_on x page k n is.1)

-- user pages lie below the root
pub root_is : (levels s page : ℕ) → page < 512 ^ levels → place_of s levels page ≡ root levels s
root_is levels s page small = ap (λ n. record { space = s; level = levels; prefix = n }) (none (quotient_below levels page levels small (omega arith)))
  where
    none : page / 512 ^ levels < 512 ^ (levels - levels) → page / 512 ^ levels ≡ 0
    none h = omega (arith, h, ap (λ n. 512 ^ n) (gone levels), one)
      where
        gone : (n : ℕ) → n - n ≡ 0
        gone n = omega arith

        one : 512 ^ 0 ≡ 1
        one = refl
