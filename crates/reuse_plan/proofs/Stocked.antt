-- The free rows of the book as a list.
use Rattle.std.proofs.Common.{◌≡◌, ◌≢◌, ℕ, ◌+◌, ◌<◌, ◌≤◌, cond, not, eqb, ltb, leb, Bool, true, false, ◌&&◌, List, sym, refl, ap, ◌∙◌, subst, inl, inr, ⊎_elim, arith, eq-eqb, ne_eqb}
use Rattle.std.specs.Prelude.{◌||◌}
use Rattle.std.specs.List.{filter, range_with_len}
use Rattle.std.specs.Ordering.{nat_cmp, eq_by_cmp}
use Rattle.std.specs.Cmp.{nat_cmp_total, unsigned_tied}
use Rattle.std.specs.FinSet as set
use Rattle.std.specs.FinSet.{contains-insert, contains-remove, contains-empty}
use Rattle.std.proofs.lemmas.Bool.{lt-ltb, le-ltb, lt-leb, le-leb, cases_lt, and_from}
use mathlib.Core.Logic.{dite}
use native.Mathlib.Decide.{ℕ_discrete}
use Rattle.free_numbers.specs.Numbers.{NumbersBelow}
use Rattle.free_numbers.specs.FreeNumbers.{without, with_number, none_below}
use Rattle.walk_core.specs.Lists.{times, Has, among}
use Rattle.walk_core.proofs.RowLists.{times-filter, among_true, among_false}
use Rattle.walk_core.proofs.Boot.{times-range_in, times-range_out}
use Rattle.row_layout.specs.Limbo.{LimboList}
use Rattle.reuse_plan.specs.Stock.{StockData, free_list, IsStocked}

-- A set with a number less or more

second : (a b : Bool) → (a && b) ≡ true → b ≡ true
second true b e = e
second false b e = absurd (cc)

abbrev Numbers : Type 0
Numbers = set.FinSet nat_cmp

pub removed : (s : Numbers) (k q : ℕ) → set.contains (set.remove s k) q ≡ (not (eqb q k) && set.contains s q)
removed s k q = contains-remove nat_cmp_total s k q ∙ ap (λ b. not b && set.contains s q) (unsigned_tied q k)

pub inserted : (s : Numbers) (k q : ℕ) → set.contains (set.insert s k) q ≡ (eqb q k || set.contains s q)
inserted s k q = contains-insert nat_cmp_total s k q ∙ ap (λ b. b || set.contains s q) (unsigned_tied q k)

pub was_there : (s : Numbers) (k q : ℕ) → set.contains (set.remove s k) q ≡ true → set.contains s q ≡ true
was_there s k q is = second (not (eqb q k)) (set.contains s q) (sym (removed s k q) ∙ is)

pub is_gone : (s : Numbers) (k : ℕ) → set.contains (set.remove s k) k ≡ false
is_gone s k = removed s k k ∙ ap (λ b. not b && set.contains s k) (eq-eqb k k refl)

pub still_there : (s : Numbers) (k q : ℕ) → q ≢ k → set.contains s q ≡ true → set.contains (set.remove s k) q ≡ true
still_there s k q ne is = removed s k q ∙ (ap (λ b. not b && set.contains s q) (ne_eqb q k ne) ∙ is)

pub stocked_without : (rows : ℕ) (free free' : NumbersBelow) (row : ℕ) (limbo : LimboList) → IsStocked rows free limbo → free' ≡ without free row → IsStocked rows free' limbo
stocked_without rows free free' row limbo old e = record {
  few = old.few;
  limit = ap (λ (n : NumbersBelow). n.limit) e ∙ old.limit;
  room = old.room;
  below = λ r is. old.below r (was_there free.numbers row r (ap (λ (n : NumbersBelow). set.contains n.numbers r) (sym e) ∙ is));
  there = old.there;
}

-- The list of a set

module _ (b : StockData) where
  times_free : (q : ℕ) → times q (free_list b) ≡ cond (set.contains b.free.numbers q) (times q (range_with_len 0 b.free.limit)) 0
  times_free q = times-filter (λ r. set.contains b.free.numbers r) q (range_with_len 0 b.free.limit)

  pub free_once : (q : ℕ) → times q (free_list b) ≤ 1
  free_once q = go (set.contains b.free.numbers q) (times_free q)
    where
      go : (c : Bool) → times q (free_list b) ≡ cond c (times q (range_with_len 0 b.free.limit)) 0 → times q (free_list b) ≤ 1
      go false e = omega arith
      go true e = ⊎_elim
          (λ (low : q < b.free.limit). let one = times-range_in q 0 b.free.limit (omega arith) (omega arith) in omega arith)
          (λ past. let none = times-range_out q 0 b.free.limit (inr (omega arith)) in omega arith)
          (cases_lt q b.free.limit)

  pub has_free : (q : ℕ) → set.contains b.free.numbers q ≡ true → q < b.free.limit → Has (free_list b) q
  has_free q is low =
      let e = times_free q ∙ ap (λ c. cond c (times q (range_with_len 0 b.free.limit)) 0) is in let one = times-range_in q 0 b.free.limit (omega arith) (omega arith) in omega arith

  pub free_has : (q : ℕ) → Has (free_list b) q → set.contains b.free.numbers q ≡ true
  free_has q has = go (set.contains b.free.numbers q) (times_free q)
    where
      go : (c : Bool) → times q (free_list b) ≡ cond c (times q (range_with_len 0 b.free.limit)) 0 → c ≡ true
      go true e = refl
      go false e = absurd (omega (arith, e, has))

  pub free_below : (q : ℕ) → Has (free_list b) q → q < b.free.limit
  free_below q has = ⊎_elim
      (λ (low : q < b.free.limit). low)
      (λ past. let none = times-range_out q 0 b.free.limit (inr (omega arith)) in let e = times_free q ∙ ap (λ c. cond c (times q (range_with_len 0 b.free.limit)) 0) (free_has q has) in absurd (omega arith))
      (cases_lt q b.free.limit)

  pub among_free : (rows : ℕ) → IsStocked rows b.free b.limbo → (q : ℕ) → set.contains b.free.numbers q ≡ among (free_list b) q
  among_free rows old q = go (set.contains b.free.numbers q) refl
    where
      go : (c : Bool) → set.contains b.free.numbers q ≡ c → c ≡ among (free_list b) q
      go true is = sym (among_true (free_list b) q (has_free q is (let low = old.below q is in let same = old.limit in omega arith)))
      go false is = sym (among_false (free_list b) q (times_free q ∙ ap (λ c. cond c (times q (range_with_len 0 b.free.limit)) 0) is))

-- A new book: the rows from 2 on

pub none_from : (limit q : ℕ) → set.contains (none_below limit).numbers q ≡ (leb 2 q && ltb q 2)
none_from limit q = contains-empty nat_cmp q ∙ sym (go (leb 2 q) refl)
  where
    go : (b : Bool) → leb 2 q ≡ b → (b && ltb q 2) ≡ false
    go false is = refl
    go true is = ⊎_elim
        (λ (low : q < 2). let clash : true ≡ false = sym is ∙ lt-leb 2 q low in absurd (cc))
        (λ past. le-ltb q 2 past)
        (cases_lt q 2)

pub one_from : (s t : Numbers) (row q : ℕ) → 2 ≤ row → t ≡ set.insert s row → ((r : ℕ) → set.contains s r ≡ (leb 2 r && ltb r row)) → set.contains t q ≡ (leb 2 q && ltb q (row + 1))
one_from s t row q low e old = ap (λ (n : Numbers). set.contains n q) e ∙ (inserted s row q ∙ (ap (λ b. eqb q row || b) (old q) ∙ dite (ℕ_discrete q row)
    (λ same. ap (λ b. b || (leb 2 q && ltb q row)) (eq-eqb q row same) ∙ sym (and_from (leb 2 q) (ltb q (row + 1)) (le-leb 2 q (omega arith)) (lt-ltb q (row + 1) (omega arith))))
    (λ ne. ap (λ b. b || (leb 2 q && ltb q row)) (ne_eqb q row ne) ∙ ap (λ b. leb 2 q && b) (⊎_elim
    (λ (less : q < row). lt-ltb q row less ∙ sym (lt-ltb q (row + 1) (omega arith)))
    (λ past. le-ltb q row past ∙ sym (le-ltb q (row + 1) (omega arith)))
    (cases_lt q row)))))

pub not_from : (row : ℕ) → (leb 2 row && ltb row row) ≡ false
not_from row = go (leb 2 row)
  where
    go : (b : Bool) → (b && ltb row row) ≡ false
    go true = le-ltb row row (omega arith)
    go false = refl

pub from_below : (rows q : ℕ) → (leb 2 q && ltb q rows) ≡ true → q < rows
from_below rows q is = ⊎_elim
    (λ (low : q < rows). low)
    (λ past. let clash : true ≡ false = sym (second (leb 2 q) (ltb q rows) is) ∙ le-ltb q rows past in absurd (cc))
    (cases_lt q rows)
