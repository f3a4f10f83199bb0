-- Whether a range of pages has no cell.
use Rattle.std.proofs.Common.{◌≡◌, ℕ, zero, suc, ◌+◌, ◌<◌, ◌≤◌, Bool, true, false, cond, List, [], ◌∷◌, ◌++◌, length, refl, sym, ap, ◌∙◌, arith}
use mathlib.Core.Bool.{true≢false}
use mathlib.Core.Logic.{inl, inr}
use Rattle.std.specs.Prelude.{Option, Some, None, IsSome, ◌&&◌, map, nat_eq}
use Rattle.std.specs.List.{filter}
use Rattle.std.specs.Ordering.{nat_cmp}
use Rattle.std.specs.FinMap as fin
use Rattle.std.specs.FinMap.{FinMap}
use Rattle.std.proofs.lemmas.Bool.{cases_eq, ne_eqb}
use Rattle.std.proofs.lemmas.List.{length-append}
use Rattle.table_place.specs.Range.{within}
use Rattle.page_map.specs.Change.{keys_in}
use Rattle.page_map.specs.State.{AddressSpace}
use Rattle.page_map.specs.Mapping.{is_free}
use Rattle.page_map.proofs.Range.{inside}
use Rattle.page_map.proofs.Keys.{chosen, keys_in_more}

abbrev pub any : {X : Type 0} → X → Bool
any _ = true

empty_range : (low q : ℕ) → within low 0 q ≡ false
empty_range low q = go (within low 0 q) refl
  where
    go : (b : Bool) → within low 0 q ≡ b → within low 0 q ≡ false
    go false e = e
    go true e = absurd (omega (arith, (inside low 0 q e).0, (inside low 0 q e).1))

module _ {X : Type 0} where
  none_of : (low : ℕ) (es : List (ℕ × X)) → map (λ e. e.0) (filter (λ e. within low 0 e.0 && any e.1) es) ≡ []
  none_of low [] = refl
  none_of low (e ∷ es) =
      ap (λ b. map (λ e. e.0) (cond (b && true) (e ∷ filter (λ e. within low 0 e.0 && any e.1) es) (filter (λ e. within low 0 e.0 && any e.1) es))) (empty_range low e.0)
      ∙ none_of low es

  -- no key, where no page of the range has a value
  no_keys : (m : FinMap nat_cmp X) (low n : ℕ) → ((q : ℕ) → low ≤ q → q < low + n → fin.get m q ≡ None) → keys_in m low n any ≡ []
  unfolding chosen
  no_keys m low zero none = none_of low (fin.entries m)
  no_keys m low (suc n) none =
      keys_in_more any m low n
      ∙ (λ i. no_keys m low n (λ q a b. none q a (omega (arith, b))) i ++ chosen any (low + n) (none (low + n) (omega arith) (omega arith) i))

  a_key : (k : ℕ) (o : Option X) → IsSome o → length (chosen any k o) ≡ 1
  unfolding chosen
  a_key k None h = absurd (true≢false (sym h))
  a_key k (Some x) h = refl

  -- a key, where some page of the range has a value
  some_key : (m : FinMap nat_cmp X) (low n q : ℕ) → low ≤ q → q < low + n → IsSome (fin.get m q) → 1 ≤ length (keys_in m low n any)
  some_key m low zero q a b there = absurd (omega (arith, a, b))
  some_key m low (suc n) q a b there =
      let more = ap length (keys_in_more any m low n) ∙ length-append (keys_in m low n any) (chosen any (low + n) (fin.get m (low + n))) in
      elim (cases_eq q (low + n)) [
        | inl e ↦ omega (arith, more, a_key (low + n) (fin.get m (low + n)) (subst_some (ap (fin.get m) e) there))
        | inr apart ↦ omega (arith, more, some_key m low n q a (omega (arith, b, apart)) there)
      ]
    where
      subst_some : {o p : Option X} → o ≡ p → IsSome o → IsSome p
      subst_some e h = cc

pub free_range : (cells : AddressSpace) (low n : ℕ) → ((q : ℕ) → low ≤ q → q < low + n → fin.get cells q ≡ None) → is_free cells low n ≡ true
free_range cells low n none = ap (λ ks. nat_eq (length ks) 0) (no_keys cells low n none)

pub taken_range : (cells : AddressSpace) (low n q : ℕ) → low ≤ q → q < low + n → IsSome (fin.get cells q) → is_free cells low n ≡ false
taken_range cells low n q a b there = ne_eqb _ 0 (λ e. absurd (omega (arith, e, some_key cells low n q a b there)))

-- and so each page of a free range has none
pub none_in_free : (cells : AddressSpace) (low n q : ℕ) → is_free cells low n ≡ true → low ≤ q → q < low + n → fin.get cells q ≡ None
none_in_free cells low n q free a b = go (fin.get cells q) refl
  where
    go : (o : Option _) → fin.get cells q ≡ o → o ≡ None
    go None e = refl
    go (Some c) e = absurd (true≢false (sym_of free (taken_range cells low n q a b (some_of e))))
      where
        sym_of : {x : Bool} → x ≡ true → x ≡ false → true ≡ false
        sym_of h g = cc

        some_of : {o : Option _} → o ≡ Some c → IsSome o
        some_of h = cc
