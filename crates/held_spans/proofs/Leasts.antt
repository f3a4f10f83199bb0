-- The least number of a range that passes a test, and ranges of pages of which none has a cell.
--     least_is, least_none      one number passes, and none before it;  no number passes
--     free_range, taken_range      a range without a cell;  a range with one
use Rattle.std.specs.Prelude.{◌≡◌, ℕ, zero, suc, ◌+◌, ◌<◌, ◌≤◌, ◌&&◌, Bool, true, false, cond, List, [], ◌∷◌, ◌++◌, map, length, nat_eq, Option, Some, None, is_some}
use Rattle.std.specs.List.{filter}
use Rattle.std.specs.FinMap as fin
use Rattle.page_map.specs.declared.cell.Cell.{Cell as PageCell}
use Rattle.std.proofs.Common.{sym, refl, ◌∙◌, ap, arith, inl, inr}
use Rattle.std.proofs.lemmas.Bool.{cases_lt, true≢false, false_from_ne_true}
use Rattle.table_place.specs.Range.{within}
use Rattle.table_place.proofs.Tables.{in_range, to_range}
use Rattle.page_map.specs.Change.{keys_in, least}
use Rattle.page_map.specs.Mapping.{is_free}
use Rattle.page_map.specs.State.{AddressSpace}
use Rattle.page_map.proofs.GivenUp.{free_none}
use Rattle.page_map.proofs.Keys.{chosen, keys_in_more}
use Rattle.page_map.proofs.Least.{least_passes, none_below_least, unanswered}
use Rattle.page_map.proofs.Steps.{not_none}

module _ (passes : ℕ → Bool) (first count : ℕ) where
  pub least_is : (n : ℕ) → first ≤ n → n < first + count → passes n ≡ true → ((k : ℕ) → first ≤ k → k < n → passes k ≡ false) → least first count passes ≡ Some n
  least_is n low high is none = go (least first count passes) refl
    where
      failing : (b : Bool) → passes n ≡ b → ◌≡◌ {A = Option ℕ} (cond b (Some n) None) None → b ≡ false
      failing true e h = absurd (not_none h)
      failing false e h = refl

      clash : passes n ≡ false → ⊥
      clash fails = true≢false (sym is ∙ fails)

      same : (m : ℕ) → ((m < n) → ⊥) → ((n < m) → ⊥) → m ≡ n
      same m below above = elim (cases_lt m n) [ inl l ↦ absurd (below l) | inr h ↦ elim (cases_lt n m) [ inl l ↦ absurd (above l) | inr g ↦ omega (arith, h, g) ] ]

      go : (o : Option ℕ) → least first count passes ≡ o → o ≡ Some n
      go None e = absurd (true≢false (sym is ∙ failing (passes n) refl (unanswered (λ m. cond (passes m) (Some m) None) first count e n low high)))
      go (Some m) e =
          let at = least_passes first count passes m e in
          ap Some (same m (λ l. true≢false (sym at.2 ∙ none m at.0 l)) (λ l. clash (none_below_least passes first count m n e low l)))

  pub least_none : ((k : ℕ) → first ≤ k → k < first + count → passes k ≡ false) → least first count passes ≡ None
  least_none none = go (least first count passes) refl
    where
      go : (o : Option ℕ) → least first count passes ≡ o → o ≡ None
      go None e = refl
      go (Some m) e = let at = least_passes first count passes m e in absurd (true≢false (sym at.2 ∙ none m at.0 at.1))

module _ (cells : AddressSpace) where
  no_keys : (first count : ℕ) → ((q : ℕ) → first ≤ q → q < first + count → fin.get cells q ≡ None) → keys_in cells first count (λ _. true) ≡ []
  unfolding chosen
  no_keys first zero none = nothing (fin.entries cells)
    where
      outside : (q : ℕ) → within first 0 q ≡ false
      outside q = false_from_ne_true _ (λ w. let at = in_range first 0 q w in absurd (omega (arith, at.0, at.1)))

      nothing : (es : List (ℕ × PageCell)) → map (λ e. e.0) (filter (λ e. within first 0 e.0 && true) es) ≡ []
      nothing [] = refl
      nothing (e ∷ es) =
          ap (λ b. map (λ e. e.0) (cond (b && true) (e ∷ filter (λ e. within first 0 e.0 && true) es) (filter (λ e. within first 0 e.0 && true) es))) (outside e.0) ∙ nothing es
  no_keys first (suc n) none =
      keys_in_more (λ _. true) cells first n
      ∙ (λ i. no_keys first n (λ q low high. none q low (omega (arith, high))) i ++ chosen (λ _. true) (first + n) (none (first + n) (omega arith) (omega arith) i))

  pub free_range : (first count : ℕ) → ((q : ℕ) → first ≤ q → q < first + count → fin.get cells q ≡ None) → is_free cells first count ≡ true
  free_range first count none = ap (λ ks. nat_eq (length ks) 0) (no_keys first count none)

  pub taken_range : (first count q : ℕ) → first ≤ q → q < first + count → is_some (fin.get cells q) ≡ true → is_free cells first count ≡ false
  taken_range first count q low high there = false_from_ne_true _ (λ free. true≢false (sym there ∙ ap is_some (free_none cells first count q free (to_range first count q low high))))
