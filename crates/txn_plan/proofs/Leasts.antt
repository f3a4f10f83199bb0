-- The least page of a piece that has a cell after operations, or that has none.
use Rattle.std.proofs.Common.{◌≡◌, ℕ, ◌+◌, ◌-◌, ◌<◌, ◌≤◌, Bool, true, false, List, refl, sym, ap, ◌∙◌, arith}
use mathlib.Core.Bool.{beq, true≢false}
use mathlib.Core.Logic.{◌⊎◌, inl, inr}
use Rattle.std.specs.Prelude.{Option, Some, None, is_some}
use Rattle.std.specs.Option.{unwrap_or}
use Rattle.std.specs.FinMap.{get}
use Rattle.std.proofs.lemmas.Bool.{cases_lt}
use Rattle.corten_base.specs.declared.calls.TxnOp.{TxnOp}
use Rattle.page_map.specs.Change.{least}
use Rattle.page_map.specs.Mapping.{after_ops}
use Rattle.page_map.specs.State.{AddressSpace}
use Rattle.page_map.proofs.Least.{least_passes, none_below_least}
use Rattle.plain_counts.proofs.Least.{least_is, least_none}
use Rattle.plain_spaces.proofs.Nexts.{none_passes}
use Rattle.txn_plan.specs.Covers.{covered, is_as}
use Rattle.txn_plan.proofs.Covering.{presence}

-- two tests that agree over a range have the same least number there
pub least_same : (f g : ℕ → Bool) (first count : ℕ) → ((q : ℕ) → first ≤ q → q < first + count → f q ≡ g q) → least first count f ≡ least first count g
least_same f g first count same = go (least first count f) refl
  where
    go : (o : Option ℕ) → least first count f ≡ o → o ≡ least first count g
    go (Some n) e =
        let at = least_passes first count f n e in
        sym (least_is g first count n at.0 at.1 (sym (same n at.0 at.1) ∙ at.2) (λ k low high. sym (same k low (omega (arith, high, at.1))) ∙ none_below_least f first count n k e low high))
    go None e = sym (least_none g first count (λ k low high. sym (same k low high) ∙ none_passes f first count e k low high))

module _ (os : List TxnOp) (cells : AddressSpace) (present : Bool) where
  abbrev pub passes : ℕ → Bool
  passes q = is_as present (is_some (get (after_ops os cells) q))

  settled_at : (q : ℕ) (b : Bool) → covered os q ≡ Some b → passes q ≡ is_as present b
  settled_at q b e = ap (is_as present) (presence os cells q ∙ ap (λ o. unwrap_or o (is_some (get cells q))) e)

  is_one : (p b : Bool) → beq b p ≡ true → is_as p b ≡ true
  is_one true true e = refl
  is_one false false e = refl
  is_one true false e = absurd (true≢false (sym e))
  is_one false true e = absurd (true≢false (sym e))

  is_none : (p b : Bool) → beq b p ≡ false → is_as p b ≡ false
  is_none true true e = absurd (true≢false e)
  is_none false false e = absurd (true≢false e)
  is_none true false e = refl
  is_none false true e = refl

  module _ (first end : ℕ) where
    pub settled_here : (b : Bool) → first < end → Some b ≡ covered os first → beq b present ≡ true → Some first ≡ least first (end - first) passes
    settled_here b some e same =
        sym (least_is passes first (end - first) first (omega arith) (omega (arith, some)) (settled_at first b (sym e) ∙ is_one present b same) (λ k low high. absurd (omega (arith, low, high))))

    module _ (same : (q : ℕ) → first ≤ q → q < end → covered os q ≡ covered os first) where
      pub settled_nowhere : (b : Bool) → Some b ≡ covered os first → beq b present ≡ false → None ≡ least first (end - first) passes
      settled_nowhere b e other =
          sym (least_none passes first (end - first) (λ k low high. settled_at k b (same k low (omega (arith, low, high)) ∙ sym e) ∙ is_none present b other))

      pub unsettled : None ≡ covered os first → least first (end - first) (λ q. is_as present (is_some (get cells q))) ≡ least first (end - first) passes
      unsettled e = least_same _ passes first (end - first) (λ q low high.
          ap (is_as present) (sym (presence os cells q ∙ ap (λ o. unwrap_or o (is_some (get cells q))) (same q low (omega (arith, low, high)) ∙ sym e))))

  -- the pages before a piece are none, and then those of the piece
  pub none_more : (first next edge : ℕ) → ((q : ℕ) → first ≤ q → q < next → passes q ≡ false) → None ≡ least next (edge - next) passes → (q : ℕ) → first ≤ q → q < edge → passes q ≡ false
  none_more first next edge none e q low high = elim (cases_lt q next) [
    | inl before ↦ none q low before
    | inr after ↦ none_passes passes next (edge - next) (sym e) q after (omega (arith, after, high))
  ]

  -- the first of a piece is the first of all
  pub first_found : (first next edge end page : ℕ) → first ≤ next → edge ≤ end → ((q : ℕ) → first ≤ q → q < next → passes q ≡ false) → Some page ≡ least next (edge - next) passes →
      Some page ≡ least first (end - first) passes
  first_found first next edge end page low high none e =
      let at = least_passes next (edge - next) passes page (sym e) in
      sym (least_is passes first (end - first) page (omega (arith, low, at.0)) (omega (arith, at.0, at.1, high, low)) at.2 (λ k a b. before k a b (cases_lt k next)))
    where
      before : (k : ℕ) → first ≤ k → k < page → (k < next) ⊎ (next ≤ k) → passes k ≡ false
      before k a b (inl h) = none k a h
      before k a b (inr h) = none_below_least passes next (edge - next) page k (sym e) h b
