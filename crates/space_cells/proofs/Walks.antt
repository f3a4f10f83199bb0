-- Going over the held pages of a range, one by one.
--     next_given, none_given, first_number, no_numbers      the numbers from the next held page on;  where no page is held
--     nothing_cleared, one_more, all_cleared      pages that are let go of
use Rattle.std.proofs.Common.{◌≡◌, ℕ, zero, suc, ◌+◌, ◌-◌, ◌<◌, ◌≤◌, Bool, true, false, cond, List, [], ◌∷◌, ◌++◌, append_assoc, refl, sym, ap, ◌∙◌, arith}
use mathlib.Core.Logic.{inl, inr}
use Rattle.std.specs.Prelude.{Option, Some, None}
use Rattle.std.specs.Option.{option_map}
use Rattle.std.specs.List.{cons_option, filter_map, range_with_len}
use Rattle.std.proofs.lemmas.Bool.{cases_eq, cases_lt}
use Rattle.std.proofs.lemmas.List.{append-nil}
use Rattle.space_cells.specs.declared.held.Number.{Number}
use Rattle.space_cells.specs.Held.{HeldPages, held_at, number_held, numbers_held, Clears, IsFirstHeld, Sets}

module _ {B : Type 0} (h : ℕ → Option B) where
  pub filter_none : (first n : ℕ) → ((q : ℕ) → first ≤ q → q < first + n → h q ≡ None) → filter_map h (range_with_len first n) ≡ []
  filter_none first zero none = refl
  filter_none first (suc n) none =
      ap (λ o. cons_option o (filter_map h (range_with_len (first + 1) n))) (none first (omega arith) (omega arith))
      ∙ filter_none (first + 1) n (λ q a b. none q (omega (arith, a)) (omega (arith, b)))

  -- up to the first page that may give something
  pub filter_next : (first n page : ℕ) → first ≤ page → page < first + n → ((q : ℕ) → first ≤ q → q < page → h q ≡ None) →
      filter_map h (range_with_len first n) ≡ cons_option (h page) (filter_map h (range_with_len (page + 1) (first + n - (page + 1))))
  filter_next first zero page low high none = absurd (omega (arith, low, high))
  filter_next first (suc n) page low high none = elim (cases_eq first page) [
    | inl same ↦
        let rest : n ≡ first + suc n - (page + 1) = omega (arith, same) in
        λ i. cons_option (h (same i)) (filter_map h (range_with_len (same i + 1) (rest i)))
    | inr apart ↦
        let rest : first + 1 + n - (page + 1) ≡ first + suc n - (page + 1) = omega arith in
        ap (λ o. cons_option o (filter_map h (range_with_len (first + 1) n))) (none first (omega arith) (omega (arith, low, apart)))
        ∙ filter_next (first + 1) n page (omega (arith, low, apart)) (omega (arith, high)) (λ q a c. none q (omega (arith, a)) c)
        ∙ ap (λ k. cons_option (h page) (filter_map h (range_with_len (page + 1) k))) rest
  ]

module _ (pages : HeldPages) (next end : ℕ) where
  -- what is given from the next held page on, where nothing is given of a page that is not held
  pub next_given : (h : ℕ → Option Number) → ((q : ℕ) → held_at pages q ≡ None → h q ≡ None) → (page : ℕ) (number : Number) → IsFirstHeld pages next end page number →
      filter_map h (range_with_len next (end - next)) ≡ cons_option (h page) (filter_map h (range_with_len (page + 1) (end - (page + 1))))
  next_given h none page number at =
      let count : next + (end - next) ≡ end = omega (arith, at.from, at.before) in
      filter_next h next (end - next) page at.from (omega (arith, at.before, count)) (λ q a b. none q (at.least q a b))
      ∙ ap (λ k. cons_option (h page) (filter_map h (range_with_len (page + 1) (k - (page + 1))))) count

  pub none_given : (h : ℕ → Option Number) → ((q : ℕ) → held_at pages q ≡ None → h q ≡ None) → next ≤ end → ((q : ℕ) → next ≤ q → q < end → held_at pages q ≡ None) →
      (numbers : List Number) → numbers ++ filter_map h (range_with_len next (end - next)) ≡ numbers
  none_given h none low rest numbers =
      ap (λ l. numbers ++ l) (filter_none h next (end - next) (λ q a b. none q (rest q a (omega (arith, b, low))))) ∙ append-nil numbers

  -- the numbers so far, and those from the next held page on
  pub first_number : (page : ℕ) (number : Number) → IsFirstHeld pages next end page number → (numbers : List Number) →
      (numbers ++ number ∷ []) ++ numbers_held pages (page + 1) (end - (page + 1)) ≡ numbers ++ numbers_held pages next (end - next)
  first_number page number at numbers =
      append_assoc numbers (number ∷ []) (numbers_held pages (page + 1) (end - (page + 1)))
      ∙ ap (λ l. numbers ++ l) (sym (next_given (number_held pages) (λ q e. ap (option_map (λ held. held.number)) e) page number at ∙ ap (λ o. cons_option o (numbers_held pages (page + 1) (end - (page + 1)))) at.there))

  pub no_numbers : next ≤ end → ((q : ℕ) → next ≤ q → q < end → held_at pages q ≡ None) → (numbers : List Number) → numbers ++ numbers_held pages next (end - next) ≡ numbers
  no_numbers = none_given (number_held pages) (λ q e. ap (option_map (λ held. held.number)) e)

-- one number more, if it is not passed over
pub passed_over : (is_passed_over : Bool) (number : Number) (numbers rest : List Number) →
    (numbers ++ cond is_passed_over [] (number ∷ [])) ++ rest ≡ numbers ++ cons_option (cond is_passed_over None (Some number)) rest
passed_over is_passed_over number numbers rest = append_assoc numbers (cond is_passed_over [] (number ∷ [])) rest ∙ ap (λ l. numbers ++ l) (go is_passed_over)
  where
    go : (b : Bool) → cond b [] (number ∷ []) ++ rest ≡ cons_option (cond b None (Some number)) rest
    go true = refl
    go false = refl

pub nothing_cleared : (first : ℕ) (pages : HeldPages) → Clears first first pages pages
nothing_cleared first pages = record {
  below = λ q less. refl;
  inside = λ q low high. absurd (omega (arith, low, high));
  above = λ q more. refl;
}

module _ (first next end : ℕ) (low : first ≤ next) (old now : HeldPages) (so_far : Clears first next old now) where
  -- the next held page is let go of
  pub one_more : (page : ℕ) (number : Number) (new : HeldPages) → IsFirstHeld now next end page number → Sets now new page None → Clears first (page + 1) old new
  one_more page number new at sets = record {
    below = λ q less. sets.others q (λ same. absurd (omega (arith, same, less, low, at.from))) ∙ so_far.below q less;
    inside = λ q from to. elim (cases_eq q page) [
      | inl same ↦ ap (held_at new) same ∙ sets.here
      | inr other ↦ sets.others q other ∙ elim (cases_lt q next) [
        | inl before ↦ so_far.inside q from before
        | inr after ↦ at.least q after (omega (arith, to, other))
      ]
    ];
    above = λ q more. sets.others q (λ same. absurd (omega (arith, same, more))) ∙ so_far.above q (omega (arith, more, at.from));
  }

  -- no other page of the range is held
  pub all_cleared : ((q : ℕ) → next ≤ q → q < end → held_at now q ≡ None) → next ≤ end → Clears first end old now
  all_cleared rest room = record {
    below = so_far.below;
    inside = λ q from to. elim (cases_lt q next) [
      | inl before ↦ so_far.inside q from before
      | inr after ↦ rest q after to
    ];
    above = λ q more. so_far.above q (omega (arith, more, room));
  }
