-- The least page of a range with a cell, without one, and with a frame or a slot, by marks and held pages.
use Rattle.std.proofs.Common.{◌≡◌, ℕ, ◌+◌, ◌-◌, ◌^◌, ◌<◌, ◌≤◌, Bool, true, false, cond, refl, sym, ap, ◌∙◌, arith}
use mathlib.Core.Bool.{true≢false}
use mathlib.Core.Logic.{inl, inr}
use Rattle.std.specs.Prelude.{Option, Some, None, IfSome, IfNone, IsSome, is_some, is_none}
use Rattle.std.specs.Option.{option_map}
use Rattle.std.specs.FinMap.{get}
use Rattle.std.proofs.lemmas.Bool.{cases_lt}
use Rattle.page_map.specs.Change.{earliest, least}
use Rattle.page_map.specs.Mapping.{arena_first, gap, is_free}
use Rattle.page_map.specs.State.{AddressSpace}
use Rattle.page_map.proofs.Least.{least_passes, none_below_least, unanswered}
use Rattle.page_runs.specs.Spans.{Marks}
use Rattle.page_runs.specs.Runs.{is_vacant}
use Rattle.plain_counts.specs.Fronts.{IsFull}
use Rattle.plain_counts.proofs.Least.{earliest_is, earliest_none, least_is, least_none}
use Rattle.plain_counts.proofs.Free.{free_range, taken_range}
use Rattle.space_cells.specs.declared.held.Number.{Number}
use Rattle.space_cells.specs.declared.held.HeldPage.{HeldPage}
use Rattle.space_cells.specs.Held.{HeldPages, held_at, IsFirstHeld}
use Rattle.space_cells.specs.Cells.{HaveMarks, cells_of, numbered_page}
use Rattle.space_cells.proofs.Seen.{number_seen, same_none, same_some}

pub none_from : {A : Type 0} (o : Option A) → is_some o ≡ false → o ≡ None
none_from None h = refl
none_from (Some x) h = absurd (true≢false h)

some_from : {A : Type 0} (o : Option A) → is_none o ≡ false → IsSome o
some_from None h = absurd (true≢false h)
some_from (Some x) h = refl

no_hole : {A : Type 0} (o : Option A) → is_none o ≡ true → o ≡ None
no_hole None h = refl
no_hole (Some x) h = absurd (true≢false (sym h))

-- no number of the range passes
pub none_passes : (passes : ℕ → Bool) (first count : ℕ) → least first count passes ≡ None → (q : ℕ) → first ≤ q → q < first + count → passes q ≡ false
none_passes passes first count e q a b = go (passes q) refl (unanswered (λ n. cond (passes n) (Some n) None) first count e q a b)
  where
    not : ◌≡◌ {A = Option ℕ} (Some q) None → ⊥
    not e = cc

    go : (t : Bool) → passes q ≡ t → cond t (Some q) None ≡ None → passes q ≡ false
    go false is h = is
    go true is h = absurd (not h)

module _ (marks : Marks) (pages : HeldPages) (first count : ℕ) where
  pub least_some : least first count (λ page. is_some (get marks page)) ≡ least first count (λ page. is_some (get (cells_of marks pages) page))
  least_some = λ i. least first count (λ page. sym (same_some marks pages page) i)

  pub least_hole : least first count (λ page. is_none (get marks page)) ≡ least first count (λ page. is_none (get (cells_of marks pages) page))
  least_hole = λ i. least first count (λ page. sym (same_none marks pages page) i)

  -- a range is free where it is vacant
  pub vacant_free : is_free (cells_of marks pages) first count ≡ is_vacant marks first count
  vacant_free = go (least first count (λ page. is_some (get marks page))) refl
    where
      go : (o : Option ℕ) → least first count (λ page. is_some (get marks page)) ≡ o → is_free (cells_of marks pages) first count ≡ is_none o
      go None e = free_range (cells_of marks pages) first count (λ q a b. none_from _ (same_some marks pages q ∙ none_passes (λ page. is_some (get marks page)) first count e q a b))
      go (Some page) e =
          let at = least_passes first count (λ page. is_some (get marks page)) page e in
          taken_range (cells_of marks pages) first count page at.0 at.1 (same_some marks pages page ∙ at.2)

module _ (marks : Marks) (pages : HeldPages) (have : HaveMarks marks pages) (first end : ℕ) (low : first ≤ end) where
  abbrev number : Option HeldPage → Option Number
  number = option_map (λ held. held.number)

  -- the first held page of a range
  pub is_next_held : (r : Option (ℕ × Number)) → IfSome r (λ e. IsFirstHeld pages first end e.0 e.1) → IfNone r ((q : ℕ) → first ≤ q → q < end → held_at pages q ≡ None) →
      r ≡ earliest first (end - first) (numbered_page (cells_of marks pages))
  is_next_held None some none = sym (earliest_none (numbered_page (cells_of marks pages)) first (end - first)
      (λ q a b. ap (option_map (λ n. (q, n))) (number_seen marks pages have q ∙ ap number (none q a (omega (arith, b, low))))))
  is_next_held (Some e) at none = sym (earliest_is (numbered_page (cells_of marks pages)) first (end - first) e.0 e at.from (omega (arith, at.from, at.before))
      (ap (option_map (λ n. (e.0, n))) (number_seen marks pages have e.0 ∙ at.there))
      (λ q a b. ap (option_map (λ n. (q, n))) (number_seen marks pages have q ∙ ap number (at.least q a b))))

-- where `known` pages from the beginning of an arena on have cells
module _ (cells : AddressSpace) (thread known first : ℕ) (is : first ≡ arena_first thread) (full : IsFull cells thread known) where
  -- the first page without one stands behind all that have some
  pub full_up_to : (page : ℕ) → least (first + known) (first + 2 ^ 27 - (first + known)) (λ page. is_none (get cells page)) ≡ Some page →
      (first ≤ page) × (page < first + 2 ^ 27) × IsFull cells thread (page - first) × (get cells page ≡ None)
  full_up_to page e =
      let at = least_passes (first + known) (first + 2 ^ 27 - (first + known)) (λ page. is_none (get cells page)) page e in
      let within : page < first + 2 ^ 27 = omega (arith, at.0, at.1, full.within) in (
        omega (arith, at.0),
        within,
        record {
          within = omega (arith, within);
          cells_there = λ q a b. elim (cases_lt q (first + known)) [
            | inl before ↦ full.cells_there q a (omega (arith, before, is))
            | inr after ↦ some_from (get cells q) (none_below_least (λ page. is_none (get cells page)) (first + known) (first + 2 ^ 27 - (first + known)) page q e after (omega (arith, b, is, at.0)))
          ];
        },
        no_hole (get cells page) at.2,
      )

  pub all_full : least (first + known) (first + 2 ^ 27 - (first + known)) (λ page. is_none (get cells page)) ≡ None → IsFull cells thread (2 ^ 27)
  all_full e = record {
    within = omega arith;
    cells_there = λ q a b. elim (cases_lt q (first + known)) [
      | inl before ↦ full.cells_there q a (omega (arith, before, is))
      | inr after ↦ some_from (get cells q) (none_passes (λ page. is_none (get cells page)) (first + known) (first + 2 ^ 27 - (first + known)) e q after (omega (arith, b, is, full.within)))
    ];
  }

  -- none of them begins a gap
  taken : (count s : ℕ) → 0 < count → arena_first thread ≤ s → s < first + known → is_free cells s count ≡ false
  taken count s some low high = taken_range cells s count s (omega arith) (omega (arith, some)) (full.cells_there s low (omega (arith, high, is)))

  pub is_gap : (count : ℕ) → 0 < count → least (first + known) (first + 2 ^ 27 + 1 - (first + known + count)) (λ start. is_free cells start count) ≡ gap thread cells count
  unfolding gap
  is_gap count some = go (least (first + known) (first + 2 ^ 27 + 1 - (first + known + count)) (λ start. is_free cells start count)) refl
    where
      go : (o : Option ℕ) → least (first + known) (first + 2 ^ 27 + 1 - (first + known + count)) (λ start. is_free cells start count) ≡ o →
          o ≡ least (arena_first thread) (2 ^ 27 + 1 - count) (λ start. is_free cells start count)
      go None e = sym (least_none (λ start. is_free cells start count) (arena_first thread) (2 ^ 27 + 1 - count) (λ s a b. elim (cases_lt s (first + known)) [
        | inl before ↦ taken count s some a before
        | inr after ↦ none_passes (λ start. is_free cells start count) (first + known) (first + 2 ^ 27 + 1 - (first + known + count)) e s after (omega (arith, after, b, is))
      ]))
      go (Some start) e =
          let at = least_passes (first + known) (first + 2 ^ 27 + 1 - (first + known + count)) (λ start. is_free cells start count) start e in
          sym (least_is (λ start. is_free cells start count) (arena_first thread) (2 ^ 27 + 1 - count) start (omega (arith, at.0, is)) (omega (arith, at.0, at.1, is)) at.2 (λ s a b. elim (cases_lt s (first + known)) [
            | inl before ↦ taken count s some a before
            | inr after ↦ none_below_least (λ start. is_free cells start count) (first + known) (first + 2 ^ 27 + 1 - (first + known + count)) start s e after b
          ]))
