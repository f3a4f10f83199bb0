-- The lowest table that is there above a page.
use Rattle.std.proofs.Common.{◌≡◌, ℕ, ◌+◌, ◌<◌, ◌≤◌, true, false, sym, subst, ◌∙◌, inl, inr, arith}
use mathlib.Core.Bool.{true≢false}
use Rattle.std.specs.Prelude.{nat_le}
use Rattle.std.specs.FinSet as set
use Rattle.std.proofs.lemmas.Bool.{le-leb, leb-true, false_from_ne_true, cases_lt}
use Rattle.table_place.specs.Place.{place_of}
use Rattle.page_map.specs.Tables.{Tables}
use Rattle.page_map.specs.State.{State, IsConsistent, levels}
use Rattle.machine_plan.proofs.Near.{level_is}
use Rattle.machine_plan.proofs.Covering.{further}
use Rattle.machine_plan.proofs.Towers.{closed_up}
use Rattle.plain_counts.specs.declared.cut.Pages.{Pages}
use Rattle.held_spans.specs.declared.spans.Span.{Span}
use Rattle.held_spans.specs.Spans.{IsSpanOf}
use Rattle.held_needs.specs.Cutting.{IsLowest, IsEnd}

module _ (st : State) (is : IsConsistent st) (space page : ℕ) where
  -- from one table that is there on all above it are
  pub up_from : (k level : ℕ) → k ≤ level → level ≤ levels st → set.contains st.tables (place_of space k page) ≡ true → set.contains st.tables (place_of space level page) ≡ true
  up_from k level low high there =
      let n = further k level low in
      subst (λ m. set.contains st.tables (place_of space m page) ≡ true) n.1 (closed_up st is space k page n.0 (subst (λ m. m ≤ levels st) (sym n.1) high) there)

  pub lowest_of : (s : Span) → IsSpanOf st space page s → IsLowest (levels st) space page st.tables (s.level + 1)
  lowest_of s found = record {
    some = omega arith;
    few = (level_is st is (place_of space (s.level + 1) page) found.table).1;
    each = λ level low high. elim (cases_lt level (s.level + 1)) [
      | inl below ↦ lone level (omega (arith, below)) ∙ sym (false_from_ne_true (nat_le (s.level + 1) level) (λ h. late level below (leb-true (s.level + 1) level h)))
      | inr above ↦ up_from (s.level + 1) level above (omega (arith, high)) found.table ∙ sym (le-leb (s.level + 1) level above)
    ];
  }
    where
      late : (level : ℕ) → level < s.level + 1 → s.level + 1 ≤ level → ⊥
      late level h g = omega (arith, h, g)

      lone : (level : ℕ) → level ≤ s.level → set.contains st.tables (place_of space level page) ≡ false
      lone level low = false_from_ne_true _ (λ there.
          true≢false (sym (up_from level s.level low (omega (arith, (level_is st is (place_of space (s.level + 1) page) found.table).1)) there) ∙ found.lone))

pub end_of : (levels space : ℕ) (r : Pages) (page : ℕ) (t : Tables) (n : ℕ) → IsLowest levels space page t n → IsEnd levels space r page t n
end_of levels space r page t n lowest = record { each = λ level low high cuts. lowest.each level low high }
