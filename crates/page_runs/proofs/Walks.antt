-- Going over the runs that start in a range, one by one.
use Rattle.std.proofs.Common.{◌≡◌, ℕ, ◌+◌, ◌<◌, ◌≤◌, refl, sym, ap, ◌∙◌, arith}
use mathlib.Core.Logic.{inl, inr}
use Rattle.std.specs.Prelude.{Option, Some, None}
use Rattle.std.specs.Ordering.{nat_cmp}
use Rattle.std.specs.BTreeMap.{IsOrdered}
use Rattle.std.proofs.lemmas.Bool.{cases_lt, cases_eq}
use Rattle.page_runs.specs.declared.spans.Span.{Span}
use Rattle.page_runs.specs.Spans.{Spans, span_at, IsFirstFrom, Sets, Changes}

pub no_change : (f : ℕ → Option Span → Option Span) (first : ℕ) (spans : Spans) → IsOrdered nat_cmp spans → Changes f first first spans spans
no_change f first spans ordered = record {
  ordered = ordered;
  below = λ q less. refl;
  changed = λ q low high. absurd (omega (arith, low, high));
  above = λ q more. refl;
}

module _ (f : ℕ → Option Span → Option Span) (none : (q : ℕ) → f q None ≡ None) (first next end : ℕ) (low : first ≤ next) (old now : Spans) (so_far : Changes f first next old now) where
  -- the next run has changed
  pub one_more : (key : ℕ) (span : Span) (new : Spans) → IsFirstFrom now next end key span → Sets now new key (f key (Some span)) → Changes f first (key + 1) old new
  one_more key span new at sets = record {
    ordered = sets.ordered;
    below = λ q less. sets.others q (λ same. absurd (omega (arith, same, less, low, at.from))) ∙ so_far.below q less;
    changed = λ q from to. elim (cases_eq q key) [
      | inl same ↦ ap (span_at new) same ∙ sets.here ∙ ap (f key) (sym at.there ∙ so_far.above key at.from) ∙ ap (λ k. f k (span_at old k)) (sym same)
      | inr other ↦ sets.others q other ∙ elim (cases_lt q next) [
        | inl before ↦ so_far.changed q from before
        | inr after ↦
            let below : q < key = omega (arith, to, other) in
            at.least q after below ∙ sym (none q) ∙ ap (f q) (sym (at.least q after below) ∙ so_far.above q after)
      ]
    ];
    above = λ q more. sets.others q (λ same. absurd (omega (arith, same, more))) ∙ so_far.above q (omega (arith, more, at.from));
  }

  -- no other run starts in the range
  pub all_done : ((q : ℕ) → next ≤ q → q < end → span_at now q ≡ None) → next ≤ end → Changes f first end old now
  all_done rest room = record {
    ordered = so_far.ordered;
    below = so_far.below;
    changed = λ q from to. elim (cases_lt q next) [
      | inl before ↦ so_far.changed q from before
      | inr after ↦ rest q after to ∙ sym (none q) ∙ ap (f q) (sym (rest q after to) ∙ so_far.above q after)
    ];
    above = λ q more. so_far.above q (omega (arith, more, room));
  }
