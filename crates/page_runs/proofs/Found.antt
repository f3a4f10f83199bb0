-- The runs that a range of the tree shows first and last.
use Rattle.std.proofs.Common.{◌≡◌, ℕ, ◌≤◌, false, List, [], ◌∷◌, ◌++◌, refl, sym, ap, arith}
use Rattle.std.specs.Prelude.{Option, Some, None, IsSome}
use Rattle.std.specs.Ordering.{nat_cmp, is_gt}
use Rattle.std.specs.declared.cmp.Ordering.TheVariants.{Less, Equal}
use Rattle.std.specs.declared.ops.Bound.TheVariants.{Included, Unbounded}
use Rattle.std.specs.Cmp.{nat_cmp_is}
use Rattle.std.specs.BTreeMap.Range.{IsRangeOf}
use Rattle.std.proofs.lemmas.Bool.{cases_lt}
use Rattle.std.proofs.lemmas.Map.Keys.{le_from_not_gt, ge_from_not_lt}
use mathlib.Core.Logic.{inl, inr}
use Rattle.page_runs.specs.declared.spans.Span.{Span}
use Rattle.page_runs.specs.Spans.{Spans, span_at, IsLastUpTo}

pub none_if : {A : Type 0} (o : Option A) → (IsSome o → ⊥) → o ≡ None
none_if None h = refl
none_if (Some x) h = absurd (h refl)

not_above : (k q : ℕ) → k ≤ q → is_gt (nat_cmp k q) ≡ false
not_above k q h = elim (cases_lt k q) [
  | inl l ↦ ap is_gt (sym (nat_cmp_is k q Less l))
  | inr m ↦ ap is_gt (sym (nat_cmp_is k q Equal (omega arith)))
]

pub last_up_to : (spans : Spans) (page first : ℕ) (span : Span) (r t : List (ℕ × Span)) → IsRangeOf nat_cmp Unbounded (Included page) spans r → r ≡ t ++ (first, span) ∷ [] → IsLastUpTo spans page first span
last_up_to spans page first span r t range step =
    let entry = range.3 (first, span) t step in
    record {
      near = le_from_not_gt first page entry.0.1;
      there = entry.1;
      last = λ q low high. none_if (span_at spans q) (λ some.
          let up : q ≤ first = ge_from_not_lt first q (range.4 (first, span) t step q (tt, not_above q page high) some) in omega (arith, low, up));
    }
