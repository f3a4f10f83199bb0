-- What is left of a run from a page on, and the next run.
use Rattle.std.proofs.Common.{◌≡◌, ℕ, ◌+◌, ◌-◌, ◌<◌, ◌≤◌, refl, sym, ap, ◌∙◌, arith, subst}
use mathlib.Core.Logic.{inl, inr}
use Rattle.std.specs.Prelude.{Option, Some, None}
use Rattle.std.specs.Ordering.{nat_cmp}
use Rattle.std.specs.List.Sorted.{IsStrictlySortedBy}
use Rattle.std.specs.Map.{lookup, keys_of}
use Rattle.std.specs.BTreeMap.{is_at}
use Rattle.std.specs.FinMap.{get}
use Rattle.std.proofs.lemmas.Bool.{cases_lt}
use Rattle.corten_base.specs.declared.calls.Backing.{Backing}
use Rattle.corten_base.specs.declared.calls.Backing.TheVariants.{Zero, File}
use Rattle.page_runs.specs.declared.mark.Mark.{Mark}
use Rattle.page_runs.specs.declared.spans.Span.{Span}
use Rattle.page_runs.specs.declared.spans.Marked.{Marked}
use Rattle.page_runs.specs.Mark.{goes_on, backing_after, onward}
use Rattle.page_runs.specs.Spans.{Spans, Marks, span_at, marks, AreRuns, HaveNone, IsFirstMarked, IsLastUpTo, IsRest}
use Rattle.page_runs.specs.Runs.{HasNone, IsPart}
use Rattle.page_runs.proofs.Views.{has, has_none, not_some}
use Rattle.page_runs.proofs.Split.{goes_on-goes_on}

backing_here : (b : Backing) → backing_after b 0 ≡ b
backing_here Zero = refl
backing_here (File file index) = ap (File file) (omega arith)

pub goes_on-zero : (mark : Mark) → goes_on mark 0 ≡ mark
goes_on-zero mark = λ k. record { perm = mark.perm; backing = backing_here mark.backing k }

-- a run without marks has none at any of its pages
no_mark : (mark : Option Mark) (i j : ℕ) (there : Mark) → onward mark i ≡ None → onward mark j ≡ Some there → ⊥
no_mark None i j there none some = not_some some
no_mark (Some mark) i j there none some = not_some (sym none)

module _ (spans : Spans) (runs : AreRuns spans) where
  -- the pages of a run
  pub run_has : (first : ℕ) (span : Span) → span_at spans first ≡ Some span → (i : ℕ) → i < span.count → get (marks spans) (first + i) ≡ onward span.mark i
  run_has first span there i below = has spans runs (first + i) (onward span.mark i) (record { first = first; span = span; place = i; there = there; below = below; is_page = refl; carries = refl })

  module _ (page first : ℕ) (span : Span) (at : IsLastUpTo spans page first span) where
    pub is_rest : (mark : Mark) → span.mark ≡ Some mark → page - first < span.count →
        IsRest (marks spans) page (record { first = page; count = span.count - (page - first); mark = goes_on mark (page - first) })
    is_rest mark is inside =
        let place : ℕ = page - first in
        let back : first + place ≡ page = omega (arith, at.near) in
        record {
          some = omega (arith, inside);
          here = ap (get (marks spans)) (sym back) ∙ run_has first span at.there place inside ∙ ap (λ m. onward m place) is;
          there = λ i below.
              let sum : page + i ≡ first + (place + i) = omega (arith, at.near) in
              ap (get (marks spans)) sum ∙ run_has first span at.there (place + i) (omega (arith, below)) ∙ ap (λ m. onward m (place + i)) is ∙ ap Some (sym (goes_on-goes_on mark place i));
        }

    pub no_mark_here : span.mark ≡ None → page - first < span.count → get (marks spans) page ≡ None
    no_mark_here none inside =
        let back : first + (page - first) ≡ page = omega (arith, at.near) in
        ap (get (marks spans)) (sym back) ∙ run_has first span at.there (page - first) inside ∙ ap (λ m. onward m (page - first)) none

    pub no_rest : span.count ≤ page - first → get (marks spans) page ≡ None
    no_rest far = has_none spans runs page (λ mark of. elim (cases_lt first of.first) [
      | inl after ↦ not_some (sym (at.last of.first after (omega (arith, of.is_page))) ∙ of.there)
      | inr upto ↦ elim (cases_lt of.first first) [
        | inl before ↦ let end = runs.apart of.first first of.span span of.there at.there before in omega (arith, end, of.below, of.is_page, at.near)
        | inr from ↦
            let same : of.first ≡ first = omega (arith, upto, from) in
            let is : of.span ≡ span = span_is of.first same of.span of.there in
            let many : of.span.count ≡ span.count = ap (λ s. s.count) is in
            omega (arith, many, of.below, of.is_page, same, far)
      ]
    ])
      where
        span_is : (k : ℕ) → k ≡ first → (s : Span) → span_at spans k ≡ Some s → s ≡ span
        span_is k same s is = let e : ◌≡◌ {A = Option Span} (Some s) (Some span) = sym is ∙ ap (span_at spans) same ∙ at.there in cc

  pub none_up_to : (page : ℕ) → ((q : ℕ) → q ≤ page → span_at spans q ≡ None) → get (marks spans) page ≡ None
  none_up_to page none = has_none spans runs page (λ mark of. not_some (sym (none of.first (omega (arith, of.is_page))) ∙ of.there))

  -- the range's first page has no mark, and no run with marks starts between it and the next one
  none_between : (first next : ℕ) → get (marks spans) first ≡ None → HaveNone spans first next → HasNone (marks spans) first next
  none_between first next none least page low high = has_none spans runs page (λ mark of. elim (cases_lt of.first first) [
    | inl before ↦
        let place : of.first + (first - of.first) ≡ first = omega (arith, before) in
        let here = sym (run_has of.first of.span of.there (first - of.first) (omega (arith, of.below, of.is_page, low, before))) ∙ ap (get (marks spans)) place ∙ none in
        no_mark of.span.mark (first - of.first) of.place mark here of.carries
    | inr from ↦ not_some (sym (ap (λ m. onward m of.place) (least of.first of.span from (omega (arith, of.is_page, high)) of.there)) ∙ of.carries)
  ])

  pub is_next_part : (first end : ℕ) (next : Marked) (count : ℕ) → get (marks spans) first ≡ None → IsFirstMarked spans first end next → 0 < count → count ≤ next.count → next.first + count ≤ end →
      IsPart (marks spans) first end (record { first = next.first; count = count; mark = next.mark })
  is_next_part first end next count none at some few within = record {
    from = at.from;
    some = some;
    within = within;
    none_before = none_between first next.first none at.none;
    there = λ i below. run_has next.first (record { count = next.count; mark = Some next.mark }) at.there i (omega (arith, below, few));
  }

  pub no_part : (first end : ℕ) → get (marks spans) first ≡ None → HaveNone spans first end → HasNone (marks spans) first end
  no_part first end none least = none_between first end none least

pub is_first_part : (m : Marks) (first end : ℕ) (rest : Marked) (count : ℕ) → IsRest m first rest → 0 < count → count ≤ rest.count → first + count ≤ end →
    IsPart m first end (record { first = first; count = count; mark = rest.mark })
is_first_part m first end rest count at some few within = record {
  from = omega arith;
  some = some;
  within = within;
  none_before = λ page low high. absurd (omega (arith, low, high));
  there = λ i below. at.there i (omega (arith, below, few));
}

-- runs with the same entries
pub runs_along : (m n : Spans) → n.entries ≡ m.entries → AreRuns m → AreRuns n
runs_along m n same runs = record {
  ordered = subst (λ es. IsStrictlySortedBy nat_cmp (keys_of es)) (sym same) runs.ordered;
  whole = λ q s is. runs.whole q s (back q s is);
  apart = λ q p s t a b. runs.apart q p s t (back q s a) (back p t b);
}
  where
    back : (q : ℕ) (s : Span) → span_at n q ≡ Some s → span_at m q ≡ Some s
    back q s is = ap (lookup (is_at (nat_cmp q))) (sym same) ∙ is
