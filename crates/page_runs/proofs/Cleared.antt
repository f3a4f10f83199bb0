-- A range whose marks go: the run across its beginning ends there, and those that start in it are taken out.
use Rattle.std.proofs.Common.{◌≡◌, ℕ, ◌+◌, ◌-◌, ◌^◌, ◌<◌, ◌≤◌, Bool, true, false, cond, refl, sym, ap, subst, ◌∙◌, arith}
use mathlib.Core.Logic.{◌⊎◌, inl, inr}
use Rattle.std.specs.Prelude.{Option, Some, None, min}
use Rattle.std.specs.FinMap.{get}
use Rattle.std.proofs.lemmas.Bool.{cases_lt, cases_eq, cases_order}
use Rattle.table_place.specs.Range.{within}
use Rattle.page_map.proofs.Range.{get-change, inside, outside}
use Rattle.page_runs.specs.declared.mark.Mark.{Mark}
use Rattle.page_runs.specs.declared.spans.Span.{Span}
use Rattle.page_runs.specs.Mark.{first_index, onward}
use Rattle.page_runs.specs.Spans.{Spans, span_at, marks, unmapped, AreRuns, IsEdge, Sets, Changes}
use Rattle.page_runs.specs.Changes.{IsCleared, IsTrimmed, IsWhole, no_run, trimmed}
use Rattle.page_runs.proofs.Views.{IsIn, has, is_in, told, same_some, not_some}

-- ---- the run across a page's beginning

module _ (m : Spans) (runs : AreRuns m) (page : ℕ) where
  -- a run that ends by the page stays
  as_it_was : (q : ℕ) → q < page → ((s : Span) → span_at m q ≡ Some s → q + s.count ≤ page) → span_at m q ≡ trimmed page q (span_at m q)
  as_it_was q less ends = go (span_at m q) refl
    where
      go : (o : Option Span) → span_at m q ≡ o → o ≡ trimmed page q o
      go None e = refl
      go (Some s) e =
          let far = ends s e in
          let same : s.count ≡ min s.count (page - q) = omega (arith, far, less) in
          ap (λ n. Some (record { count = n; mark = s.mark })) same

pub cleared : (m mid n : Spans) (first end : ℕ) → first ≤ end → IsTrimmed m mid first → Changes no_run first end mid n → IsCleared m n first end
cleared m mid n first end room trim changes = record {
  ordered = changes.ordered;
  below = λ q less. changes.below q less ∙ trim.below q less;
  inside = λ q low high. changes.changed q low high;
  above = λ q more. changes.above q more ∙ trim.above q (omega (arith, room, more));
}

-- the one run of a range is taken out
module _ (m n : Spans) (runs : AreRuns m) (first count : ℕ) (span : Span) (whole : IsWhole m first count span) (sets : Sets m n first None) where
  pub whole_stop : IsEdge (first + count) m
  whole_stop q s is low = elim (cases_order q first) [
    | inl same ↦
        let many : s.count ≡ span.count = ap (λ t. t.count) (same_some (sym is ∙ ap (span_at m) same ∙ whole.there)) in
        omega (arith, same, many, whole.as_many)
    | inr (inl less) ↦ let far = runs.apart q first s span is whole.there less in omega (arith, far)
    | inr (inr more) ↦ let far = runs.apart first q span s whole.there is more in absurd (omega (arith, far, low, whole.as_many))
  ]

  pub whole_cleared : IsCleared m n first (first + count)
  whole_cleared = record {
    ordered = sets.ordered;
    below = λ q less. sets.others q (λ same. absurd (omega (arith, same, less))) ∙ as_it_was m runs first q less (λ s is. runs.apart q first s span is whole.there less);
    inside = λ q low high. elim (cases_eq q first) [
      | inl same ↦ ap (span_at n) same ∙ sets.here
      | inr other ↦ sets.others q other ∙ none q (omega (arith, low, other)) high (span_at m q) refl
    ];
    above = λ q more. sets.others q (λ same. absurd (omega (arith, same, more, whole.as_many, (runs.whole first span whole.there).some)));
  }
    where
      none : (q : ℕ) → first < q → q < first + count → (o : Option Span) → span_at m q ≡ o → o ≡ None
      none q low high None e = refl
      none q low high (Some s) e = let far = runs.apart first q span s whole.there e low in absurd (omega (arith, far, high, whole.as_many))

-- ---- the marks

module _ (m n : Spans) (first count : ℕ) (stop : IsEdge (first + count) m) (runs : AreRuns m) (is : IsCleared m n first (first + count)) where
  -- a run, and the one of which it is left
  record Was (q : ℕ) (s : Span) : Type 0 where
    span : Span
    there : span_at m q ≡ Some span
    mark_is : s.mark ≡ span.mark
    fewer : s.count ≤ span.count
    some : 0 < s.count
    side : (q + s.count ≤ first) ⊎ (first + count ≤ q)

  was : (q : ℕ) (s : Span) → span_at n q ≡ Some s → Was q s
  was q s at = elim (cases_lt q first) [
    | inl before ↦ left before (span_at m q) refl (sym (is.below q before) ∙ at)
    | inr from ↦ elim (cases_lt q (first + count)) [
      | inl to ↦ absurd (not_some (sym (is.inside q from to) ∙ at))
      | inr past ↦
          let there : span_at m q ≡ Some s = sym (is.above q past) ∙ at in
          record { span = s; there = there; mark_is = refl; fewer = omega arith; some = (runs.whole q s there).some; side = inr past }
    ]
  ]
    where
      left : q < first → (o : Option Span) → span_at m q ≡ o → trimmed first q o ≡ Some s → Was q s
      left before None e h = absurd (not_some h)
      left before (Some span) e h =
          let of = same_some h in
          let many : min span.count (first - q) ≡ s.count = ap (λ t. t.count) of in
          record {
            span = span;
            there = e;
            mark_is = ap (λ t. t.mark) (sym of);
            fewer = omega (arith, many);
            some = omega (arith, many, before, (runs.whole q span e).some);
            side = inl (omega (arith, many, before));
          }

  pub cleared_runs : AreRuns n
  cleared_runs = record {
    ordered = is.ordered;
    whole = λ q s at.
        let old = was q s at in
        let run = runs.whole q old.span old.there in
        record {
          some = old.some;
          pages = omega (arith, run.pages, old.fewer);
          indexes = subst (λ o. first_index o + s.count < 2 ^ 64) (sym old.mark_is) (omega (arith, run.indexes, old.fewer));
        };
    apart = λ q p s t a b less.
        let old = was q s a in
        let far = runs.apart q p old.span (was p t b).span old.there (was p t b).there less in omega (arith, far, old.fewer);
  }

  pub cleared_marks : marks n ≡ unmapped (marks m) first count
  cleared_marks = told n cleared_runs (unmapped (marks m) first count) there here
    where
      there : (page : ℕ) (found : Option Mark) → IsIn n.entries page found → get (unmapped (marks m) first count) page ≡ found
      there page found at = get-change (marks m) first count (λ _ _. None) page ∙ go (within first count page) refl
        where
          old : Was at.first at.span
          old = was at.first at.span at.there

          beside : (at.first + at.span.count ≤ first) ⊎ (first + count ≤ at.first) → first ≤ page → page < first + count → ⊥
          beside (inl far) low high = omega (arith, far, at.is_page, at.below, low)
          beside (inr far) low high = omega (arith, far, at.is_page, high)

          go : (b : Bool) → within first count page ≡ b → cond b None (get (marks m) page) ≡ found
          go true w = absurd (beside old.side (inside first count page w).0 (inside first count page w).1)
          go false w = has m runs page found (record {
            first = at.first;
            span = old.span;
            place = at.place;
            there = old.there;
            below = omega (arith, at.below, old.fewer);
            is_page = at.is_page;
            carries = ap (λ mark. onward mark at.place) (sym old.mark_is) ∙ at.carries;
          })

      here : (page : ℕ) (found : Mark) → get (unmapped (marks m) first count) page ≡ Some found → IsIn n.entries page (Some found)
      here page found h = go (within first count page) refl (sym (get-change (marks m) first count (λ _ _. None) page) ∙ h)
        where
          go : (b : Bool) → within first count page ≡ b → cond b None (get (marks m) page) ≡ Some found → IsIn n.entries page (Some found)
          go true w none = absurd (not_some none)
          go false w some =
              let at = is_in m runs page found some in
              elim (cases_lt at.first first) [
                | inl before ↦
                    let far = stop at.first at.span at.there (omega (arith, before)) in
                    let upto : page < first = elim (cases_lt page first) [ inl less ↦ less | inr more ↦ absurd (outside first count page w more (omega (arith, far, at.is_page, at.below))) ] in
                    record {
                      first = at.first;
                      span = record { count = min at.span.count (first - at.first); mark = at.span.mark };
                      place = at.place;
                      there = is.below at.first before ∙ ap (trimmed first at.first) at.there;
                      below = omega (arith, at.below, upto, at.is_page);
                      is_page = at.is_page;
                      carries = at.carries;
                    }
                | inr from ↦ elim (cases_lt at.first (first + count)) [
                  | inl to ↦
                      let far = stop at.first at.span at.there to in
                      absurd (outside first count page w (omega (arith, from, at.is_page)) (omega (arith, far, at.is_page, at.below)))
                  | inr past ↦ record { first = at.first; span = at.span; place = at.place; there = is.above at.first past ∙ at.there; below = at.below; is_page = at.is_page; carries = at.carries }
                ]
              ]
