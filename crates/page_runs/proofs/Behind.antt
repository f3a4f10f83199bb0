-- Behind runs that end: the pages up to the next run with marks have none.
use Rattle.std.proofs.Common.{◌≡◌, ℕ, ◌+◌, ◌-◌, ◌<◌, ◌≤◌, true, refl, sym, ap, ◌∙◌, arith}
use mathlib.Core.Logic.{inl, inr}
use Rattle.std.specs.Prelude.{Option, Some, None, is_some, max}
use Rattle.std.specs.FinMap.{get}
use Rattle.std.proofs.lemmas.Bool.{cases_lt, cases_eq}
use Rattle.page_runs.specs.declared.mark.Mark.{Mark}
use Rattle.page_runs.specs.declared.spans.Span.{Span}
use Rattle.page_runs.specs.declared.spans.Marked.{Marked}
use Rattle.page_runs.specs.Mark.{goes_on, onward}
use Rattle.page_runs.specs.Spans.{Spans, span_at, marks, AreRuns, EndBy, HaveNone, IsFirstMarked, IsLastUpTo}
use Rattle.page_runs.specs.Runs.{HasNone}
use Rattle.page_runs.proofs.Least.{AreTaken, least_there}
use Rattle.page_runs.proofs.Views.{has, has_none, not_some, same_some}

-- the run of a mark has one itself
carries_none : (mark : Option Mark) (i : ℕ) (found : Mark) → mark ≡ None → onward mark i ≡ Some found → ⊥
carries_none mark i found none is = not_some (sym (ap (λ m. onward m i) none) ∙ is)

module _ (spans : Spans) (runs : AreRuns spans) where
  -- those before the last one that starts up to a page
  pub ended_before : (page first : ℕ) (span : Span) → IsLastUpTo spans page first span → EndBy page first spans
  ended_before page first span at q other there before = let far = runs.apart q first other span there at.there before in omega (arith, far, at.near)

  -- those up to a run, and it
  pub ended_behind : (start first count : ℕ) (mark : Option Mark) → span_at spans first ≡ Some (record { count = count; mark = mark }) → first + count ≤ start → EndBy start (first + count) spans
  ended_behind start first count mark here low q other there before = elim (cases_lt q first) [
    | inl less ↦ let far = runs.apart q first other (record { count = count; mark = mark }) there here less in omega (arith, far, low)
    | inr from ↦ elim (cases_eq q first) [
      | inl same ↦
          let is : other ≡ record { count = count; mark = mark } = same_some (sym there ∙ ap (span_at spans) same ∙ here) in
          let many : other.count ≡ count = ap (λ s. s.count) is in
          omega (arith, many, same, low)
      | inr apart ↦
          let far = runs.apart first q (record { count = count; mark = mark }) other here there (omega (arith, from, apart)) in
          absurd (omega (arith, far, before))
    ]
  ]

  -- from where all runs before a page end, up to where one with marks starts next
  pub none_from : (start next high : ℕ) → EndBy start next spans → HaveNone spans next high → HasNone (marks spans) start high
  none_from start next high ended none page low below = has_none spans runs page (λ mark of. elim (cases_lt of.first next) [
    | inl before ↦ let far = ended of.first of.span of.there before in omega (arith, far, of.below, of.is_page, low)
    | inr from ↦ carries_none of.span.mark of.place mark (none of.first of.span from (omega (arith, of.is_page, below)) of.there) of.carries
  ])

  module _ (next end : ℕ) (run : Marked) (at : IsFirstMarked spans next end run) where
    marked : (page : ℕ) → run.first ≤ page → page < run.first + run.count → is_some (get (marks spans) page) ≡ true
    marked page low high = ap is_some (has spans runs page (Some (goes_on run.mark (page - run.first))) (record {
      first = run.first;
      span = record { count = run.count; mark = Some run.mark };
      place = page - run.first;
      there = at.there;
      below = omega (arith, low, high);
      is_page = omega (arith, low);
      carries = refl;
    }))

    module _ (first start count : ℕ) (taken : AreTaken (marks spans) first end count start) (near : run.first < start + count) (some : 0 < count) where
      -- no page of a run will do, nor one that has too few before it
      pub taken_behind : AreTaken (marks spans) first end count (run.first + run.count)
      taken_behind s low high = elim (cases_lt s start) [
        | inl before ↦ taken s low before
        | inr from ↦ elim (cases_lt s run.first) [
          | inl ahead ↦ least_there (λ page. is_some (get (marks spans) page)) s count run.first (omega (arith, ahead)) (omega (arith, near, from))
              (marked run.first (omega arith) (omega (arith, (runs.whole run.first _ at.there).some)))
          | inr behind ↦ least_there (λ page. is_some (get (marks spans) page)) s count s (omega arith) (omega (arith, some)) (marked s behind high)
        ]
      ]

      pub taken_up : (later : ℕ) → later ≤ max start (run.first + run.count) → AreTaken (marks spans) first end count later
      taken_up later far s low high = elim (cases_lt s start) [
        | inl before ↦ taken s low before
        | inr from ↦ taken_behind s low (omega (arith, from, high, far))
      ]
