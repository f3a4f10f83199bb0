-- A run that goes on over free pages behind it.
use Rattle.std.proofs.Common.{◌≡◌, ◌≢◌, ℕ, ◌+◌, ◌-◌, ◌^◌, ◌<◌, ◌≤◌, Bool, true, false, cond, refl, sym, ap, subst, ◌∙◌, arith}
use mathlib.Core.Logic.{◌⊎◌, inl, inr}
use Rattle.std.specs.Prelude.{Option, Some}
use Rattle.std.specs.FinMap.{get}
use Rattle.std.proofs.lemmas.Bool.{cases_lt, cases_eq}
use Rattle.table_place.specs.Range.{within}
use Rattle.page_map.proofs.Range.{get-change, inside, outside}
use Rattle.page_runs.specs.declared.mark.Mark.{Mark}
use Rattle.page_runs.specs.declared.spans.Span.{Span}
use Rattle.page_runs.specs.Mark.{first_index, goes_on, onward}
use Rattle.page_runs.specs.Spans.{Spans, span_at, marks, mapped, IsRun, AreRuns, EndBy, Sets}
use Rattle.page_runs.proofs.Views.{IsIn, has, is_in, told, same_some}
use Rattle.page_runs.proofs.Split.{onward-onward}

module _ (m n : Spans) (at count : ℕ) (lower : Span) (some : 0 < count) (there : span_at m at ≡ Some lower) (pages : at + lower.count + count < 2 ^ 64)
    (indexes : first_index lower.mark + (lower.count + count) < 2 ^ 64) (free : EndBy (at + lower.count) (at + lower.count + count) m) (runs : AreRuns m)
    (sets : Sets m n at (Some (record { count = lower.count + count; mark = lower.mark }))) where
  abbrev Which : ℕ → Span → Type 0
  Which q s = ((q ≡ at) × (s ≡ record { count = lower.count + count; mark = lower.mark })) ⊎ ((q ≢ at) × (span_at m q ≡ Some s))

  which : (q : ℕ) (s : Span) → span_at n q ≡ Some s → Which q s
  which q s is = elim (cases_eq q at) [
    | inl same ↦ inl (same, same_some (sym is ∙ ap (span_at n) same ∙ sets.here))
    | inr other ↦ inr (other, sym (sets.others q other) ∙ is)
  ]

  both_count : (s : Span) → s ≡ record { count = lower.count + count; mark = lower.mark } → s.count ≡ lower.count + count
  both_count s e = ap (λ t. t.count) e

  run_of : (q : ℕ) (s : Span) → Which q s → IsRun q s
  run_of q s (inl a) = subst (λ p. IsRun p s) (sym a.0) (subst (IsRun at) (sym a.1) (record { some = omega (arith, some); pages = omega (arith, pages); indexes = indexes }))
  run_of q s (inr a) = runs.whole q s a.1

  -- none starts in the free pages
  behind : (q : ℕ) (s : Span) → span_at m q ≡ Some s → at + lower.count ≤ q → at + lower.count + count ≤ q
  behind q s is low = elim (cases_lt q (at + lower.count + count)) [
    | inr past ↦ past
    | inl to ↦ let far = free q s is to in absurd (omega (arith, far, low, (runs.whole q s is).some))
  ]

  all_apart : (q p : ℕ) (s t : Span) → Which q s → Which p t → q < p → q + s.count ≤ p
  all_apart q p s t (inl a) (inl b) less = absurd (omega (arith, a.0, b.0, less))
  all_apart q p s t (inl a) (inr b) less =
      let near = runs.apart at p lower t there b.1 (omega (arith, a.0, less)) in
      let far = behind p t b.1 near in omega (arith, far, a.0, both_count s a.1)
  all_apart q p s t (inr a) (inl b) less = let far = runs.apart q at s lower a.1 there (omega (arith, b.0, less)) in omega (arith, far, b.0)
  all_apart q p s t (inr a) (inr b) less = runs.apart q p s t a.1 b.1 less

  pub extended_runs : AreRuns n
  extended_runs = record { ordered = sets.ordered; whole = λ q s is. run_of q s (which q s is); apart = λ q p s t a b. all_apart q p s t (which q s a) (which p t b) }

  module _ (mark : Mark) (on : onward lower.mark lower.count ≡ Some mark) where
    first : ℕ
    first = at + lower.count

    -- what the run has at a page of the range
    here_is : (page : ℕ) → at + lower.count ≤ page → onward lower.mark (page - at) ≡ Some (goes_on mark (page - (at + lower.count)))
    here_is page low =
        let far : page - at ≡ lower.count + (page - (at + lower.count)) = omega (arith, low) in
        ap (onward lower.mark) far ∙ sym (onward-onward lower.mark lower.count (page - (at + lower.count))) ∙ ap (λ o. onward o (page - (at + lower.count))) on

    pub extended_marks : marks n ≡ mapped (marks m) (at + lower.count) count mark
    extended_marks = told n extended_runs (mapped (marks m) (at + lower.count) count mark) old here
      where
        old : (page : ℕ) (found : Option Mark) → IsIn n.entries page found → get (mapped (marks m) (at + lower.count) count mark) page ≡ found
        old page found is = get-change (marks m) (at + lower.count) count (λ page _. Some (goes_on mark (page - (at + lower.count)))) page ∙ go (within (at + lower.count) count page) refl (which is.first is.span is.there)
          where
            go : (b : Bool) → within (at + lower.count) count page ≡ b → Which is.first is.span → cond b (Some (goes_on mark (page - (at + lower.count)))) (get (marks m) page) ≡ found
            go true w (inl a) =
                let place : page - at ≡ is.place = omega (arith, a.0, is.is_page) in
                sym (here_is page (inside (at + lower.count) count page w).0) ∙ ap (onward lower.mark) place ∙ ap (λ s. onward s.mark is.place) (sym a.1) ∙ is.carries
            go true w (inr a) =
                let in_range = inside (at + lower.count) count page w in
                let far = free is.first is.span a.1 (omega (arith, in_range.1, is.is_page)) in
                absurd (omega (arith, far, in_range.0, is.is_page, is.below))
            go false w (inl a) =
                let upto : page < at + lower.count = elim (cases_lt page (at + lower.count)) [
                  | inl less ↦ less
                  | inr more ↦ absurd (outside (at + lower.count) count page w more (omega (arith, a.0, is.is_page, is.below, both_count is.span a.1)))
                ] in
                has m runs page found (record {
                  first = at;
                  span = lower;
                  place = is.place;
                  there = there;
                  below = omega (arith, upto, is.is_page, a.0);
                  is_page = omega (arith, is.is_page, a.0);
                  carries = ap (λ s. onward s.mark is.place) (sym a.1) ∙ is.carries;
                })
            go false w (inr a) = has m runs page found (record { first = is.first; span = is.span; place = is.place; there = a.1; below = is.below; is_page = is.is_page; carries = is.carries })

        here : (page : ℕ) (found : Mark) → get (mapped (marks m) (at + lower.count) count mark) page ≡ Some found → IsIn n.entries page (Some found)
        here page found is = go (within (at + lower.count) count page) refl (sym (get-change (marks m) (at + lower.count) count (λ page _. Some (goes_on mark (page - (at + lower.count)))) page) ∙ is)
          where
            go : (b : Bool) → within (at + lower.count) count page ≡ b → cond b (Some (goes_on mark (page - (at + lower.count)))) (get (marks m) page) ≡ Some found → IsIn n.entries page (Some found)
            go true w h =
                let in_range = inside (at + lower.count) count page w in
                record {
                  first = at;
                  span = record { count = lower.count + count; mark = lower.mark };
                  place = page - at;
                  there = sets.here;
                  below = omega (arith, in_range.0, in_range.1);
                  is_page = omega (arith, in_range.0);
                  carries = here_is page in_range.0 ∙ h;
                }
            go false w h =
                let was = is_in m runs page found h in
                elim (cases_eq was.first at) [
                  | inl same ↦
                      let of : was.span ≡ lower = same_some (sym was.there ∙ ap (span_at m) same ∙ there) in
                      let many : was.span.count ≡ lower.count = ap (λ s. s.count) of in
                      record {
                        first = at;
                        span = record { count = lower.count + count; mark = lower.mark };
                        place = was.place;
                        there = sets.here;
                        below = omega (arith, was.below, many);
                        is_page = omega (arith, was.is_page, same);
                        carries = ap (λ s. onward s.mark was.place) (sym of) ∙ was.carries;
                      }
                  | inr other ↦ record { first = was.first; span = was.span; place = was.place; there = sets.others was.first other ∙ was.there; below = was.below; is_page = was.is_page; carries = was.carries }
                ]
