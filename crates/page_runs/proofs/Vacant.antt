-- Runs without marks: putting one where no run is, and taking one out.
use Rattle.std.proofs.Common.{◌≡◌, ◌≢◌, ℕ, ◌+◌, ◌-◌, ◌^◌, ◌<◌, ◌≤◌, sym, ap, subst, ◌∙◌, arith}
use mathlib.Core.Logic.{◌⊎◌, inl, inr}
use Rattle.std.specs.Prelude.{Option, Some, None}
use Rattle.std.specs.FinMap.{get}
use Rattle.std.proofs.lemmas.Bool.{cases_lt, cases_eq}
use Rattle.page_runs.specs.declared.mark.Mark.{Mark}
use Rattle.page_runs.specs.declared.spans.Span.{Span}
use Rattle.page_runs.specs.Mark.{first_index, onward}
use Rattle.page_runs.specs.Spans.{Spans, span_at, marks, IsRun, AreRuns, IsEdge, IsFree, IsTaken, IsTakenTo, IsLastUpTo, Sets}
use Rattle.page_runs.proofs.Views.{IsIn, has, has_nothing, is_in, told, same_some, not_some}

-- where the run that has a page ends
pub ends_at : (spans : Spans) (page first : ℕ) (span : Span) → IsLastUpTo spans page first span → page < first + span.count → IsTakenTo spans page (first + span.count)
ends_at spans page first span at inside = record {
  some = inside;
  taken = λ q low high. record { first = first; span = span; there = at.there; low = omega (arith, at.near, low); high = high };
}

pub ends_before : (spans : Spans) → AreRuns spans → (page first : ℕ) (span : Span) → IsLastUpTo spans page first span → first + span.count ≤ page → IsFree spans page
ends_before spans runs page first span at far q s is low = elim (cases_lt q first) [
  | inl before ↦ let end = runs.apart q first s span is at.there before in omega (arith, end, at.near)
  | inr from ↦ elim (cases_eq q first) [
    | inl same ↦
        let of : s ≡ span = same_some (sym is ∙ ap (span_at spans) same ∙ at.there) in
        let many : s.count ≡ span.count = ap (λ t. t.count) of in
        omega (arith, many, same, far)
    | inr other ↦ absurd (not_some (sym (at.last q (omega (arith, from, other)) low) ∙ is))
  ]
]

pub none_before : (spans : Spans) (page : ℕ) → ((q : ℕ) → q ≤ page → span_at spans q ≡ None) → IsFree spans page
none_before spans page none q s is low = absurd (not_some (sym (none q low) ∙ is))

-- the next run starts behind a free page
pub starts_behind : (spans : Spans) → AreRuns spans → (page first : ℕ) (span : Span) → IsFree spans page → span_at spans first ≡ Some span → page ≤ first → page < first
starts_behind spans runs page first span free there from = elim (cases_lt page first) [
  | inl less ↦ less
  | inr upto ↦ let far = free first span there upto in absurd (omega (arith, far, upto, from, (runs.whole first span there).some))
]

-- `n` has one run more, without marks, from a free page on up to where no other starts
module _ (m n : Spans) (page edge : ℕ) (gap : Span) (many : gap.count ≡ edge - page) (vacant : gap.mark ≡ None) (room : page < edge) (fits : edge < 2 ^ 64) (free : IsFree m page)
    (none : (q : ℕ) → page ≤ q → q < edge → span_at m q ≡ None) (runs : AreRuns m) (sets : Sets m n page (Some gap)) where
  abbrev Which : ℕ → Span → Type 0
  Which q s = ((q ≡ page) × (s ≡ gap)) ⊎ ((q ≢ page) × (span_at m q ≡ Some s))

  which : (q : ℕ) (s : Span) → span_at n q ≡ Some s → Which q s
  which q s is = elim (cases_eq q page) [
    | inl same ↦ inl (same, same_some (sym is ∙ ap (span_at n) same ∙ sets.here))
    | inr other ↦ inr (other, sym (sets.others q other) ∙ is)
  ]

  there : (q : ℕ) (s : Span) → span_at m q ≡ Some s → span_at n q ≡ Some s
  there q s is = sets.others q (λ same. not_some (sym (none q (omega (arith, same)) (omega (arith, same, room))) ∙ is)) ∙ is

  gap_run : IsRun page gap
  gap_run = record {
    some = omega (arith, many, room);
    pages = omega (arith, many, room, fits);
    indexes = subst (λ o. first_index o + gap.count < 2 ^ 64) (sym vacant) (omega (arith, many, room, fits));
  }

  run_of : (q : ℕ) (s : Span) → Which q s → IsRun q s
  run_of q s (inl a) = subst (λ p. IsRun p s) (sym a.0) (subst (IsRun page) (sym a.1) gap_run)
  run_of q s (inr a) = runs.whole q s a.1

  behind : (q : ℕ) (s : Span) → span_at m q ≡ Some s → page < q → edge ≤ q
  behind q s is more = elim (cases_lt q edge) [ inl less ↦ absurd (not_some (sym (none q (omega (arith, more)) less) ∙ is)) | inr from ↦ from ]

  gap_count : (s : Span) → s ≡ gap → s.count ≡ edge - page
  gap_count s e = ap (λ t. t.count) e ∙ many

  all_apart : (q p : ℕ) (s t : Span) → Which q s → Which p t → q < p → q + s.count ≤ p
  all_apart q p s t (inl a) (inl b) less = absurd (omega (arith, a.0, b.0, less))
  all_apart q p s t (inl a) (inr b) less = let far = behind p t b.1 (omega (arith, a.0, less)) in omega (arith, far, a.0, gap_count s a.1)
  all_apart q p s t (inr a) (inl b) less = let far = free q s a.1 (omega (arith, b.0, less)) in omega (arith, far, b.0)
  all_apart q p s t (inr a) (inr b) less = runs.apart q p s t a.1 b.1 less

  pub filled_are_runs : AreRuns n
  filled_are_runs = record { ordered = sets.ordered; whole = λ q s is. run_of q s (which q s is); apart = λ q p s t a b. all_apart q p s t (which q s a) (which p t b) }

  pub taken_too : (q : ℕ) → IsTaken m q → IsTaken n q
  taken_too q at = record { first = at.first; span = at.span; there = there at.first at.span at.there; low = at.low; high = at.high }

  -- it starts where none goes on across, and ends before no edge
  pub filled_start : IsEdge page n
  filled_start q s is low = go (which q s is)
    where
      go : Which q s → q + s.count ≤ page
      go (inl a) = absurd (omega (arith, a.0, low))
      go (inr a) = free q s a.1 (omega (arith, low))

  pub filled_edge : (end : ℕ) → edge ≤ end → IsEdge end m → IsEdge end n
  filled_edge end far is q s at low = go (which q s at)
    where
      go : Which q s → q + s.count ≤ end
      go (inl a) = omega (arith, a.0, gap_count s a.1, far, room)
      go (inr a) = is q s a.1 low

  pub filled_to : IsTakenTo n page edge
  filled_to = record { some = room; taken = λ q low high. record { first = page; span = gap; there = sets.here; low = low; high = omega (arith, many, high, room) } }

  -- the new run's pages had no marks
  out : (q : ℕ) → page ≤ q → q < edge → (first : ℕ) (span : Span) → span_at m first ≡ Some span → first ≤ q → first + span.count ≤ q
  out q low high first span is from = elim (cases_lt page first) [
    | inl after ↦ let far = behind first span is after in absurd (omega (arith, far, from, high))
    | inr upto ↦ let far = free first span is upto in omega (arith, far, low)
  ]

  pub filled_same : marks n ≡ marks m
  filled_same = told n filled_are_runs (marks m) old here
    where
      old : (q : ℕ) (found : Option Mark) → IsIn n.entries q found → get (marks m) q ≡ found
      old q found at = go (which at.first at.span at.there)
        where
          go : Which at.first at.span → get (marks m) q ≡ found
          go (inl a) =
              has_nothing m runs q (out q (omega (arith, a.0, at.is_page)) (omega (arith, a.0, at.is_page, at.below, gap_count at.span a.1)))
              ∙ sym (ap (λ o. onward o at.place) (ap (λ s. s.mark) a.1 ∙ vacant)) ∙ at.carries
          go (inr a) = has m runs q found (record { first = at.first; span = at.span; place = at.place; there = a.1; below = at.below; is_page = at.is_page; carries = at.carries })

      here : (q : ℕ) (mark : Mark) → get (marks m) q ≡ Some mark → IsIn n.entries q (Some mark)
      here q mark is = let at = is_in m runs q mark is in
          record { first = at.first; span = at.span; place = at.place; there = there at.first at.span at.there; below = at.below; is_page = at.is_page; carries = at.carries }

-- `n` lacks a run without marks
module _ (m n : Spans) (page : ℕ) (gap : Span) (at_page : span_at m page ≡ Some gap) (vacant : gap.mark ≡ None) (runs : AreRuns m) (sets : Sets m n page None) where
  left : (q : ℕ) (s : Span) → span_at n q ≡ Some s → span_at m q ≡ Some s
  left q s is = elim (cases_eq q page) [
    | inl same ↦ absurd (not_some (sym (ap (span_at n) same ∙ sets.here) ∙ is))
    | inr other ↦ sym (sets.others q other) ∙ is
  ]

  pub emptied_are_runs : AreRuns n
  emptied_are_runs = record { ordered = sets.ordered; whole = λ q s is. runs.whole q s (left q s is); apart = λ q p s t a b. runs.apart q p s t (left q s a) (left p t b) }

  pub emptied_same : marks n ≡ marks m
  emptied_same = told n emptied_are_runs (marks m) old here
    where
      old : (q : ℕ) (found : Option Mark) → IsIn n.entries q found → get (marks m) q ≡ found
      old q found at = has m runs q found (record { first = at.first; span = at.span; place = at.place; there = left at.first at.span at.there; below = at.below; is_page = at.is_page; carries = at.carries })

      here : (q : ℕ) (mark : Mark) → get (marks m) q ≡ Some mark → IsIn n.entries q (Some mark)
      here q mark is = let at = is_in m runs q mark is in
          record {
            first = at.first;
            span = at.span;
            place = at.place;
            there = sets.others at.first (λ same.
                let of : gap ≡ at.span = same_some (sym at_page ∙ ap (span_at m) (sym same) ∙ at.there) in
                not_some (sym (ap (λ s. onward s.mark at.place) (sym of) ∙ ap (λ o. onward o at.place) vacant) ∙ at.carries)) ∙ at.there;
            below = at.below;
            is_page = at.is_page;
            carries = at.carries;
          }
