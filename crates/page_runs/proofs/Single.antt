-- A range that is one run, and one that gets one run in the place of those that it has.
use Rattle.std.proofs.Common.{◌≡◌, ℕ, ◌+◌, ◌-◌, ◌^◌, ◌<◌, ◌≤◌, Bool, true, false, cond, refl, sym, ap, subst, ◌∙◌, arith}
use mathlib.Core.Logic.{◌⊎◌, inl, inr}
use Rattle.std.specs.Prelude.{Option, Some, None, IsSome, is_some}
use Rattle.std.specs.FinMap.{get}
use Rattle.std.proofs.lemmas.Bool.{cases_lt, cases_eq, cases_order}
use Rattle.table_place.specs.Range.{within}
use Rattle.page_map.proofs.Range.{get-change, inside, outside}
use Rattle.page_runs.specs.declared.mark.Mark.{Mark}
use Rattle.page_runs.specs.declared.spans.Span.{Span}
use Rattle.page_runs.specs.declared.change.Change.{Change}
use Rattle.page_runs.specs.Mark.{goes_on, index_of, onward}
use Rattle.page_runs.specs.Spans.{Spans, span_at, marks, mapped, IsRun, AreRuns, EndBy, IsEdge, IsLastUpTo, Sets, Changes}
use Rattle.page_runs.specs.Changes.{made, painted, after_change, IsChange, IsCut, IsFilled, IsLaid, IsOpen, IsWhole}
use Rattle.page_runs.proofs.Views.{IsIn, has, is_in, told, same_some, not_some}
use Rattle.page_runs.proofs.Painted.{painted_are_runs, repainted}

-- ---- one run

module _ (m n : Spans) (c : Change) (span new : Span) (whole : IsWhole m c.first c.count span) (new_is : new ≡ record { count = span.count; mark = made c.effect 0 span.mark }) (fits : IsChange c) (runs : AreRuns m)
    (sets : Sets m n c.first (Some new)) where
  stops : (q : ℕ) (s : Span) → span_at m q ≡ Some s → q < c.first + c.count → q + s.count ≤ c.first + c.count
  stops q s is low = elim (cases_order q c.first) [
    | inl same ↦
        let of : s ≡ span = same_some (sym is ∙ ap (span_at m) same ∙ whole.there) in
        let many : s.count ≡ span.count = ap (λ t. t.count) of in
        omega (arith, same, many, whole.as_many)
    | inr (inl less) ↦ let far = runs.apart q c.first s span is whole.there less in omega (arith, far)
    | inr (inr more) ↦ let far = runs.apart c.first q span s whole.there is more in absurd (omega (arith, far, low, whole.as_many))
  ]

  cut : IsCut m c
  cut = record { start = λ q s is low. runs.apart q c.first s span is whole.there low; stop = stops }

  filled : IsFilled m c
  filled mark is page low high = record { first = c.first; span = span; there = whole.there; low = low; high = omega (arith, high, whole.as_many) }

  none_behind : (q : ℕ) → c.first < q → q < c.first + c.count → span_at m q ≡ None
  none_behind q low high = go (span_at m q) refl
    where
      go : (o : Option Span) → span_at m q ≡ o → o ≡ None
      go None e = refl
      go (Some s) e = let far = runs.apart c.first q span s whole.there e low in absurd (omega (arith, far, high, whole.as_many))

  painted_here : Some new ≡ painted c c.first (Some span)
  painted_here =
      let start : 0 ≡ c.first - c.first = omega arith in
      ap Some new_is ∙ ap (λ place. Some (record { count = span.count; mark = made c.effect place span.mark })) start

  changes : Changes (painted c) c.first (c.first + c.count) m n
  changes = record {
    ordered = sets.ordered;
    below = λ q less. sets.others q (λ same. absurd (omega (arith, same, less)));
    changed = λ q low high. elim (cases_eq q c.first) [
      | inl same ↦ ap (span_at n) same ∙ sets.here ∙ painted_here ∙ ap (painted c c.first) (sym whole.there) ∙ ap (λ k. painted c k (span_at m k)) (sym same)
      | inr other ↦
          let none = none_behind q (omega (arith, low, other)) high in
          sets.others q other ∙ none ∙ sym (ap (painted c q) none)
    ];
    above = λ q more. sets.others q (λ same. absurd (omega (arith, same, more, whole.as_many, (runs.whole c.first span whole.there).some)));
  }

  pub one_runs : AreRuns n
  one_runs = painted_are_runs m n c changes fits runs cut

  pub one_made : marks n ≡ after_change (marks m) c
  one_made = repainted m n c changes fits runs cut filled

-- ---- a free range

pub free_below : (m : Spans) → AreRuns m → (first end at : ℕ) (span : Span) → IsLastUpTo m (end - 1) at span → at + span.count ≤ first → EndBy first end m
free_below m runs first end at span last ends q s is low = elim (cases_order q at) [
  | inl same ↦
      let of : s ≡ span = same_some (sym is ∙ ap (span_at m) same ∙ last.there) in
      let many : s.count ≡ span.count = ap (λ t. t.count) of in
      omega (arith, same, many, ends)
  | inr (inl less) ↦ let far = runs.apart q at s span is last.there less in omega (arith, far, ends)
  | inr (inr more) ↦ absurd (not_some (sym (last.last q more (omega (arith, low))) ∙ is))
]

pub free_all : (m : Spans) (first end : ℕ) → ((q : ℕ) → q ≤ end - 1 → span_at m q ≡ None) → EndBy first end m
free_all m first end none q s is low = absurd (not_some (sym (none q (omega (arith, low))) ∙ is))

module _ (m n : Spans) (first count : ℕ) (mark : Mark) (some : 0 < count) (free : EndBy first (first + count) m) where
  pub free_start : IsEdge first m
  free_start q s is low = free q s is (omega (arith, low, some))

  pub free_stop : IsEdge (first + count) m
  free_stop q s is low = let far = free q s is low in omega (arith, far)

  pub free_laid : Sets m n first (Some (record { count = count; mark = Some mark })) → IsLaid m n first count mark
  free_laid sets = record {
    ordered = sets.ordered;
    here = sets.here;
    inside = λ q low high. sets.others q (λ same. absurd (omega (arith, same, low))) ∙ none q low high (span_at m q) refl;
    below = λ q less. sets.others q (λ same. absurd (omega (arith, same, less)));
    above = λ q more. sets.others q (λ same. absurd (omega (arith, same, more, some)));
  }
    where
      none : (q : ℕ) → first < q → q < first + count → (o : Option Span) → span_at m q ≡ o → o ≡ None
      none q low high None e = refl
      none q low high (Some s) e = let far = free q s e high in absurd (omega (arith, far, low))

-- ---- the first run of an open range

pub starts_there : (m : Spans) (first end : ℕ) → IsOpen m first end → IsSome (span_at m first)
starts_there m first end is = elim (cases_lt is.taken.first first) [
  | inl before ↦ let far = is.start is.taken.first is.taken.span is.taken.there before in absurd (omega (arith, far, is.taken.high))
  | inr from ↦
      let same : is.taken.first ≡ first = omega (arith, from, is.taken.low) in
      ap (λ (o : Option Span). is_some o) (sym (ap (span_at m) same) ∙ is.taken.there)
]

pub laid_after : (m mid n : Spans) (first count : ℕ) (mark : Mark) → 0 < count → Changes (λ _ _. None) (first + 1) (first + count) m mid →
    Sets mid n first (Some (record { count = count; mark = Some mark })) → IsLaid m n first count mark
laid_after m mid n first count mark some changes sets = record {
  ordered = sets.ordered;
  here = sets.here;
  inside = λ q low high. sets.others q (λ same. absurd (omega (arith, same, low))) ∙ changes.changed q (omega (arith, low)) high;
  below = λ q less. sets.others q (λ same. absurd (omega (arith, same, less))) ∙ changes.below q (omega (arith, less));
  above = λ q more. sets.others q (λ same. absurd (omega (arith, same, more, some))) ∙ changes.above q more;
}

-- ---- one run in the place of those of a range

module _ (m n : Spans) (first count : ℕ) (mark : Mark) (some : 0 < count) (pages : first + count < 2 ^ 64) (indexes : index_of mark.backing + count < 2 ^ 64)
    (start : IsEdge first m) (stop : IsEdge (first + count) m) (runs : AreRuns m) (laid : IsLaid m n first count mark) where
  own : Span
  own = record { count = count; mark = Some mark }

  abbrev Side : ℕ → Type 0
  Side q = (q < first) ⊎ (first + count ≤ q)

  abbrev Which : ℕ → Span → Type 0
  Which q s = ((q ≡ first) × (s ≡ record { count = count; mark = Some mark })) ⊎ (Side q × (span_at m q ≡ Some s))

  which : (q : ℕ) (s : Span) → span_at n q ≡ Some s → Which q s
  which q s is = elim (cases_order q first) [
    | inl same ↦ inl (same, same_some (sym is ∙ ap (span_at n) same ∙ laid.here))
    | inr (inl less) ↦ inr (inl less, sym (laid.below q less) ∙ is)
    | inr (inr more) ↦ elim (cases_lt q (first + count)) [
      | inl to ↦ absurd (not_some (sym (laid.inside q more to) ∙ is))
      | inr past ↦ inr (inr past, sym (laid.above q past) ∙ is)
    ]
  ]

  own_count : (s : Span) → s ≡ record { count = count; mark = Some mark } → s.count ≡ count
  own_count s e = ap (λ t. t.count) e

  run_of : (q : ℕ) (s : Span) → Which q s → IsRun q s
  run_of q s (inl a) = subst (λ p. IsRun p s) (sym a.0) (subst (IsRun first) (sym a.1) (record { some = some; pages = pages; indexes = indexes }))
  run_of q s (inr a) = runs.whole q s a.1

  all_apart : (q p : ℕ) (s t : Span) → Which q s → Which p t → q < p → q + s.count ≤ p
  all_apart q p s t (inl a) (inl b) less = absurd (omega (arith, a.0, b.0, less))
  all_apart q p s t (inl a) (inr (inl low, b)) less = absurd (omega (arith, a.0, low, less))
  all_apart q p s t (inl a) (inr (inr far, b)) less = omega (arith, a.0, far, own_count s a.1)
  all_apart q p s t (inr (inl low, a)) (inl b) less = let far = start q s a low in omega (arith, far, b.0)
  all_apart q p s t (inr (inr far, a)) (inl b) less = absurd (omega (arith, far, b.0, less))
  all_apart q p s t (inr a) (inr b) less = runs.apart q p s t a.1 b.1 less

  pub laid_runs : AreRuns n
  laid_runs = record { ordered = laid.ordered; whole = λ q s is. run_of q s (which q s is); apart = λ q p s t a b. all_apart q p s t (which q s a) (which p t b) }

  -- a run outside of the range has no page there
  beside : (page q : ℕ) (s : Span) → Side q → span_at m q ≡ Some s → q ≤ page → page < q + s.count → first ≤ page → page < first + count → ⊥
  beside page q s (inl low) is from below at_least less = let far = start q s is low in omega (arith, far, below, at_least)
  beside page q s (inr far) is from below at_least less = omega (arith, far, from, less)

  -- and one that has a page outside is the same
  same_beside : (page q : ℕ) (s : Span) → span_at m q ≡ Some s → q ≤ page → page < q + s.count → within first count page ≡ false → span_at n q ≡ span_at m q
  same_beside page q s is from below w = elim (cases_lt q first) [
    | inl low ↦ laid.below q low
    | inr at_least ↦ elim (cases_lt q (first + count)) [
      | inl to ↦
          let far = stop q s is to in
          absurd (outside first count page w (omega (arith, at_least, from)) (omega (arith, far, below)))
      | inr past ↦ laid.above q past
    ]
  ]

  pub laid_marks : marks n ≡ mapped (marks m) first count mark
  laid_marks = told n laid_runs (mapped (marks m) first count mark) there here
    where
      there : (page : ℕ) (found : Option Mark) → IsIn n.entries page found → get (mapped (marks m) first count mark) page ≡ found
      there page found at = get-change (marks m) first count (λ page _. Some (goes_on mark (page - first))) page ∙ go (within first count page) refl (which at.first at.span at.there)
        where
          go : (b : Bool) → within first count page ≡ b → Which at.first at.span → cond b (Some (goes_on mark (page - first))) (get (marks m) page) ≡ found
          go true w (inl a) =
              let far : page - first ≡ at.place = omega (arith, a.0, at.is_page) in
              ap (λ i. onward (Some mark) i) far ∙ ap (λ s. onward s.mark at.place) (sym a.1) ∙ at.carries
          go true w (inr a) = absurd (beside page at.first at.span a.0 a.1 (omega (arith, at.is_page)) (omega (arith, at.is_page, at.below)) (inside first count page w).0 (inside first count page w).1)
          go false w (inl a) = absurd (outside first count page w (omega (arith, a.0, at.is_page)) (omega (arith, a.0, at.is_page, at.below, own_count at.span a.1)))
          go false w (inr a) = has m runs page found (record { first = at.first; span = at.span; place = at.place; there = a.1; below = at.below; is_page = at.is_page; carries = at.carries })

      here : (page : ℕ) (found : Mark) → get (mapped (marks m) first count mark) page ≡ Some found → IsIn n.entries page (Some found)
      here page found is = go (within first count page) refl (sym (get-change (marks m) first count (λ page _. Some (goes_on mark (page - first))) page) ∙ is)
        where
          go : (b : Bool) → within first count page ≡ b → cond b (Some (goes_on mark (page - first))) (get (marks m) page) ≡ Some found → IsIn n.entries page (Some found)
          go true w h = record {
            first = first;
            span = record { count = count; mark = Some mark };
            place = page - first;
            there = laid.here;
            below = omega (arith, (inside first count page w).0, (inside first count page w).1);
            is_page = omega (arith, (inside first count page w).0);
            carries = h;
          }
          go false w h =
              let at = is_in m runs page found h in
              let same = same_beside page at.first at.span at.there (omega (arith, at.is_page)) (omega (arith, at.is_page, at.below)) w in
              record { first = at.first; span = at.span; place = at.place; there = same ∙ at.there; below = at.below; is_page = at.is_page; carries = at.carries }
