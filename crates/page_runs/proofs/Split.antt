-- One run in the place of two, and two in the place of one.
use Rattle.std.proofs.Common.{◌≡◌, ◌≢◌, ℕ, ◌+◌, ◌-◌, ◌^◌, ◌<◌, ◌≤◌, refl, sym, ap, subst, ◌∙◌, arith, add_assoc}
use mathlib.Core.Logic.{◌⊎◌, inl, inr}
use Rattle.std.specs.Prelude.{Option, Some, None}
use Rattle.std.specs.Ordering.{nat_cmp}
use Rattle.std.specs.BTreeMap.{IsOrdered}
use Rattle.std.proofs.lemmas.Bool.{cases_lt, cases_eq}
use Rattle.corten_base.specs.declared.calls.Backing.{Backing}
use Rattle.corten_base.specs.declared.calls.Backing.TheVariants.{Zero, File}
use Rattle.page_runs.specs.declared.mark.Mark.{Mark}
use Rattle.page_runs.specs.declared.spans.Span.{Span}
use Rattle.page_runs.specs.Mark.{goes_on, backing_after, index_of, onward, first_index}
use Rattle.page_runs.specs.Spans.{Spans, span_at, marks, IsRun, AreRuns, IsEdge, IsTaken, IsLastUpTo, Sets}
use Rattle.page_runs.proofs.Views.{IsIn, has, is_in, told, same_some, not_some}

backing_after-backing_after : (b : Backing) (i j : ℕ) → backing_after (backing_after b i) j ≡ backing_after b (i + j)
backing_after-backing_after Zero i j = refl
backing_after-backing_after (File file index) i j = ap (File file) (add_assoc index i j)

pub goes_on-goes_on : (mark : Mark) (i j : ℕ) → goes_on (goes_on mark i) j ≡ goes_on mark (i + j)
goes_on-goes_on mark i j = λ k. record { perm = mark.perm; backing = backing_after-backing_after mark.backing i j k }

pub onward-onward : (mark : Option Mark) (i j : ℕ) → onward (onward mark i) j ≡ onward mark (i + j)
onward-onward None i j = refl
onward-onward (Some mark) i j = ap Some (goes_on-goes_on mark i j)

pub index_after : (b : Backing) (i n top : ℕ) → index_of b + (i + n) < top → index_of (backing_after b i) + n < top
index_after Zero i n top h = omega arith
index_after (File file index) i n top h = omega arith

index_before : (b : Backing) (i n top : ℕ) → index_of (backing_after b i) + n < top → i + n < top → index_of b + (i + n) < top
index_before Zero i n top h low = omega arith
index_before (File file index) i n top h low = omega arith

first_after : (mark : Option Mark) (i n top : ℕ) → first_index mark + (i + n) < top → first_index (onward mark i) + n < top
first_after None i n top h = omega (arith, h)
first_after (Some mark) i n top h = index_after mark.backing i n top h

first_before : (mark : Option Mark) (i n top : ℕ) → first_index (onward mark i) + n < top → i + n < top → first_index mark + (i + n) < top
first_before None i n top h low = omega (arith, low)
first_before (Some mark) i n top h low = index_before mark.backing i n top h low

run_at : {p q : ℕ} {s t : Span} → p ≡ q → s ≡ t → IsRun p s → IsRun q t
run_at {p} {q} {s} {t} e f r = subst (λ n. IsRun n t) e (subst (IsRun p) f r)

-- the run at `first` in `whole` is the two runs at `first` and `page` in `halved`
pub record IsHalved (whole halved : Spans) (first page : ℕ) (span lower upper : Span) : Type 0 where
  pub whole_first : span_at whole first ≡ Some span
  pub whole_page : span_at whole page ≡ None
  pub half_first : span_at halved first ≡ Some lower
  pub half_page : span_at halved page ≡ Some upper
  pub others : (q : ℕ) → q ≢ first → q ≢ page → span_at halved q ≡ span_at whole q
  pub meets : first + lower.count ≡ page
  pub together : span.count ≡ lower.count + upper.count
  pub lower_mark : lower.mark ≡ span.mark
  pub upper_mark : upper.mark ≡ onward span.mark lower.count
  pub lower_some : 0 < lower.count
  pub upper_some : 0 < upper.count

module _ (whole halved : Spans) (first page : ℕ) (span lower upper : Span) (h : IsHalved whole halved first page span lower upper) where
  -- which run of the halves starts at a page
  abbrev Which : ℕ → Span → Type 0
  Which q s = ((q ≡ first) × (s ≡ lower)) ⊎ (((q ≡ page) × (s ≡ upper)) ⊎ ((q ≢ first) × (q ≢ page) × (span_at whole q ≡ Some s)))

  which : (q : ℕ) (s : Span) → span_at halved q ≡ Some s → Which q s
  which q s is = elim (cases_eq q first) [
    | inl same ↦ inl (same, same_some (sym is ∙ ap (span_at halved) same ∙ h.half_first))
    | inr other ↦ elim (cases_eq q page) [
      | inl same ↦ inr (inl (same, same_some (sym is ∙ ap (span_at halved) same ∙ h.half_page)))
      | inr apart ↦ inr (inr (other, apart, sym (h.others q other apart) ∙ is))
    ]
  ]

  -- and of the whole
  abbrev Whole : ℕ → Span → Type 0
  Whole q s = ((q ≡ first) × (s ≡ span)) ⊎ ((q ≢ first) × (q ≢ page) × (span_at halved q ≡ Some s))

  whole_which : (q : ℕ) (s : Span) → span_at whole q ≡ Some s → Whole q s
  whole_which q s is = elim (cases_eq q first) [
    | inl same ↦ inl (same, same_some (sym is ∙ ap (span_at whole) same ∙ h.whole_first))
    | inr other ↦
        let apart : q ≢ page = λ same. not_some (sym h.whole_page ∙ ap (span_at whole) (sym same) ∙ is) in
        inr (other, apart, h.others q other apart ∙ is)
  ]

  lower_count : (s : Span) → s ≡ lower → s.count ≡ lower.count
  lower_count s e = ap (λ t. t.count) e

  upper_count : (s : Span) → s ≡ upper → s.count ≡ upper.count
  upper_count s e = ap (λ t. t.count) e

  span_count : (s : Span) → s ≡ span → s.count ≡ span.count
  span_count s e = ap (λ t. t.count) e

  module _ (runs : AreRuns whole) (ordered : IsOrdered nat_cmp halved) where
    is_run : IsRun first span
    is_run = runs.whole first span h.whole_first

    lower_run : IsRun first lower
    lower_run = record {
      some = h.lower_some;
      pages = omega (arith, is_run.pages, h.together);
      indexes = subst (λ m. first_index m + lower.count < 2 ^ 64) (sym h.lower_mark) (omega (arith, is_run.indexes, h.together));
    }

    upper_run : IsRun page upper
    upper_run = record {
      some = h.upper_some;
      pages = omega (arith, is_run.pages, h.together, h.meets);
      indexes = subst (λ m. first_index m + upper.count < 2 ^ 64) (sym h.upper_mark)
          (first_after span.mark lower.count upper.count (2 ^ 64) (omega (arith, is_run.indexes, h.together)));
    }

    half_run : (q : ℕ) (s : Span) → Which q s → IsRun q s
    half_run q s (inl at) = run_at (sym at.0) (sym at.1) lower_run
    half_run q s (inr (inl at)) = run_at (sym at.0) (sym at.1) upper_run
    half_run q s (inr (inr at)) = runs.whole q s at.2

    half_apart : (q p : ℕ) (s t : Span) → Which q s → Which p t → q < p → q + s.count ≤ p
    half_apart q p s t (inl a) (inl b) less = absurd (omega (arith, a.0, b.0, less))
    half_apart q p s t (inl a) (inr (inl b)) less = omega (arith, a.0, b.0, lower_count s a.1, h.meets)
    half_apart q p s t (inl a) (inr (inr b)) less =
        let far = runs.apart first p span t h.whole_first b.2 (omega (arith, a.0, less)) in omega (arith, far, a.0, lower_count s a.1, h.together)
    half_apart q p s t (inr (inl a)) (inl b) less = absurd (omega (arith, a.0, b.0, less, h.meets))
    half_apart q p s t (inr (inl a)) (inr (inl b)) less = absurd (omega (arith, a.0, b.0, less))
    half_apart q p s t (inr (inl a)) (inr (inr b)) less =
        let far = runs.apart first p span t h.whole_first b.2 (omega (arith, a.0, less, h.meets)) in omega (arith, far, a.0, upper_count s a.1, h.together, h.meets)
    half_apart q p s t (inr (inr a)) (inl b) less =
        let far = runs.apart q first s span a.2 h.whole_first (omega (arith, b.0, less)) in omega (arith, far, b.0)
    half_apart q p s t (inr (inr a)) (inr (inl b)) less = elim (cases_lt q first) [
      | inl before ↦ let far = runs.apart q first s span a.2 h.whole_first before in omega (arith, far, b.0, h.meets)
      | inr after ↦
          let behind : first < q = omega (arith, after, a.0) in
          let far = runs.apart first q span s h.whole_first a.2 behind in absurd (omega (arith, far, b.0, less, h.together, h.meets))
    ]
    half_apart q p s t (inr (inr a)) (inr (inr b)) less = runs.apart q p s t a.2 b.2 less

    pub halves_are_runs : AreRuns halved
    halves_are_runs = record {
      ordered = ordered;
      whole = λ q s is. half_run q s (which q s is);
      apart = λ q p s t a b. half_apart q p s t (which q s a) (which p t b);
    }

    -- an edge stays one, and the page is one
    pub edges_stay : (edge : ℕ) → IsEdge edge whole → IsEdge edge halved
    edges_stay edge stays q s is low = go (which q s is)
      where
        far : first < edge → first + span.count ≤ edge
        far less = stays first span h.whole_first less

        go : Which q s → q + s.count ≤ edge
        go (inl a) = let end = far (omega (arith, a.0, low)) in omega (arith, end, a.0, lower_count s a.1, h.together)
        go (inr (inl a)) = let end = far (omega (arith, a.0, low, h.meets)) in omega (arith, end, a.0, upper_count s a.1, h.together, h.meets)
        go (inr (inr a)) = stays q s a.2 low

    pub is_edge : IsEdge page halved
    is_edge q s is low = half_apart q page s upper (which q s is) (which page upper h.half_page) low

  module _ (runs : AreRuns halved) (ordered : IsOrdered nat_cmp whole) where
    whole_run : (q : ℕ) (s : Span) → Whole q s → IsRun q s
    whole_run q s (inl a) =
        let low = runs.whole first lower h.half_first in
        let up = runs.whole page upper h.half_page in
        let many : s.count ≡ lower.count + upper.count = span_count s a.1 ∙ h.together in
        record {
          some = omega (arith, many, h.lower_some);
          pages = omega (arith, many, a.0, up.pages, h.meets);
          indexes = subst (λ t. first_index t.mark + t.count < 2 ^ 64) (sym a.1)
              (subst (λ n. first_index span.mark + n < 2 ^ 64) (sym h.together)
              (first_before span.mark lower.count upper.count (2 ^ 64)
              (subst (λ m. first_index m + upper.count < 2 ^ 64) h.upper_mark up.indexes) (omega (arith, up.pages, h.meets))));
        }
    whole_run q s (inr a) = runs.whole q s a.2

    whole_apart : (q p : ℕ) (s t : Span) → Whole q s → Whole p t → q < p → q + s.count ≤ p
    whole_apart q p s t (inl a) (inl b) less = absurd (omega (arith, a.0, b.0, less))
    whole_apart q p s t (inl a) (inr b) less =
        let many : s.count ≡ lower.count + upper.count = span_count s a.1 ∙ h.together in
        elim (cases_lt p page) [
          | inl before ↦ let far = runs.apart first p lower t h.half_first b.2 (omega (arith, a.0, less)) in absurd (omega (arith, far, before, h.meets))
          | inr after ↦
              let behind : page < p = omega (arith, after, b.1) in
              let far = runs.apart page p upper t h.half_page b.2 behind in omega (arith, far, many, a.0, h.meets)
        ]
    whole_apart q p s t (inr a) (inl b) less = let far = runs.apart q first s lower a.2 h.half_first (omega (arith, b.0, less)) in omega (arith, far, b.0)
    whole_apart q p s t (inr a) (inr b) less = runs.apart q p s t a.2 b.2 less

    pub whole_is_runs : AreRuns whole
    whole_is_runs = record {
      ordered = ordered;
      whole = λ q s is. whole_run q s (whole_which q s is);
      apart = λ q p s t a b. whole_apart q p s t (whole_which q s a) (whole_which p t b);
    }

  -- both have the same pages
  in_halves : (q : ℕ) (found : Option Mark) → IsIn whole.entries q found → IsIn halved.entries q found
  in_halves q found at = go (whole_which at.first at.span at.there)
    where
      go : Whole at.first at.span → IsIn halved.entries q found
      go (inr a) = record { first = at.first; span = at.span; place = at.place; there = a.2; below = at.below; is_page = at.is_page; carries = at.carries }
      go (inl a) =
          let carries : onward span.mark at.place ≡ found = ap (λ s. onward s.mark at.place) (sym a.1) ∙ at.carries in
          let inside : at.place < span.count = subst (λ s. at.place < s.count) a.1 at.below in
          elim (cases_lt at.place lower.count) [
            | inl low ↦ record { first = first; span = lower; place = at.place; there = h.half_first; below = low; is_page = omega (arith, a.0, at.is_page); carries = ap (λ m. onward m at.place) h.lower_mark ∙ carries }
            | inr high ↦
                let back : lower.count + (at.place - lower.count) ≡ at.place = omega (arith, high) in
                record {
                  first = page;
                  span = upper;
                  place = at.place - lower.count;
                  there = h.half_page;
                  below = omega (arith, inside, high, h.together);
                  is_page = omega (arith, a.0, high, at.is_page, h.meets);
                  carries = ap (λ m. onward m (at.place - lower.count)) h.upper_mark ∙ onward-onward span.mark lower.count (at.place - lower.count) ∙ ap (onward span.mark) back ∙ carries;
                }
          ]

  in_whole : (q : ℕ) (found : Option Mark) → IsIn halved.entries q found → IsIn whole.entries q found
  in_whole q found at = go (which at.first at.span at.there)
    where
      go : Which at.first at.span → IsIn whole.entries q found
      go (inl a) = record {
        first = first;
        span = span;
        place = at.place;
        there = h.whole_first;
        below = omega (arith, at.below, lower_count at.span a.1, h.together);
        is_page = omega (arith, a.0, at.is_page);
        carries = ap (λ m. onward m at.place) (sym h.lower_mark) ∙ ap (λ s. onward s.mark at.place) (sym a.1) ∙ at.carries;
      }
      go (inr (inl a)) = record {
        first = first;
        span = span;
        place = lower.count + at.place;
        there = h.whole_first;
        below = omega (arith, at.below, upper_count at.span a.1, h.together);
        is_page = omega (arith, a.0, at.is_page, h.meets);
        carries = sym (onward-onward span.mark lower.count at.place) ∙ ap (λ m. onward m at.place) (sym h.upper_mark) ∙ ap (λ s. onward s.mark at.place) (sym a.1) ∙ at.carries;
      }
      go (inr (inr a)) = record { first = at.first; span = at.span; place = at.place; there = a.2; below = at.below; is_page = at.is_page; carries = at.carries }

  pub taken_stays : (q : ℕ) → IsTaken whole q → IsTaken halved q
  taken_stays q at =
      let in_half = in_halves q (onward at.span.mark (q - at.first))
      (record { first = at.first; span = at.span; place = q - at.first; there = at.there; below = omega (arith, at.low, at.high); is_page = omega (arith, at.low); carries = refl }) in
      record { first = in_half.first; span = in_half.span; there = in_half.there; low = omega (arith, in_half.is_page); high = omega (arith, in_half.is_page, in_half.below) }

  pub same_marks : AreRuns whole → AreRuns halved → marks halved ≡ marks whole
  same_marks runs halves = told halved halves (marks whole) (λ q found at. has whole runs q found (in_whole q found at)) (λ q mark is. in_halves q (Some mark) (is_in whole runs q mark is))

-- what splitting leaves
pub is_halved : (m middle n : Spans) (page first : ℕ) (span upper : Span) → IsLastUpTo m page first span → page - first ≢ 0 → page - first < span.count →
    upper.count ≡ span.count - (page - first) → upper.mark ≡ onward span.mark (page - first) → Sets m middle page (Some upper) →
    Sets middle n first (Some (record { count = page - first; mark = span.mark })) → IsHalved m n first page span (record { count = page - first; mark = span.mark }) upper
is_halved m middle n page first span upper at some inside many carries above below =
    let less : first < page = omega (arith, some) in
    record {
      whole_first = at.there;
      whole_page = at.last page less (omega arith);
      half_first = below.here;
      half_page = below.others page (λ same. omega (arith, same, less)) ∙ above.here;
      others = λ q other apart. below.others q other ∙ above.others q apart;
      meets = omega (arith, at.near);
      together = omega (arith, many, inside);
      lower_mark = refl;
      upper_mark = carries;
      lower_some = omega (arith, some);
      upper_some = omega (arith, many, inside);
    }

-- what joining leaves
pub was_halved : (m middle n : Spans) (page first : ℕ) (lower upper : Span) → AreRuns m → span_at m first ≡ Some lower → span_at m page ≡ Some upper → first < page → lower.count ≡ page - first →
    onward lower.mark lower.count ≡ upper.mark → Sets m middle page None → Sets middle n first (Some (record { count = lower.count + upper.count; mark = lower.mark })) →
    IsHalved n m first page (record { count = lower.count + upper.count; mark = lower.mark }) lower upper
was_halved m middle n page first lower upper runs low high less meets carries gone both = record {
  whole_first = both.here;
  whole_page = both.others page (λ same. omega (arith, same, less)) ∙ gone.here;
  half_first = low;
  half_page = high;
  others = λ q other apart. sym (both.others q other ∙ gone.others q apart);
  meets = omega (arith, meets, less);
  together = refl;
  lower_mark = refl;
  upper_mark = sym carries;
  lower_some = (runs.whole first lower low).some;
  upper_some = (runs.whole page upper high).some;
}
