-- What runs say of a page, by the run that the page is in.
--     IsIn, IsOut      a page of a run;  of no run
--     where_is      each page is one of the two
--     has, has_nothing      the page of a run has its mark, or none;  a page of no run has none
--     is_in      a page that has a mark is a page of a run
--     told      runs that say the same as a map
use Rattle.std.proofs.Common.{◌≡◌, ℕ, ◌+◌, ◌-◌, ◌<◌, ◌≤◌, Bool, true, false, cond, List, [], ◌∷◌, refl, sym, ap, ◌∙◌, arith}
use mathlib.Core.Logic.{◌⊎◌, inl, inr}
use Rattle.std.specs.Prelude.{Option, Some, None}
use Rattle.std.specs.List.{AllByRecursion}
use Rattle.std.specs.List.Sorted.{IsStrictlySortedBy}
use Rattle.std.specs.Ordering.{nat_cmp}
use Rattle.std.specs.declared.cmp.Ordering.TheVariants.{Less}
use Rattle.std.specs.Cmp.{nat_cmp_total, unsigned_tied, ranked}
use Rattle.std.specs.Map.{lookup, keys_of}
use Rattle.std.specs.BTreeMap.{is_at}
use Rattle.std.specs.FinMap.{get, get-empty, same_map, nat_cmp-IsAntisymmetric}
use Rattle.std.proofs.lemmas.Bool.{eq-eqb, ne_eqb, cases_lt, cases_eq, cases_order}
use Rattle.table_place.specs.Range.{within}
use Rattle.page_map.proofs.Range.{get-change, inside, outside}
use Rattle.page_runs.specs.declared.mark.Mark.{Mark}
use Rattle.page_runs.specs.declared.spans.Span.{Span}
use Rattle.page_runs.specs.Mark.{onward}
use Rattle.page_runs.specs.Spans.{Spans, Marks, marks_of, marks, AreRuns}

-- a page of a run, so many pages behind its first one, and what it has there
pub record IsIn (es : List (ℕ × Span)) (page : ℕ) (found : Option Mark) : Type 0 where
  pub first : ℕ
  pub span : Span
  pub place : ℕ
  pub there : lookup (is_at (nat_cmp first)) es ≡ Some span
  pub below : place < span.count
  pub is_page : first + place ≡ page
  pub carries : onward span.mark place ≡ found

abbrev pub IsOut : List (ℕ × Span) → ℕ → Type 0
IsOut es page = (first : ℕ) (span : Span) → lookup (is_at (nat_cmp first)) es ≡ Some span → first ≤ page → first + span.count ≤ page

pub same_some : {A : Type 0} {x y : A} → ◌≡◌ {A = Option A} (Some x) (Some y) → x ≡ y
same_some {A} {x} {y} e = cc

pub not_some : {A : Type 0} {x : A} → ◌≡◌ {A = Option A} None (Some x) → ⊥
not_some {A} {x} e = cc

at_key : (q : ℕ) (e : ℕ × Span) (es : List (ℕ × Span)) → q ≡ e.0 → lookup (is_at (nat_cmp q)) (e ∷ es) ≡ Some e.1
at_key q e es h = ap (λ b. cond b (Some e.1) (lookup (is_at (nat_cmp q)) es)) (unsigned_tied q e.0 ∙ eq-eqb q e.0 h)

past_key : (q : ℕ) (e : ℕ × Span) (es : List (ℕ × Span)) → (q ≡ e.0 → ⊥) → lookup (is_at (nat_cmp q)) (e ∷ es) ≡ lookup (is_at (nat_cmp q)) es
past_key q e es h = ap (λ b. cond b (Some e.1) (lookup (is_at (nat_cmp q)) es)) (unsigned_tied q e.0 ∙ ne_eqb q e.0 h)

-- a key among keys above k is above k
above_all : (k : ℕ) (es : List (ℕ × Span)) → AllByRecursion (λ y. nat_cmp k y ≡ Less) (keys_of es) → (q : ℕ) (span : Span) → lookup (is_at (nat_cmp q)) es ≡ Some span → k < q
above_all k [] h q span e = absurd (not_some e)
above_all k (e ∷ es) h q span is = elim (cases_eq q e.0) [
  | inl same ↦ let up : k < e.0 = ranked k e.0 Less (sym h.0) in omega (arith, up, same)
  | inr other ↦ above_all k es h.1 q span (sym (past_key q e es other) ∙ is)
]

later_key : (e : ℕ × Span) (es : List (ℕ × Span)) → IsStrictlySortedBy nat_cmp (keys_of (e ∷ es)) → (q : ℕ) (span : Span) → lookup (is_at (nat_cmp q)) es ≡ Some span → lookup (is_at (nat_cmp q)) (e ∷ es) ≡ Some span
unfolding IsStrictlySortedBy
later_key e es sorted q span is =
    let up = above_all e.0 es sorted.0 q span is in
    past_key q e es (λ same. absurd (omega (arith, up, same))) ∙ is

where_is : (es : List (ℕ × Span)) → IsStrictlySortedBy nat_cmp (keys_of es) → (page : ℕ) → ((found : Option Mark) × IsIn es page found) ⊎ IsOut es page
unfolding IsStrictlySortedBy
where_is [] sorted page = inr (λ first span there low. absurd (not_some there))
where_is (e ∷ es) sorted page = go (within e.0 e.1.count page) refl (where_is es sorted.1 page)
  where
    go : (b : Bool) → within e.0 e.1.count page ≡ b → ((found : Option Mark) × IsIn es page found) ⊎ IsOut es page → ((found : Option Mark) × IsIn (e ∷ es) page found) ⊎ IsOut (e ∷ es) page
    go true w rest =
        let low : e.0 ≤ page = (inside e.0 e.1.count page w).0 in
        let high : page < e.0 + e.1.count = (inside e.0 e.1.count page w).1 in
        inl (
          onward e.1.mark (page - e.0),
          record {
            first = e.0;
            span = e.1;
            place = page - e.0;
            there = at_key e.0 e es refl;
            below = omega (arith, low, high);
            is_page = omega (arith, low);
            carries = refl;
          },
        )
    go false w (inl (found, at)) = inl (
      found,
      record {
        first = at.first;
        span = at.span;
        place = at.place;
        there = later_key e es sorted at.first at.span at.there;
        below = at.below;
        is_page = at.is_page;
        carries = at.carries;
      },
    )
    go false w (inr out) = inr (λ first span is low. elim (cases_eq first e.0) [
      | inl same ↦
          let of : e.1 ≡ span = same_some (sym (at_key first e es same) ∙ is) in
          let many : e.1.count ≡ span.count = ap (λ s. s.count) of in
          elim (cases_lt page (e.0 + e.1.count)) [
            | inl to ↦ absurd (outside e.0 e.1.count page w (omega (arith, same, low)) to)
            | inr past ↦ omega (arith, past, same, many)
          ]
      | inr other ↦ out first span (sym (past_key first e es other) ∙ is) low
    ])

-- where no other run has the page
IsOnly : List (ℕ × Span) → ℕ → ℕ → Type 0
IsOnly es first page = (j : ℕ) (other : Span) → lookup (is_at (nat_cmp j)) es ≡ Some other → j ≤ page → page < j + other.count → j ≡ first

complete : (es : List (ℕ × Span)) → IsStrictlySortedBy nat_cmp (keys_of es) → (first : ℕ) (span : Span) (place : ℕ) → lookup (is_at (nat_cmp first)) es ≡ Some span → place < span.count →
    IsOnly es first (first + place) → get (marks_of es) (first + place) ≡ onward span.mark place
unfolding IsStrictlySortedBy marks_of IsOnly
complete [] sorted first span place there below only = absurd (not_some there)
complete (e ∷ es) sorted first span place there below only =
    get-change (marks_of es) e.0 e.1.count (λ page _. onward e.1.mark (page - e.0)) (first + place)
    ∙ go (within e.0 e.1.count (first + place)) refl
    (λ other. complete es sorted.1 first span place (sym (past_key first e es other) ∙ there) below (λ j later is. only j later (later_key e es sorted j later is)))
  where
    here : first ≡ e.0 → e.1 ≡ span
    here same = same_some (sym (at_key first e es same) ∙ there)

    go : (b : Bool) → within e.0 e.1.count (first + place) ≡ b → ((first ≡ e.0 → ⊥) → get (marks_of es) (first + place) ≡ onward span.mark place) →
        cond b (onward e.1.mark (first + place - e.0)) (get (marks_of es) (first + place)) ≡ onward span.mark place
    go true w behind =
        let same : e.0 ≡ first = only e.0 e.1 (at_key e.0 e es refl) (inside e.0 e.1.count (first + place) w).0 (inside e.0 e.1.count (first + place) w).1 in
        let far : first + place - e.0 ≡ place = omega (arith, same) in
        let is : e.1 ≡ span = here (sym same) in
        λ i. onward (is i).mark (far i)
    go false w behind = behind (λ same.
        let many : e.1.count ≡ span.count = ap (λ s. s.count) (here same) in
        outside e.0 e.1.count (first + place) w (omega (arith, same)) (omega (arith, same, many, below)))

out_has_none : (es : List (ℕ × Span)) → IsStrictlySortedBy nat_cmp (keys_of es) → (page : ℕ) → IsOut es page → get (marks_of es) page ≡ None
unfolding IsStrictlySortedBy marks_of
out_has_none [] sorted page out = get-empty nat_cmp page
out_has_none (e ∷ es) sorted page out =
    get-change (marks_of es) e.0 e.1.count (λ page _. onward e.1.mark (page - e.0)) page
    ∙ go (within e.0 e.1.count page) refl (out_has_none es sorted.1 page (λ first span is. out first span (later_key e es sorted first span is)))
  where
    go : (b : Bool) → within e.0 e.1.count page ≡ b → get (marks_of es) page ≡ None → cond b (onward e.1.mark (page - e.0)) (get (marks_of es) page) ≡ None
    go true w rest =
        let at = inside e.0 e.1.count page w in
        let far = out e.0 e.1 (at_key e.0 e es refl) at.0 in
        absurd (omega (arith, far, at.1))
    go false w rest = rest

module _ (spans : Spans) (runs : AreRuns spans) where
  -- two runs with a common page are one
  pub one_run : (j k page : ℕ) (s t : Span) → lookup (is_at (nat_cmp j)) spans.entries ≡ Some s → lookup (is_at (nat_cmp k)) spans.entries ≡ Some t →
      j ≤ page → page < j + s.count → k ≤ page → page < k + t.count → j ≡ k
  one_run j k page s t a b low high from below = elim (cases_order j k) [
    | inl same ↦ same
    | inr (inl less) ↦ let far = runs.apart j k s t a b less in absurd (omega (arith, far, high, from))
    | inr (inr more) ↦ let far = runs.apart k j t s b a more in absurd (omega (arith, far, below, low))
  ]

  pub place_of : (page : ℕ) → ((found : Option Mark) × IsIn spans.entries page found) ⊎ IsOut spans.entries page
  place_of page = where_is spans.entries runs.ordered page

  pub has : (page : ℕ) (found : Option Mark) → IsIn spans.entries page found → get (marks spans) page ≡ found
  unfolding IsOnly
  has page found at =
      ap (get (marks spans)) (sym at.is_page)
      ∙ complete spans.entries runs.ordered at.first at.span at.place at.there at.below (λ j other is low high.
      one_run j at.first (at.first + at.place) other at.span is at.there low high (omega arith) (omega (arith, at.below)))
      ∙ at.carries

  pub has_nothing : (page : ℕ) → IsOut spans.entries page → get (marks spans) page ≡ None
  has_nothing page out = out_has_none spans.entries runs.ordered page out

  pub is_in : (page : ℕ) (mark : Mark) → get (marks spans) page ≡ Some mark → IsIn spans.entries page (Some mark)
  is_in page mark is = go (place_of page)
    where
      go : ((found : Option Mark) × IsIn spans.entries page found) ⊎ IsOut spans.entries page → IsIn spans.entries page (Some mark)
      go (inl (found, at)) = record {
        first = at.first;
        span = at.span;
        place = at.place;
        there = at.there;
        below = at.below;
        is_page = at.is_page;
        carries = at.carries ∙ sym (has page found at) ∙ is;
      }
      go (inr out) = absurd (not_some (sym (has_nothing page out) ∙ is))

  pub has_none : (page : ℕ) → ((mark : Mark) → IsIn spans.entries page (Some mark) → ⊥) → get (marks spans) page ≡ None
  has_none page none = go (get (marks spans) page) refl
    where
      go : (o : Option Mark) → get (marks spans) page ≡ o → o ≡ None
      go None e = refl
      go (Some mark) e = absurd (none mark (is_in page mark e))

  -- they say the same as a map
  pub told : (m : Marks) → ((page : ℕ) (found : Option Mark) → IsIn spans.entries page found → get m page ≡ found) →
      ((page : ℕ) (mark : Mark) → get m page ≡ Some mark → IsIn spans.entries page (Some mark)) → marks spans ≡ m
  told m there back = same_map nat_cmp_total nat_cmp-IsAntisymmetric (marks spans) m (λ page. go page (place_of page))
    where
      nowhere : (page : ℕ) → IsOut spans.entries page → (o : Option Mark) → get m page ≡ o → None ≡ o
      nowhere page out None e = refl
      nowhere page out (Some mark) e = sym (has_nothing page out) ∙ has page (Some mark) (back page mark e)

      go : (page : ℕ) → ((found : Option Mark) × IsIn spans.entries page found) ⊎ IsOut spans.entries page → get (marks spans) page ≡ get m page
      go page (inl (found, at)) = has page found at ∙ sym (there page found at)
      go page (inr out) = has_nothing page out ∙ nowhere page out (get m page) refl
