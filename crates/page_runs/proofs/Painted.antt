-- Runs of whose range a change was made, where no run goes on across the range's ends.
use Rattle.std.proofs.Common.{◌≡◌, ℕ, ◌+◌, ◌-◌, ◌^◌, ◌<◌, ◌≤◌, Bool, true, false, cond, refl, sym, ap, subst, ◌∙◌, arith}
use mathlib.Core.Logic.{◌⊎◌, inl, inr}
use Rattle.std.specs.Prelude.{Option, Some, None}
use Rattle.std.specs.FinMap.{get}
use Rattle.std.proofs.lemmas.Bool.{cases_lt}
use Rattle.table_place.specs.Range.{within}
use Rattle.page_map.specs.Change.{change}
use Rattle.page_map.proofs.Range.{get-change, inside, outside}
use Rattle.page_runs.specs.declared.mark.Mark.{Mark}
use Rattle.page_runs.specs.declared.spans.Span.{Span}
use Rattle.page_runs.specs.declared.change.Change.{Change}
use Rattle.page_runs.specs.declared.change.Effect.{Effect}
use Rattle.page_runs.specs.declared.change.Effect.TheVariants.{Map, Unmap, Protect}
use Rattle.page_runs.specs.Mark.{first_index, onward}
use Rattle.page_runs.specs.Spans.{Spans, Marks, span_at, marks, IsRun, AreRuns, IsEdge, IsTaken, Changes}
use Rattle.page_runs.specs.Changes.{made, painted, after_effect, after_change, index_in, IsChange, IsCut, IsFilled}
use Rattle.page_runs.proofs.Views.{IsIn, IsOut, has, has_nothing, is_in, place_of, told, same_some, not_some}
use Rattle.page_runs.proofs.Split.{goes_on-goes_on, index_after}

-- what is made of a mark that goes on is what goes on from what is made
made_onward : (effect : Effect) (place i : ℕ) (old : Option Mark) → onward (made effect place old) i ≡ made effect (place + i) (onward old i)
made_onward (Map mark) place i old = ap Some (goes_on-goes_on mark place i)
made_onward Unmap place i old = refl
made_onward (Protect perm) place i None = refl
made_onward (Protect perm) place i (Some old) = refl

made_index : (effect : Effect) (place n top : ℕ) (old : Option Mark) → index_in effect + (place + n) < top → first_index old + n < top → first_index (made effect place old) + n < top
made_index (Map mark) place n top old new was = index_after mark.backing place n top new
made_index Unmap place n top old new was = omega (arith, new)
made_index (Protect perm) place n top None new was = was
made_index (Protect perm) place n top (Some old) new was = was

-- only a mapping makes a mark where none was
only_map : (effect : Effect) (place : ℕ) (mark : Mark) → made effect place None ≡ Some mark → (first : Mark) × (effect ≡ Map first)
only_map (Map first) place mark is = (first, refl)
only_map Unmap place mark is = absurd (not_some is)
only_map (Protect perm) place mark is = absurd (not_some is)

effect_is : (effect : Effect) (first count : ℕ) (m : Marks) → change m first count (λ page. made effect (page - first)) ≡ after_effect effect first count m
effect_is (Map mark) first count m = refl
effect_is Unmap first count m = refl
effect_is (Protect perm) first count m = refl

module _ (m n : Spans) (c : Change) (changes : Changes (painted c) c.first (c.first + c.count) m n) where
  -- a run and what was there before
  record Was (q : ℕ) (s : Span) : Type 0 where
    span : Span
    there : span_at m q ≡ Some span
    as_many : s.count ≡ span.count
    how : (s ≡ span) ⊎ ((c.first ≤ q) × (q < c.first + c.count) × (made c.effect (q - c.first) span.mark ≡ s.mark))

  inside_was : (q : ℕ) (s : Span) → c.first ≤ q → q < c.first + c.count → span_at n q ≡ Some s → Was q s
  inside_was q s low high is = go (span_at m q) refl (sym (changes.changed q low high) ∙ is)
    where
      go : (o : Option Span) → span_at m q ≡ o → painted c q o ≡ Some s → Was q s
      go None e h = absurd (not_some h)
      go (Some t) e h =
          let same = same_some h in
          record { span = t; there = e; as_many = ap (λ u. u.count) (sym same); how = inr (low, high, ap (λ u. u.mark) same) }

  was : (q : ℕ) (s : Span) → span_at n q ≡ Some s → Was q s
  was q s is = elim (cases_lt q c.first) [
    | inl before ↦ record { span = s; there = sym (changes.below q before) ∙ is; as_many = refl; how = inl refl }
    | inr from ↦ elim (cases_lt q (c.first + c.count)) [
      | inr after ↦ record { span = s; there = sym (changes.above q after) ∙ is; as_many = refl; how = inl refl }
      | inl to ↦ inside_was q s from to is
    ]
  ]

  -- what has become of a run
  record Becomes (q : ℕ) (s : Span) : Type 0 where
    span : Span
    there : span_at n q ≡ Some span
    as_many : span.count ≡ s.count

  becomes : (q : ℕ) (s : Span) → span_at m q ≡ Some s → Becomes q s
  becomes q s is = elim (cases_lt q c.first) [
    | inl before ↦ record { span = s; there = changes.below q before ∙ is; as_many = refl }
    | inr from ↦ elim (cases_lt q (c.first + c.count)) [
      | inr after ↦ record { span = s; there = changes.above q after ∙ is; as_many = refl }
      | inl to ↦ record {
        span = record { count = s.count; mark = made c.effect (q - c.first) s.mark };
        there = changes.changed q from to ∙ ap (painted c q) is;
        as_many = refl;
      }
    ]
  ]

  pub edge_stays : (edge : ℕ) → IsEdge edge m → IsEdge edge n
  edge_stays edge is q s at low = let old = was q s at in let far = is q old.span old.there low in omega (arith, far, old.as_many)

  pub stays_taken : (page : ℕ) → IsTaken m page → IsTaken n page
  stays_taken page at = let new = becomes at.first at.span at.there in
      record { first = at.first; span = new.span; there = new.there; low = at.low; high = omega (arith, at.high, new.as_many) }

  pub cut_stays : (other : Change) → IsCut m other → IsCut n other
  cut_stays other cut = record { start = edge_stays other.first cut.start; stop = edge_stays (other.first + other.count) cut.stop }

  pub filled_stays : (other : Change) → IsFilled m other → IsFilled n other
  filled_stays other filled mark is page low high = stays_taken page (filled mark is page low high)

  module _ (fits : IsChange c) (runs : AreRuns m) (cut : IsCut m c) where
    index_stays : (q : ℕ) (s : Span) (old : Was q s) → first_index s.mark + s.count < 2 ^ 64
    index_stays q s old = go old.how
      where
        run : IsRun q old.span
        run = runs.whole q old.span old.there

        go : (s ≡ old.span) ⊎ ((c.first ≤ q) × (q < c.first + c.count) × (made c.effect (q - c.first) old.span.mark ≡ s.mark)) → first_index s.mark + s.count < 2 ^ 64
        go (inl same) = subst (λ t. first_index t.mark + t.count < 2 ^ 64) (sym same) run.indexes
        go (inr (low, high, is)) =
            let end = cut.stop q old.span old.there high in
            subst (λ o. first_index o + s.count < 2 ^ 64) is
            (made_index c.effect (q - c.first) s.count (2 ^ 64) old.span.mark (omega (arith, fits.indexes, end, low, old.as_many)) (omega (arith, run.indexes, old.as_many)))

    pub painted_are_runs : AreRuns n
    painted_are_runs = record {
      ordered = changes.ordered;
      whole = λ q s is.
          let old = was q s is in
          let run = runs.whole q old.span old.there in
          record { some = omega (arith, run.some, old.as_many); pages = omega (arith, run.pages, old.as_many); indexes = index_stays q s old };
      apart = λ q p s t a b less.
          let old = was q s a in
          let far = runs.apart q p old.span (was p t b).span old.there (was p t b).there less in omega (arith, far, old.as_many);
    }

    -- a page outside of the range
    side : (page : ℕ) → within c.first c.count page ≡ false → (page < c.first) ⊎ (c.first + c.count ≤ page)
    side page w = elim (cases_lt page c.first) [
      | inl before ↦ inl before
      | inr from ↦ elim (cases_lt page (c.first + c.count)) [ inl to ↦ absurd (outside c.first c.count page w from to) | inr after ↦ inr after ]
    ]

    -- the run that has a page of the range starts in the range
    starts_inside : (page first : ℕ) (span : Span) → span_at m first ≡ Some span → first ≤ page → page < first + span.count → c.first ≤ page → page < c.first + c.count → (c.first ≤ first) × (first < c.first + c.count)
    starts_inside page first span there from below low high = elim (cases_lt first c.first) [
      | inl before ↦ let far = cut.start first span there before in absurd (omega (arith, far, below, low))
      | inr behind ↦ (behind, omega (arith, from, high))
    ]

    -- a run outside of the range that has a page there is the same in both
    same_outside : (page first : ℕ) (span : Span) → span_at m first ≡ Some span → first ≤ page → page < first + span.count → (page < c.first) ⊎ (c.first + c.count ≤ page) → span_at n first ≡ span_at m first
    same_outside page first span there from below (inl before) = changes.below first (omega (arith, from, before))
    same_outside page first span there from below (inr after) = elim (cases_lt first (c.first + c.count)) [
      | inl less ↦ let far = cut.stop first span there less in absurd (omega (arith, far, below, after))
      | inr behind ↦ changes.above first behind
    ]

    abbrev new : Option Mark → ℕ → Option Mark
    new old page = made c.effect (page - c.first) old

    -- what the new runs have at a page of the range is made of what the old ones have
    into : (page : ℕ) (found : Option Mark) → c.first ≤ page → page < c.first + c.count → IsIn n.entries page found → new (get (marks m) page) page ≡ found
    into page found low high at = go (was at.first at.span at.there)
      where
        go : Was at.first at.span → new (get (marks m) page) page ≡ found
        go old =
            let at_start = starts_inside page at.first old.span old.there (omega (arith, at.is_page)) (omega (arith, at.is_page, at.below, old.as_many)) low high in
            let mark_is : made c.effect (at.first - c.first) old.span.mark ≡ at.span.mark =
            ap (λ s. s.mark) (same_some (sym (changes.changed at.first at_start.0 at_start.1 ∙ ap (painted c at.first) old.there) ∙ at.there)) in
            let here : get (marks m) page ≡ onward old.span.mark at.place =
            has m runs page (onward old.span.mark at.place) (record { first = at.first; span = old.span; place = at.place; there = old.there; below = omega (arith, at.below, old.as_many); is_page = at.is_page; carries = refl }) in
            let far : page - c.first ≡ at.first - c.first + at.place = omega (arith, at.is_page, at_start.0) in
            (λ i. made c.effect (far i) (here i)) ∙ sym (made_onward c.effect (at.first - c.first) at.place old.span.mark) ∙ ap (λ o. onward o at.place) mark_is ∙ at.carries

    module _ (filled : IsFilled m c) where
      back : (page : ℕ) (mark : Mark) → c.first ≤ page → page < c.first + c.count → new (get (marks m) page) page ≡ Some mark → IsIn n.entries page (Some mark)
      back page mark low high is = go (place_of m runs page)
        where
          go : ((found : Option Mark) × IsIn m.entries page found) ⊎ IsOut m.entries page → IsIn n.entries page (Some mark)
          go (inl (found, at)) =
              let at_start = starts_inside page at.first at.span at.there (omega (arith, at.is_page)) (omega (arith, at.is_page, at.below)) low high in
              let far : at.first - c.first + at.place ≡ page - c.first = omega (arith, at.is_page, at_start.0) in
              let old : onward at.span.mark at.place ≡ get (marks m) page = at.carries ∙ sym (has m runs page found at) in
              record {
                first = at.first;
                span = record { count = at.span.count; mark = made c.effect (at.first - c.first) at.span.mark };
                place = at.place;
                there = changes.changed at.first at_start.0 at_start.1 ∙ ap (painted c at.first) at.there;
                below = at.below;
                is_page = at.is_page;
                carries = made_onward c.effect (at.first - c.first) at.place at.span.mark ∙ (λ i. made c.effect (far i) (old i)) ∙ is;
              }
          go (inr out) =
              let map = only_map c.effect (page - c.first) mark (ap (λ o. new o page) (sym (has_nothing m runs page out)) ∙ is) in
              let taken = filled map.0 map.1 page low high in
              let far = out taken.first taken.span taken.there taken.low in
              absurd (omega (arith, far, taken.high))

      pub repainted : marks n ≡ after_change (marks m) c
      repainted = told n painted_are_runs (change (marks m) c.first c.count (λ page old. new old page)) there here ∙ effect_is c.effect c.first c.count (marks m)
        where
          there : (page : ℕ) (found : Option Mark) → IsIn n.entries page found → get (change (marks m) c.first c.count (λ page old. new old page)) page ≡ found
          there page found at = get-change (marks m) c.first c.count (λ page old. new old page) page ∙ go (within c.first c.count page) refl
            where
              old : Was at.first at.span
              old = was at.first at.span at.there

              go : (b : Bool) → within c.first c.count page ≡ b → cond b (new (get (marks m) page) page) (get (marks m) page) ≡ found
              go true w = into page found (inside c.first c.count page w).0 (inside c.first c.count page w).1 at
              go false w =
                  let same = same_outside page at.first old.span old.there (omega (arith, at.is_page)) (omega (arith, at.is_page, at.below, old.as_many)) (side page w) in
                  has m runs page found (record { first = at.first; span = at.span; place = at.place; there = sym same ∙ at.there; below = at.below; is_page = at.is_page; carries = at.carries })

          here : (page : ℕ) (mark : Mark) → get (change (marks m) c.first c.count (λ page old. new old page)) page ≡ Some mark → IsIn n.entries page (Some mark)
          here page mark is = go (within c.first c.count page) refl (sym (get-change (marks m) c.first c.count (λ page old. new old page) page) ∙ is)
            where
              go : (b : Bool) → within c.first c.count page ≡ b → cond b (new (get (marks m) page) page) (get (marks m) page) ≡ Some mark → IsIn n.entries page (Some mark)
              go true w h = back page mark (inside c.first c.count page w).0 (inside c.first c.count page w).1 h
              go false w h =
                  let at = is_in m runs page mark h in
                  let same = same_outside page at.first at.span at.there (omega (arith, at.is_page)) (omega (arith, at.is_page, at.below)) (side page w) in
                  record { first = at.first; span = at.span; place = at.place; there = same ∙ at.there; below = at.below; is_page = at.is_page; carries = at.carries }
