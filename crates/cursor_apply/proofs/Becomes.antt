-- A change of a call is a change of the pages of its range, where entries that have some of these pages but not all stand for alike pages before and after.
--     is_change
use Rattle.std.specs.Prelude.{◌≡◌, ◌≢◌, ℕ, ◌+◌, ◌-◌, ◌*◌, ◌^◌, ◌<◌, ◌≤◌, ◌⊎◌, ◌&&◌, Bool, true, false, nat_le, nat_lt, Option, Some, None}
use Rattle.std.specs.FinMap.{get}
use Rattle.std.specs.FinSet as set
use Rattle.std.proofs.Common.{sym, refl, ◌∙◌, ap, subst, arith, inl, inr, mul-one}
use Rattle.std.proofs.lemmas.Bool.{true≢false, false≢true, cases_lt}
use mathlib.Core.Logic.{dite}
use native.Mathlib.Decide.{ℕ_discrete}
use Rattle.page_map.specs.Alike.{is_alike}
use Rattle.page_map.specs.State.{State, levels, space_at, cell_at}
use Rattle.table_place.specs.declared.Place.{Place}
use Rattle.table_place.specs.Place.{root, has_page, span_first, span_count, is_place}
use Rattle.table_place.specs.Range.{within}
use Rattle.table_place.proofs.Entries.{page_in_span}
use Rattle.table_place.proofs.Spans.{span_pos}
use Rattle.table_place.proofs.Tables.{in_range, to_range}
use Rattle.machine_plan.specs.Agrees.{IsNoTable}
use Rattle.machine_plan.specs.declared.kit.Change.{Change}
use Rattle.machine_plan.specs.Changes.{made_by}
use Rattle.cursor_apply.specs.declared.becoming.RangeChange.{RangeChange}
use Rattle.cursor_apply.specs.Changing.{page_made, IsNearAll}
use Rattle.cursor_apply.specs.Changed.{range_change, LiesIn, IsChange}
use Rattle.cursor_apply.proofs.Edges.{same_kind}
use Rattle.cursor_apply.proofs.Ranged.{made_inside, made_outside}
use Rattle.cursor_apply.proofs.RowMade.{one_page}

not_within : (first count n : ℕ) → (n < first) ⊎ (first + count ≤ n) → within first count n ≡ false
not_within first count n out = go (within first count n) refl out
  where
    go : (t : Bool) → within first count n ≡ t → (n < first) ⊎ (first + count ≤ n) → t ≡ false
    go false e out = refl
    go true e (inl low) = absurd (let r = (in_range first count n e).0 in omega arith)
    go true e (inr high) = absurd (let r = (in_range first count n e).1 in omega arith)

-- a span that does not lie in a range has a page that the range has not
beside : (q : Place) (first count : ℕ) → (LiesIn q first count → ⊥) → (p : ℕ) × (within (span_first q) (span_count q) p ≡ true) × (within first count p ≡ false)
beside q first count never = elim (cases_lt (span_first q) first) [
  | inl low ↦ (span_first q, to_range (span_first q) (span_count q) (span_first q) (omega arith) (omega (arith, some)), not_within first count (span_first q) (inl low))
  | inr high ↦ elim (cases_lt (first + count) (span_first q + span_count q)) [
    | inl past ↦ (
      span_first q + span_count q - 1,
      to_range (span_first q) (span_count q) (span_first q + span_count q - 1) (omega (arith, some)) (omega (arith, some)),
      not_within first count (span_first q + span_count q - 1) (inr (omega (arith, past))),
    )
    | inr within_it ↦ absurd (never (high, within_it))
  ]
]
  where
    some : 0 < span_count q
    some = span_pos q.level

module _ (c : Change) (r : RangeChange) (is : range_change c ≡ Some r) (space : ℕ) (st now : State) (cells : (page : ℕ) → cell_at now space page ≡ get (made_by c (space_at st space)) page)
    (before : (q : Place) → q.space ≡ space → 1 ≤ q.level → q.level < levels st → IsNoTable st q → ¬ LiesIn q r.first r.count → is_alike (space_at st space) (span_first q) (span_count q) ≡ true)
    (after : (q : Place) → q.space ≡ space → 1 ≤ q.level → q.level < levels st → IsNoTable st q → ¬ LiesIn q r.first r.count → is_alike (space_at now space) (span_first q) (span_count q) ≡ true)
    (few : levels st < 6) where
  out : (page : ℕ) → within r.first r.count page ≡ false → cell_at now space page ≡ cell_at st space page
  out page e = cells page ∙ made_outside c r is (space_at st space) page e

  pub edges_stay : (q : Place) → q.space ≡ space → q.level < levels st → IsNoTable st q → ¬ LiesIn q r.first r.count → (page : ℕ) → has_page q space page ≡ true → cell_at now space page ≡ cell_at st space page
  edges_stay q of_space low none never page has = dite (ℕ_discrete q.level 0)
      (λ zero. out page (at_page zero))
      (λ ne. let high : 1 ≤ q.level = more q.level ne in
      let p = beside q r.first r.count never in
      same_kind (space_at st space) (space_at now space) (span_first q) (span_count q) p.0 p.1 (out p.0 p.2) page spanned (before q of_space high low none never) (after q of_space high low none never))
    where
      more : (n : ℕ) → (n ≡ 0 → ⊥) → 1 ≤ n
      more n ne = omega arith

      spanned : within (span_first q) (span_count q) page ≡ true
      spanned = page_in_span q space page (omega (arith, low, few)) has

      at_page : q.level ≡ 0 → within r.first r.count page ≡ false
      at_page zero = go (within r.first r.count page) refl
        where
          go : (t : Bool) → within r.first r.count page ≡ t → t ≡ false
          go false e = refl
          go true e =
              let s : span_count q ≡ 1 = ap (λ k. 512 ^ k) zero in
              let f : span_first q ≡ q.prefix = ap (λ n. q.prefix * n) s ∙ mul-one q.prefix in
              let at = in_range (span_first q) (span_count q) page spanned in
              let same : page ≡ q.prefix = omega arith in
              let both = in_range r.first r.count page e in
              absurd (never (one_page r.first r.count q zero (omega (arith, same, both.0), omega (arith, same, both.1))))

  pub is_change : levels now ≡ levels st → now.tables ≡ st.tables → ((s page : ℕ) → s ≢ space → cell_at now s page ≡ cell_at st s page) → set.contains st.tables (root (levels st) space) ≡ true
      → ((p : Place) → set.contains st.tables p ≡ true → is_place (levels st) p ≡ true) → r.first + r.count < 2 ^ 46 → IsNearAll r.making r.count → IsChange r space st now
  is_change same_levels same_tables others top places end near = record {
    same_levels = same_levels;
    same_tables = same_tables;
    inside = λ page e. cells page ∙ made_inside c r is (space_at st space) page e;
    others = others;
    edges = edges_stay;
    top = top;
    few_levels = few;
    places = places;
    end = end;
    near = near;
  }
