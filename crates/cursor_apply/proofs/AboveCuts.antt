-- The tables that a range of pages cuts, by the pages at its ends.
--     still_whole      a page that begins the tables of a level begins those of the lower ones
--     near_cut, far_cut      the tables above the pages at its ends, from that level on, are cut
--     cut_there      where those are there, each cut table is
use Rattle.std.specs.Prelude.{◌≡◌, ℕ, ◌+◌, ◌-◌, ◌*◌, ◌/◌, ◌%◌, ◌^◌, ◌<◌, ◌≤◌, ◌⊎◌, true, List}
use Rattle.std.specs.FinSet as set
use Rattle.std.proofs.Common.{sym, refl, ◌∙◌, ap, subst, arith, inl, inr}
use Rattle.std.proofs.Math.Nat.{add-mul, one-mul, mul-le-mul_right}
use Rattle.std.proofs.lemmas.Nat.{div-add-mod'}
use Rattle.std.proofs.lemmas.Bool.{cases_lt}
use Rattle.corten_base.specs.declared.calls.Call.{Call}
use Rattle.page_map.specs.State.{levels}
use Rattle.page_map.proofs.NeedOf.{IsCut}
use Rattle.row_cells.specs.declared.Cell.{Cell}
use Rattle.row_table.specs.declared.view.PassView.{PassView}
use Rattle.table_place.specs.declared.Place.{Place}
use Rattle.table_place.specs.Place.{has_page, span_first, span_count}
use Rattle.table_place.proofs.Tables.{in_range, to_range}
use Rattle.table_place.proofs.Entries.{page_parts, span_has_page}
use Rattle.table_place.proofs.Spans.{quotient_low}
use Rattle.machine_plan.specs.declared.kit.Kit.{Kit}
use Rattle.machine_plan.specs.Books.{BookData, state_of}
use Rattle.machine_plan.specs.HeldRows.{Row}
use Rattle.cursor_apply.specs.Linking.{LinkedSoFar, IsLow, ReachesCut}
use Rattle.cursor_apply.proofs.AbovePages.{nested, reached_table}

pub still_whole : (page j k : ℕ) → j ≤ k → page / 512 ^ k * 512 ^ k ≡ page → page / 512 ^ j * 512 ^ j ≡ page
still_whole page j k less whole = let up = nested page j k less in let most = quotient_low page j in omega (arith, up, most, whole)

-- a page that is no multiple is behind the greatest one
pub not_whole : (page n : ℕ) → 0 < n → (page % n ≡ 0 → ⊥) → page / n * n < page
not_whole page n some other = let parts = div-add-mod' page n in go (page % n) other parts
  where
    go : (r : ℕ) → (r ≡ 0 → ⊥) → page / n * n + r ≡ page → page / n * n < page
    go r ne e = omega (arith, e, ne)

-- ---- a cut table has the page at an end, from the level on at which that is cut

module _ (L space first count : ℕ) (few : L ≤ 5) (some : 1 ≤ count) (p : Place) (cut : IsCut L space first count p) where
  small : p.level < 6
  small = let h = cut.high in omega (arith, h, few)

  in_count : (first ≤ cut.page) × (cut.page < first + count)
  in_count = in_range first count cut.page cut.within_range

  has_at : (page : ℕ) → span_first p ≤ page → page < span_first p + span_count p → has_page p space page ≡ true
  has_at page from to = span_has_page p space page small cut.same_space (to_range (span_first p) (span_count p) page from to)

  pub record AtEnd : Type 0 where
    pub page : ℕ
    pub edge : ℕ
    pub is : ((page ≡ first) × (edge ≡ first)) ⊎ ((page ≡ first + count - 1) × (edge ≡ first + count))
    pub has : has_page p space page ≡ true
    pub broken : edge / 512 ^ p.level * 512 ^ p.level ≡ edge → ⊥

  multiple : (n m s : ℕ) → n * s < m * s → n < m
  multiple n m s less = elim (cases_lt n m) [
    | inl l ↦ l
    | inr more ↦ let up = mul-le-mul_right s more in absurd (omega (arith, less, up))
  ]

  pub at_end : AtEnd
  at_end = elim cut.outside [
    | inl before ↦
        let i = in_count in
        let from = cut.from in
        let to = cut.to in
        let has = has_at first (omega (arith, before)) (omega (arith, i.0, to)) in
        let parts = page_parts p space first small has in
        record {
          page = first;
          edge = first;
          is = inl (refl, refl);
          has = has;
          broken = λ whole. let same : span_first p ≡ first / 512 ^ p.level * 512 ^ p.level = ap (λ n. n * 512 ^ p.level) (sym parts.1) in absurd (omega (arith, same, whole, before));
        }
    | inr behind ↦
        let i = in_count in
        let from = cut.from in
        let has = has_at (first + count - 1) (omega (arith, i.1, from)) (omega (arith, behind, some)) in
        record {
          page = first + count - 1;
          edge = first + count;
          is = inr (refl, refl);
          has = has;
          broken = λ whole.
              let s = 512 ^ p.level in
              let m = (first + count) / 512 ^ p.level in
              let end : span_first p + span_count p ≡ (p.prefix + 1) * 512 ^ p.level = sym (add-mul p.prefix 1 (512 ^ p.level) ∙ ap (λ n. p.prefix * 512 ^ p.level + n) (one-mul (512 ^ p.level))) in
              let one : p.prefix < m = multiple p.prefix m (512 ^ p.level) (omega (arith, whole, i.1, from)) in
              let two : m < p.prefix + 1 = multiple m (p.prefix + 1) (512 ^ p.level) (omega (arith, whole, behind, end)) in
              omega (arith, one, two);
        }
  ]

-- where the tables at both ends are there, so is each cut one
pub cut_there : {B E : Type 0} (a b : BookData) (thread : ℕ) (c : Call) (kit : Kit) (v : PassView (List Cell) B E) (rows : List Row) → levels (state_of a) ≤ 5 → (next : ℕ) (w : PassView (List Cell) B E) (rows' : List Row) (so : LinkedSoFar a b thread c kit next v rows w rows')
    → (space first count : ℕ) → 1 ≤ count → ReachesCut (levels (state_of a)) space first count rows' → (p : Place) → IsCut (levels (state_of a)) space first count p → set.contains so.tables p ≡ true
cut_there a b thread c kit v rows few next w rows' so space first count some reached p cut = go (at_end (levels (state_of a)) space first count few some p cut)
  where
    least : (edge low : ℕ) → IsLow (levels (state_of a)) edge low → (edge / 512 ^ p.level * 512 ^ p.level ≡ edge → ⊥) → low ≤ p.level
    least edge low is broken = elim (cases_lt p.level low) [
      | inl less ↦ absurd (broken (is.whole p.level cut.low less))
      | inr more ↦ more
    ]

    by : (page edge : ℕ) → ((page ≡ first) × (edge ≡ first)) ⊎ ((page ≡ first + count - 1) × (edge ≡ first + count)) → has_page p space page ≡ true → (edge / 512 ^ p.level * 512 ^ p.level ≡ edge → ⊥) → set.contains so.tables p ≡ true
    by page edge (inl e) has broken = reached_table a b thread c kit v rows few next w rows' so space first reached.near_low reached.near p (subst (λ n. has_page p space n ≡ true) e.0 has)
        (least first reached.near_low reached.near_is (subst (λ n. n / 512 ^ p.level * 512 ^ p.level ≡ n → ⊥) e.1 broken)) (let h = cut.high in omega (arith, h))
    by page edge (inr e) has broken = reached_table a b thread c kit v rows few next w rows' so space (first + count - 1) reached.far_low reached.far p (subst (λ n. has_page p space n ≡ true) e.0 has)
        (least (first + count) reached.far_low reached.far_is (subst (λ n. n / 512 ^ p.level * 512 ^ p.level ≡ n → ⊥) e.1 broken)) (let h = cut.high in omega (arith, h))

    go : AtEnd (levels (state_of a)) space first count few some p cut → set.contains so.tables p ≡ true
    go e = by e.page e.edge e.is e.has e.broken
