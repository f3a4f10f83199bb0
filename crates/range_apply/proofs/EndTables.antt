-- A table that a mapping operation cuts and that is missing: it is wanted where the page at that end changes.
--     stays_alike, stays_same      the page stays where the span is alike afterwards, and only there
--     near_is, far_is      the tables above the pages at the ends
use Rattle.std.specs.Prelude.{◌≡◌, ℕ, ◌+◌, ◌-◌, ◌*◌, ◌/◌, ◌^◌, ◌<◌, ◌≤◌, ◌⊎◌, Bool, true, false}
use Rattle.std.specs.FinMap as fin
use Rattle.std.specs.FinSet as set
use Rattle.std.proofs.Common.{sym, refl, ◌∙◌, ap, arith, inl, inr}
use Rattle.std.proofs.lemmas.Bool.{and_from, le-leb, false_from_ne_true, cases_lt}
use Rattle.std.proofs.lemmas.Nat.{div-mul-add}
use Rattle.corten_base.specs.declared.calls.TxnOp.{TxnOp}
use Rattle.page_map.specs.Alike.{is_alike}
use Rattle.page_map.specs.Cell.{AddressSpace}
use Rattle.page_map.specs.Mapping.{op_first, op_pages, after_op}
use Rattle.page_map.specs.State.{State, IsConsistent, levels, space_at}
use Rattle.page_map.proofs.Alike.{part_alike, same_alike}
use Rattle.page_map.proofs.Mappings.{inside_alike, leaves_out}
use Rattle.page_map.proofs.NeedOf.{IsCut, all_or_none, missing_alike}
use Rattle.table_place.specs.declared.Place.{Place}
use Rattle.table_place.specs.Place.{place_of, span_first, span_count}
use Rattle.table_place.specs.Range.{within}
use Rattle.table_place.proofs.Entries.{page_in_span}
use Rattle.table_place.proofs.Spans.{span_pos}
use Rattle.table_place.proofs.Tables.{in_range, to_range}
use Rattle.machine_plan.proofs.Towers.{tower_has}
use Rattle.range_apply.specs.Ends.{IsBroken}

module _ (st : State) (space : ℕ) (ok : IsConsistent st) (o : TxnOp) (p : Place) (cut : IsCut (levels st) space (op_first o) (op_pages o) p) (gone : set.contains st.tables p ≡ false)
    (page : ℕ) (inside : within (op_first o) (op_pages o) page ≡ true) (from : span_first p ≤ page) (to : page < span_first p + span_count p) where
  abbrev old : AddressSpace
  old = space_at st space

  abbrev new : AddressSpace
  new = after_op o old

  was : is_alike old (span_first p) (span_count p) ≡ true
  was = missing_alike st space ok p cut.same_space cut.low cut.high gone

  range : (op_first o ≤ page) × (page < op_first o + op_pages o)
  range = in_range (op_first o) (op_pages o) page inside

  between : (a b : ℕ) → a ≤ b → op_first o ≤ a → b < op_first o + op_pages o → span_first p ≤ a → b < span_first p + span_count p → (is_alike old a (b + 1 - a) ≡ true) × (is_alike new a (b + 1 - a) ≡ true)
  between a b h l r m n =
      let part = part_alike old (span_first p) (span_count p) a (b + 1 - a) (λ x c d. (omega (arith, m, c), omega (arith, n, d, h))) was in
      (part, inside_alike o old a (b + 1 - a) (and_from _ _ (le-leb (op_first o) a l) (le-leb (a + (b + 1 - a)) (op_first o + op_pages o) (omega (arith, r, h)))) part)

  pub stays_alike : fin.get new page ≡ fin.get old page → is_alike new (span_first p) (span_count p) ≡ true
  stays_alike same = same_alike old new (span_first p) (span_count p) each was
    where
      each_in : (q : ℕ) → within (op_first o) (op_pages o) q ≡ true → span_first p ≤ q → q < span_first p + span_count p → fin.get new q ≡ fin.get old q
      each_in q w a b = elim (cases_lt q page) [
        | inl less ↦ (let at = in_range (op_first o) (op_pages o) q w in
            let part = between q page (omega (arith, less)) at.0 range.1 a to in
            all_or_none old new q (page + 1 - q) part.0 part.1 page q (omega (arith, less)) (omega (arith, less)) (omega arith) (omega (arith, less)) same)
        | inr more ↦ (let at = in_range (op_first o) (op_pages o) q w in
            let part = between page q more range.0 at.1 from b in
            all_or_none old new page (q + 1 - page) part.0 part.1 page q (omega arith) (omega (arith, more)) more (omega (arith, more)) same)
      ]

      each : (q : ℕ) → span_first p ≤ q → q < span_first p + span_count p → fin.get new q ≡ fin.get old q
      each q a b = go (within (op_first o) (op_pages o) q) refl
        where
          go : (x : Bool) → within (op_first o) (op_pages o) q ≡ x → fin.get new q ≡ fin.get old q
          go true w = each_in q w a b
          go false w = leaves_out o old q w

  pub stays_same : is_alike new (span_first p) (span_count p) ≡ true → fin.get new page ≡ fin.get old page
  stays_same is = by_side cut.outside
    where
      out : (q : ℕ) → (q < op_first o) ⊎ (op_first o + op_pages o ≤ q) → within (op_first o) (op_pages o) q ≡ false
      out q side = false_from_ne_true _ (λ w. let at = in_range (op_first o) (op_pages o) q w in clash side at.0 at.1)
        where
          clash : (q < op_first o) ⊎ (op_first o + op_pages o ≤ q) → op_first o ≤ q → q < op_first o + op_pages o → ⊥
          clash (inl l) a b = omega (arith, l, a)
          clash (inr r) a b = omega (arith, r, b)

      by_side : (span_first p < op_first o) ⊎ (op_first o + op_pages o < span_first p + span_count p) → fin.get new page ≡ fin.get old page
      by_side (inl left) = all_or_none old new (span_first p) (span_count p) was is (span_first p) page (omega arith) (omega (arith, from, to)) from to (leaves_out o old (span_first p) (out (span_first p) (inl left)))
      by_side (inr right) = all_or_none old new (span_first p) (span_count p) was is (op_first o + op_pages o) page (omega (arith, from, range.1)) right from to
          (leaves_out o old (op_first o + op_pages o) (out (op_first o + op_pages o) (inr (omega arith))))

-- ---- the tables above the ends

module _ (L space first count : ℕ) (few : L ≤ 5) (some : 1 ≤ count) (k : ℕ) (deep : 1 ≤ k) (high : k < L) where
  small : k < 6
  small = omega (arith, high, few)

  pub in_span : (page : ℕ) → (span_first (place_of space k page) ≤ page) × (page < span_first (place_of space k page) + span_count (place_of space k page))
  in_span page = in_range (span_first (place_of space k page)) (span_count (place_of space k page)) page (page_in_span (place_of space k page) space page small (tower_has space k page small))

  strictly : (n m : ℕ) → n ≤ m → (n ≡ m → ⊥) → n < m
  strictly n m le ne = omega arith

  pub near_is : IsBroken first k → IsCut L space first count (place_of space k first)
  near_is broken =
      let at = in_span first in
      record {
        same_space = refl;
        low = deep;
        high = high;
        page = first;
        within_range = to_range first count first (omega arith) (omega (arith, some));
        from = at.0;
        to = at.1;
        outside = inl (strictly (first / 512 ^ k * 512 ^ k) first at.0 broken);
      }

  pub far_is : IsBroken (first + count) k → IsCut L space first count (place_of space k (first + count - 1))
  far_is broken =
      let at = in_span (first + count - 1) in
      record {
        same_space = refl;
        low = deep;
        high = high;
        page = first + count - 1;
        within_range = to_range first count (first + count - 1) (omega (arith, some)) (omega (arith, some));
        from = at.0;
        to = at.1;
        outside = inr (strictly (first + count) (span_first (place_of space k (first + count - 1)) + span_count (place_of space k (first + count - 1))) (omega (arith, at.1, some)) never);
      }
    where
      never : first + count ≡ span_first (place_of space k (first + count - 1)) + span_count (place_of space k (first + count - 1)) → ⊥
      never e =
          let p = (first + count - 1) / 512 ^ k in
          let end : (p + 1) * 512 ^ k + 0 ≡ first + count = by p (512 ^ k) (sym e) in
          let parts : (first + count) / 512 ^ k ≡ p + 1 = ap (λ n. n / 512 ^ k) (sym end) ∙ div-mul-add (p + 1) (512 ^ k) 0 (span_pos k) in
          let whole : (first + count) / 512 ^ k * 512 ^ k ≡ (p + 1) * 512 ^ k = ap (λ n. n * 512 ^ k) parts in
          broken (omega (arith, whole, end))
        where
          by : (p s : ℕ) → p * s + s ≡ first + count → (p + 1) * s + 0 ≡ first + count
          by p s h = plain p s ∙ h
            where
              plain : (p s : ℕ) → (p + 1) * s + 0 ≡ p * s + s
              plain p s = omega arith
