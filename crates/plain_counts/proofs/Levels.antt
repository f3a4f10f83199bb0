-- The tables of one level after another.
use Rattle.std.proofs.Common.{◌≡◌, ℕ, zero, suc, ◌+◌, ◌-◌, ◌≤◌, Bool, true, false, not, [], ◌∷◌, ◌++◌, append-nil, refl, sym, ap, ◌∙◌, arith}
use Rattle.std.specs.Prelude.{◌&&◌, nat_eq}
use Rattle.std.specs.List.{range_with_len, flat_map}
use Rattle.std.specs.Ordering.{nat_cmp, is_le, is_eq, ordering_then}
use Rattle.std.specs.declared.cmp.Ordering.{Ordering}
use Rattle.std.specs.declared.cmp.Ordering.TheVariants.{Less, Equal, Greater}
use Rattle.std.specs.declared.ops.Bound.TheVariants.{Included, Excluded}
use Rattle.std.specs.Cmp.{unsigned_tied, nat_eq_equiv}
use Rattle.std.specs.BTreeMap.Range.{range_contains}
use Rattle.std.proofs.lemmas.List.Concat.{flat_map-append}
use Rattle.table_place.specs.declared.Place.{Place}
use Rattle.table_place.specs.Range.{within}
use Rattle.table_place.specs.Place.{place_cmp, above, above_in_level}
use Rattle.page_map.proofs.Range.{inside, outside}
use Rattle.plain_counts.proofs.Gaps.{in_range, is_in, bounds}
use Rattle.plain_counts.specs.Levels.{is_in_level}

-- one number more
pub range_more : (a n : ℕ) → range_with_len a (n + 1) ≡ range_with_len a n ++ (a + n) ∷ []
range_more a zero = let e : a ≡ a + 0 = omega arith in ap (λ k. k ∷ []) e
range_more a (suc n) =
    let count : suc n + 1 ≡ suc (n + 1) = omega arith in
    let last : a + 1 + n ≡ a + suc n = omega arith in
    ap (range_with_len a) count ∙ ap (λ ks. a ∷ ks) (range_more (a + 1) n) ∙ ap (λ k. a ∷ (range_with_len (a + 1) n ++ k ∷ [])) last

pub above_more : (k space first count : ℕ) → above (k + 1) space first count ≡ above k space first count ++ above_in_level space first count (1 + k)
unfolding above
above_more k space first count =
    ap (flat_map (above_in_level space first count)) (range_more 1 k) ∙ flat_map-append (above_in_level space first count) (range_with_len 1 k) ((1 + k) ∷ [])
    ∙ ap (λ ps. flat_map (above_in_level space first count) (range_with_len 1 k) ++ ps) (append-nil (above_in_level space first count (1 + k)))

-- ---- a part of a set, by the order of its places

same_first : (r x y : Ordering) → (is_le (ordering_then r x) && not (is_le (ordering_then r y))) ≡ (is_eq r && (is_le x && not (is_le y)))
same_first Less x y = refl
same_first Equal x y = refl
same_first Greater x y = refl

tied : (a b : ℕ) → is_eq (nat_cmp a b) ≡ nat_eq b a
tied a b = unsigned_tied a b ∙ nat_eq_equiv.symm a b

prefix_in : (low end q : ℕ) → low ≤ end → (is_le (nat_cmp low q) && not (is_le (nat_cmp end q))) ≡ within low (end - low) q
prefix_in low end q room = go (in_range low end q) (within low (end - low) q) refl refl
  where
    go : (a b : Bool) → in_range low end q ≡ a → within low (end - low) q ≡ b → a ≡ b
    go true true ha hb = refl
    go false false ha hb = refl
    go true false ha hb = absurd (outside low (end - low) q hb (bounds low end q ha).0 (omega (arith, (bounds low end q ha).1, (bounds low end q ha).0)))
    go false true ha hb = let h = inside low (end - low) q hb in sym (sym (is_in low end q h.0 (omega (arith, room, h.1))) ∙ ha)

-- between two places of one level
pub between_places : (space level low end : ℕ) → low ≤ end → (p : Place) →
    range_contains place_cmp (Included (record { space = space; level = level; prefix = low })) (Excluded (record { space = space; level = level; prefix = end })) p
    ≡ is_in_level space level low (end - low) p
between_places space level low end room p =
    same_first (nat_cmp space p.space) (ordering_then (nat_cmp level p.level) (nat_cmp low p.prefix)) (ordering_then (nat_cmp level p.level) (nat_cmp end p.prefix))
    ∙ (λ i. tied space p.space i && same_first (nat_cmp level p.level) (nat_cmp low p.prefix) (nat_cmp end p.prefix) i)
    ∙ (λ i. nat_eq p.space space && (tied level p.level i && prefix_in low end p.prefix room i))
