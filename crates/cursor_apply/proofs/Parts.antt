-- Which entries of a table have all their pages in a range.
--     is_part      by two quotients
--     all_of_none      the directory has none
use Rattle.std.specs.Prelude.{◌≡◌, ℕ, ◌+◌, ◌-◌, ◌*◌, ◌/◌, ◌^◌, ◌<◌, ◌≤◌, min}
use Rattle.std.proofs.Common.{sym, refl, ◌∙◌, ap, subst, arith, zero-add}
use Rattle.std.proofs.Math.Nat.{le-div_iff_mul-le}
use Rattle.table_place.specs.declared.Place.{Place}
use Rattle.table_place.proofs.Spans.{span_pos}
use Rattle.cursor_apply.specs.Changing.{IsPart, IsInside, pages_before}

-- x spans reach to a page or behind it
module _ (s : ℕ) (some : 0 < s) where
  up : (page x : ℕ) → page ≤ x * s → (page + s - 1) / s ≤ x
  up page x h = lower ((page + s - 1) / s) (λ less. let more = (le-div_iff_mul-le {k = s} {x = x + 1} {y = page + s - 1} some).0 less in let e = next x in omega arith)
    where
      next : (x : ℕ) → (x + 1) * s ≡ x * s + s
      next x = omega arith

      lower : (q : ℕ) → (x + 1 ≤ q → ⊥) → q ≤ x
      lower q never = omega arith

  reach : (page x : ℕ) → (page + s - 1) / s ≤ x → page ≤ x * s
  reach page x h = lower (λ less. let more = (le-div_iff_mul-le {k = s} {x = x + 1} {y = page + s - 1} some).1 (let e = next x in omega arith) in omega arith)
    where
      next : (x : ℕ) → (x + 1) * s ≡ x * s + s
      next x = omega arith

      lower : (x * s < page → ⊥) → page ≤ x * s
      lower never = omega arith

module _ (place : Place) (first count s from0 to from : ℕ) (is : s ≡ 512 ^ (place.level - 1)) (low : place.level < 6)
    (from_is : from0 ≡ min ((first + s - 1) / s - 512 * place.prefix) 512) (to_is : to ≡ min ((first + count) / s - 512 * place.prefix) 512) (least : from ≡ min from0 to) where
  some : 0 < s
  some = subst (λ n. 0 < n) (sym is) (span_pos (place.level - 1))

  before : (index : ℕ) → pages_before place index ≡ (512 * place.prefix + index) * s
  before index = ap (λ n. (512 * place.prefix + index) * n) (sym is)

  into : (index : ℕ) → from ≤ index → index < to → IsInside place first count index
  into index ge lt =
      let q = (first + s - 1) / s in
      let low : q ≤ 512 * place.prefix + index = reached q (omega (arith, ge, lt, least, from_is, to_is)) in
      let r = (first + count) / s in
      let high : 512 * place.prefix + (index + 1) ≤ r = within r (omega (arith, lt, to_is)) in (
        subst (λ n. first ≤ n) (sym (before index)) (reach s some first (512 * place.prefix + index) low),
        subst (λ n. n ≤ first + count) (sym (before (index + 1))) ((le-div_iff_mul-le {k = s} {x = 512 * place.prefix + (index + 1)} {y = first + count} some).0 high),
      )
    where
      reached : (q : ℕ) → min (q - 512 * place.prefix) 512 ≤ index → q ≤ 512 * place.prefix + index
      reached q h = omega (arith, lt, to_is)

      within : (r : ℕ) → index < min (r - 512 * place.prefix) 512 → 512 * place.prefix + (index + 1) ≤ r
      within r h = omega arith

  out_of : (index : ℕ) → index < 512 → (from ≤ index → index < to → ⊥) → IsInside place first count index → ⊥
  out_of index inside never has =
      let low = up s some first (512 * place.prefix + index) (subst (λ n. first ≤ n) (before index) has.0) in
      let high = (le-div_iff_mul-le {k = s} {x = 512 * place.prefix + (index + 1)} {y = first + count} some).1 (subst (λ n. n ≤ first + count) (before (index + 1)) has.1) in
      never (from_low ((first + s - 1) / s) low from_is) (to_high ((first + count) / s) high to_is)
    where
      from_low : (q : ℕ) → q ≤ 512 * place.prefix + index → from0 ≡ min (q - 512 * place.prefix) 512 → from ≤ index
      from_low q h e = omega arith

      to_high : (r : ℕ) → 512 * place.prefix + (index + 1) ≤ r → to ≡ min (r - 512 * place.prefix) 512 → index < to
      to_high r h e = omega arith

  pub is_part : IsPart place first count from to
  is_part = record {
    order = omega arith;
    most = omega arith;
    low = λ _. low;
    inside = into;
    outside = λ index inside _ never. out_of index inside never;
  }

pub all_of_none : (place : Place) (first count : ℕ) → 5 < place.level → IsPart place first count 0 0
all_of_none place first count top = record {
  order = omega arith;
  most = omega arith;
  low = λ some. absurd (omega arith);
  inside = λ index ge lt. absurd (omega arith);
  outside = λ index inside low never has. absurd (omega arith);
}
