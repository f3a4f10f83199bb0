-- The tables of a space that have a cell in their spans, counted from the last held row to the first.
use Rattle.std.proofs.Common.{◌≡◌, ℕ, zero, suc, ◌+◌, ◌<◌, ◌≤◌, List, [], ◌∷◌, length, refl, sym, subst, ◌⊎◌, inl, inr, arith}
use Rattle.std.specs.List.{Contains}
use Rattle.table_place.specs.Place.{span_first, span_count}
use Rattle.machine_plan.specs.HeldRows.{Row}
use Rattle.held_needs.specs.Copies.{IsKeyOf, IsFirstKey, no_key}

-- one of these rows has a cell at a page before the end of the span of a table
pub record IsUsed (later : List Row) (h : Row) : Type 0 where
  pub deep : 1 ≤ h.place.level
  pub low : h.place.level < 6
  pub page : ℕ
  pub row : Row
  pub held : Contains later row
  pub key : IsKeyOf row page
  pub before : page < span_first h.place + span_count h.place

-- how many rows are used by those from them on
abbrev pub Marked : List Row → ℕ → Type 0
Marked [] n = n ≡ 0
Marked (h ∷ later) n = (m : ℕ) × Marked later m × ((IsUsed (h ∷ later) h × (n ≡ m + 1)) ⊎ ((IsUsed (h ∷ later) h → ⊥) × (n ≡ m)))

-- the first page with a cell, and how many rows are used
pub record Noted (later : List Row) (next count : ℕ) : Type 0 where
  pub least : (g : Row) (q : ℕ) → Contains later g → IsKeyOf g q → next ≤ q
  pub there : next < no_key → (g : Row) × Contains later g × IsKeyOf g next
  pub marked : Marked later count
  pub few : count ≤ length later

pub none_noted : Noted [] no_key 0
none_noted = record {
  least = λ g q held key. absurd (none held.0 held.1);
  there = λ less. absurd (below no_key less);
  marked = refl;
  few = omega arith;
}
  where
    none : (k : ℕ) → k < 0 → ⊥
    none k h = omega (arith, h)

    below : (n : ℕ) → n < n → ⊥
    below n h = omega arith

in_rest : (h g : Row) (later : List Row) → Contains later g → Contains (h ∷ later) g
in_rest h g later (k, inside, is) = (suc k, omega (arith, inside), is)

pub here_or_later : (h g : Row) (later : List Row) → Contains (h ∷ later) g → (h ≡ g) ⊎ Contains later g
here_or_later h g later (zero, inside, is) = inl is
here_or_later h g later (suc k, inside, is) = inr (k, omega (arith, inside), is)

at_head : (h : Row) (later : List Row) → Contains (h ∷ later) h
at_head h later = (0, omega arith, refl)

-- one row more
module _ (h : Row) (later : List Row) (next count key m : ℕ) (noted : Noted later next count) (first : IsFirstKey h key) (low_next : m ≤ next) (low_key : m ≤ key) (one : (m ≡ next) ⊎ (m ≡ key)) where
  least_more : (g : Row) (q : ℕ) → Contains (h ∷ later) g → IsKeyOf g q → m ≤ q
  least_more g q held is = elim (here_or_later h g later held) [
    | inl same ↦ omega (arith, first.least q (subst (λ x. IsKeyOf x q) (sym same) is), low_key)
    | inr behind ↦ omega (arith, noted.least g q behind is, low_next)
  ]

  there_more : m < no_key → (g : Row) × Contains (h ∷ later) g × IsKeyOf g m
  there_more less = go one
    where
      go : (m ≡ next) ⊎ (m ≡ key) → (g : Row) × Contains (h ∷ later) g × IsKeyOf g m
      go (inl e) = let at = noted.there (subst (λ n. n < no_key) e less) in (at.0, in_rest h at.0 later at.1, subst (IsKeyOf at.0) (sym e) at.2)
      go (inr e) = (h, at_head h later, subst (IsKeyOf h) (sym e) (first.there (subst (λ n. n < no_key) e less)))

  pub used_more : 1 ≤ h.place.level → h.place.level < 6 → m < span_first h.place + span_count h.place → m < no_key → Noted (h ∷ later) m (count + 1)
  used_more deep low before small =
      let at = there_more small in
      record {
        least = least_more;
        there = there_more;
        marked = (count, noted.marked, inl (record { deep = deep; low = low; page = m; row = at.0; held = at.1; key = at.2; before = before }, refl));
        few = omega (arith, noted.few);
      }

  pub unused_more : (1 ≤ h.place.level → h.place.level < 6 → m < span_first h.place + span_count h.place → ⊥) → Noted (h ∷ later) m count
  unused_more none = record {
    least = least_more;
    there = there_more;
    marked = (count, noted.marked, inr ((λ used. none used.deep used.low (omega (arith, least_more used.row used.page used.held used.key, used.before))), refl));
    few = omega (arith, noted.few);
  }
