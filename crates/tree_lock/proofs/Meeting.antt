-- Entries of tables, and the zones that positions below them meet.
use Rattle.std.proofs.Common.{◌≡◌, ◌≢◌, ℕ, ◌+◌, ◌-◌, ◌*◌, ◌/◌, ◌%◌, ◌^◌, ◌<◌, ◌≤◌, true, ◌&&◌, sym, ap, ◌∙◌, subst, refl, arith, ◌⊎◌, inl, inr, ⊎_elim, Bool, lit<}
use Rattle.std.specs.Prelude.{nat_lt}
use Rattle.std.proofs.Math.Nat.{div-eq_of_lt, div-eq_of_lt-le, le-div_iff_mul-le, mul-div_cancel, add-mul, one-mul}
use Rattle.std.proofs.Math.Pow.{pow_mono}
use Rattle.std.proofs.lemmas.Bool.{and_parts, ltb-true, cases_lt, cond-false}
use Rattle.table_place.specs.declared.Place.{Place}
use Rattle.table_place.specs.Range.{within}
use Rattle.table_place.specs.Place.{directory, is_directory, is_place, is_user_range, entry_place, root, has_page}
use Rattle.table_place.proofs.Spans.{span_pos, level_bits, quotient_up, quotient_le, quotient_low, quotient_high, user_first, user_end, user_below}
use Rattle.table_place.proofs.Tables.{in_range}
use Rattle.table_place.proofs.Entries.{no_directory, page_parts, page_from}
use Rattle.tree_lock.specs.declared.zone.Zone.{Zone}
use Rattle.tree_lock.specs.declared.zone.Zone.TheVariants.{Pages, Space}
use Rattle.tree_lock.specs.declared.ways.Way.TheVariants.{Down, Just, Here}
use Rattle.tree_lock.specs.Ways.{IsWay, Cuts}
use Rattle.tree_lock.specs.Zone.{ZoneHas, IsZone, Meets, HasAll, LiesIn, Spans, MeetsTwo, IsTable, IsMet}

module _ (levels : ℕ) where
  -- what a position of a table is
  pub record IsTablePlace (p : Place) : Type 0 where
    pub few : levels < 6
    pub space : p.space < 64
    pub low : 1 ≤ p.level
    pub high : p.level ≤ levels
    pub prefix : p.prefix < 512 ^ (levels - p.level)

  pub placed : levels < 6 → (p : Place) → is_place levels p ≡ true → IsTablePlace p
  placed few p h =
      let outer = and_parts (nat_lt p.space 64) (within 1 levels p.level && nat_lt p.prefix (512 ^ (levels - p.level))) h in
      let inner = and_parts (within 1 levels p.level) (nat_lt p.prefix (512 ^ (levels - p.level))) outer.1 in
      let depth = in_range 1 levels p.level inner.0 in
      record { few = few; space = ltb-true p.space 64 outer.0; low = depth.0; high = omega (arith, depth.1); prefix = ltb-true p.prefix (512 ^ (levels - p.level)) inner.1 }

  -- the position below an entry of a table that is not the directory
  abbrev pub under : Place → ℕ → Place
  under p i = record { space = p.space; level = p.level - 1; prefix = 512 * p.prefix + i }

  pub child_is : (p : Place) (i : ℕ) → p.level < 6 → entry_place levels p i ≡ under p i
  child_is p i low = cond-false (is_directory p) (root levels i) (under p i) (no_directory p low)

  module _ (p : Place) (i : ℕ) (at : IsTablePlace p) where
    -- the pages below an entry
    pub child_parts : (s n : ℕ) → has_page (entry_place levels p i) s n ≡ true → (p.space ≡ s) × (n / 512 ^ (p.level - 1) ≡ 512 * p.prefix + i)
    child_parts s n h = page_parts (under p i) s n (let high = at.high in omega arith) (subst (λ (q : Place). has_page q s n ≡ true) (child_is p i (let high = at.high in omega arith)) h)

    pub child_from : (s n : ℕ) → p.space ≡ s → n / 512 ^ (p.level - 1) ≡ 512 * p.prefix + i → has_page (entry_place levels p i) s n ≡ true
    child_from s n e f = subst (λ (q : Place). has_page q s n ≡ true) (sym (child_is p i (let high = at.high in omega arith))) (page_from (under p i) s n (let high = at.high in omega arith) e f)

  -- the quotient at a level, from that one level below
  pub up : (x level : ℕ) → 1 ≤ level → x / 512 ^ level ≡ x / 512 ^ (level - 1) / 512
  up x level low = ap (λ (n : ℕ). x / 512 ^ n) (back level low) ∙ quotient_up x (level - 1)
    where
      back : (n : ℕ) → 1 ≤ n → n ≡ n - 1 + 1
      back n low = omega arith

  -- the first page below an entry
  pub first_below : (p : Place) (i : ℕ) → (512 * p.prefix + i) * 512 ^ (p.level - 1) / 512 ^ (p.level - 1) ≡ 512 * p.prefix + i
  first_below p i = mul-div_cancel (512 * p.prefix + i) (span_pos (p.level - 1))

  -- Zones of pages

  -- the first and the last page of a zone of pages lie in a span that has all
  pub all_parts : (space first count : ℕ) (b : _) (p : Place) → IsTablePlace p → 1 ≤ count → HasAll (Pages space first count b) p
      → (p.space ≡ space) × (first / 512 ^ p.level ≡ p.prefix) × ((first + count - 1) / 512 ^ p.level ≡ p.prefix)
  all_parts space first count b p at some all =
      let low = page_parts p space first (let high = at.high in omega arith) (all space first (refl, omega arith, omega arith)) in
      let end = page_parts p space (first + count - 1) (let high = at.high in omega arith) (all space (first + count - 1) (refl, omega arith, omega arith)) in
      (low.0, low.1, end.1)

  -- where both lie below one entry, its span has all
  pub all_below : (space first count : ℕ) (b : _) (p : Place) (i : ℕ) → IsTablePlace p → p.space ≡ space → first / 512 ^ (p.level - 1) ≡ 512 * p.prefix + i → (first + count - 1) / 512 ^ (p.level - 1) ≡ 512 * p.prefix + i
      → HasAll (Pages space first count b) (entry_place levels p i)
  all_below space first count b p i at same low end s n has =
      let a = quotient_le first n (p.level - 1) has.1 in let z = quotient_le n (first + count - 1) (p.level - 1) (let past = has.2 in omega arith) in
      child_from p i at s n (same ∙ sym has.0) (omega arith)

  -- and a range of as many pages is the span
  pub just_below : (space first count : ℕ) (b : _) (p : Place) (i : ℕ) → IsTablePlace p → p.space ≡ space → first / 512 ^ (p.level - 1) ≡ 512 * p.prefix + i → (first + count - 1) / 512 ^ (p.level - 1) ≡ 512 * p.prefix + i
      → count ≡ 512 ^ (p.level - 1) → LiesIn (entry_place levels p i) (Pages space first count b)
  just_below space first count b p i at same low end whole s n h =
      let is = child_parts p i at s n h in
      let m : ℕ = 512 ^ (p.level - 1) in
      let q : ℕ = 512 * p.prefix + i in
      let a : first / m * m ≤ first = quotient_low first (p.level - 1) in
      let z : first + count - 1 < (first + count - 1) / m * m + m = quotient_high (first + count - 1) (p.level - 1) in
      let u : n / m * m ≤ n = quotient_low n (p.level - 1) in
      let w : n < n / m * m + m = quotient_high n (p.level - 1) in
      let e : (first + count - 1) / m * m ≡ q * m = ap (λ x. x * m) end in
      let f : n / m * m ≡ q * m = ap (λ x. x * m) is.1 in
      let g : first / m * m ≡ q * m = ap (λ x. x * m) low in
      let c : count ≡ m = whole in
      (sym is.0 ∙ same, omega arith, omega arith)

  -- a span of another number of pages that has all is greater
  pub more_below : (space first count : ℕ) (b : _) (p : Place) (i : ℕ) → IsTablePlace p → p.space ≡ space → 1 ≤ count → first / 512 ^ (p.level - 1) ≡ 512 * p.prefix + i → (first + count - 1) / 512 ^ (p.level - 1) ≡ 512 * p.prefix + i
      → count ≢ 512 ^ (p.level - 1) → ¬ LiesIn (entry_place levels p i) (Pages space first count b)
  more_below space first count b p i at same some low end other lies =
      let m : ℕ = 512 ^ (p.level - 1) in
      let q : ℕ = 512 * p.prefix + i in
      let pos : 0 < m = span_pos (p.level - 1) in
      let one = lies space (q * m) (child_from p i at space (q * m) same (first_below p i)) in
      let last_is : (q * m + m - 1) / m ≡ q = div-eq_of_lt-le m (omega arith) (omega (arith, add-mul q 1 m, one-mul m)) in
      let last = lies space (q * m + m - 1) (child_from p i at space (q * m + m - 1) same last_is) in
      let a : first / m * m ≤ first = quotient_low first (p.level - 1) in
      let z : first + count - 1 < (first + count - 1) / m * m + m = quotient_high (first + count - 1) (p.level - 1) in
      let e : (first + count - 1) / m * m ≡ q * m = ap (λ x. x * m) end in
      let g : first / m * m ≡ q * m = ap (λ x. x * m) low in
      let l = one.1 in let r = last.2 in
      other (omega arith)

  -- where they lie below two entries, the zone meets both
  pub two_below : (space first count : ℕ) (b : _) (p : Place) → IsTablePlace p → 1 ≤ count → HasAll (Pages space first count b) p → first / 512 ^ (p.level - 1) ≢ (first + count - 1) / 512 ^ (p.level - 1) → MeetsTwo levels (Pages space first count b) p
  two_below space first count b p at some all ne =
      let parts = all_parts space first count b p at some all in
      let l : ℕ = first / 512 ^ (p.level - 1) in
      let h : ℕ = (first + count - 1) / 512 ^ (p.level - 1) in
      let low : l / 512 ≡ p.prefix = sym (up first p.level at.low) ∙ parts.1 in
      let high : h / 512 ≡ p.prefix = sym (up (first + count - 1) p.level at.low) ∙ parts.2 in
      let low_is : l ≡ 512 * p.prefix + l % 512 = omega arith in
      let high_is : h ≡ 512 * p.prefix + h % 512 = omega arith in
      record {
        one = l % 512;
        other = h % 512;
        one_inside = omega arith;
        other_inside = omega arith;
        two = λ e. ne (omega arith);
        meets_one = record { space = space; page = first; of_zone = (refl, omega arith, omega arith); of_span = child_from p (l % 512) at space first parts.0 low_is };
        meets_other = record { space = space; page = first + count - 1; of_zone = (refl, omega arith, omega arith); of_span = child_from p (h % 512) at space (first + count - 1) parts.0 high_is };
      }

  -- the entry below which both lie
  pub one_below : (space first count : ℕ) (b : _) (p : Place) → IsTablePlace p → 1 ≤ count → HasAll (Pages space first count b) p → (i : ℕ) → i ≡ first / 512 ^ (p.level - 1) % 512 → first / 512 ^ (p.level - 1) ≡ (first + count - 1) / 512 ^ (p.level - 1)
      → (first / 512 ^ (p.level - 1) ≡ 512 * p.prefix + i) × ((first + count - 1) / 512 ^ (p.level - 1) ≡ 512 * p.prefix + i)
  one_below space first count b p at some all i is same =
      let parts = all_parts space first count b p at some all in
      let l : ℕ = first / 512 ^ (p.level - 1) in
      let low : l / 512 ≡ p.prefix = sym (up first p.level at.low) ∙ parts.1 in
      (omega arith, omega arith)

  -- The answers of a descent

  -- a position is the directory's or one of a table below it
  pub placed_or : levels < 6 → (p : Place) → IsTable levels p → p.level ≢ 6 → IsTablePlace p
  placed_or few p table other = ⊎_elim (λ (e : p ≡ directory). absurd (other (ap (λ (q : Place). q.level) e))) (λ (h : is_place levels p ≡ true). placed few p h) table

  top_or : levels < 6 → (p : Place) → IsTable levels p → p.level ≡ 6 → p ≡ directory
  top_or few p table high = ⊎_elim (λ (e : p ≡ directory). e) (λ (h : is_place levels p ≡ true). let at = placed few p h in let less = at.high in absurd (omega arith)) table

  -- above the roots there is the directory alone
  pub above_roots : levels < 6 → (p : Place) → IsTable levels p → levels < p.level → p.level ≡ 6
  above_roots few p table high = ⊎_elim (λ (e : p ≡ directory). ap (λ (q : Place). q.level) e) (λ (h : is_place levels p ≡ true). let at = placed few p h in let less = at.high in absurd (omega arith)) table

  pub not_above : levels < 6 → (p : Place) → p.level ≤ levels → p.level ≢ 6
  not_above few p low e = omega arith

  pub prefix_small : (p : Place) → IsTablePlace p → p.prefix < 2 ^ 36
  prefix_small p at =
      let bits = level_bits (levels - p.level) in let wide : 2 ^ (9 * (levels - p.level)) ≤ 2 ^ 36 = pow_mono (most p at) in let prefix = at.prefix in omega arith
    where
      most : (p : Place) → IsTablePlace p → 9 * (levels - p.level) ≤ 36
      most p at = let low = at.low in let few = at.few in omega arith

  pub user : (space first count : ℕ) (b : Bool) → IsZone levels (Pages space first count b) → (16 ≤ first) × (first + count < 2 ^ (9 * levels - 1))
  user space first count b z = (user_first levels first count z.2, user_end levels first count z.2)

  -- a zone's pages have numbers of 45 bits
  pub user_small : levels < 6 → (first count : ℕ) → is_user_range levels first count ≡ true → first + count < 2 ^ 45
  user_small few first count h = let end = user_end levels first count h in let wide : 2 ^ (9 * levels - 1) ≤ 2 ^ 45 = pow_mono (less few) in omega arith
    where
      less : levels < 6 → 9 * levels - 1 ≤ 45
      less few = omega arith

  -- from the directory on to a root
  root_spans : (space first count : ℕ) (b : Bool) → levels < 6 → IsZone levels (Pages space first count b) → Spans (Pages space first count b) (entry_place levels directory space)
  root_spans space first count b few z = record {
    all = λ s n has. page_from (root levels space) s n few (sym has.0) (div-zero n (let end = user_below levels first count z.2 in let past = has.2 in omega arith));
    greater = λ _ lies. let h = lies space 0 (page_from (root levels space) space 0 few refl (div-zero 0 (span_pos levels))) in let u = user space first count b z in let low = h.1 in omega arith;
  }
    where
      div-zero : (n : ℕ) → n < 512 ^ levels → n / 512 ^ levels ≡ 0
      div-zero n less = div-eq_of_lt less

  pub way_top : levels < 6 → (zone : Zone) (p : Place) (space first count : ℕ) (b : Bool) (i : ℕ) → zone ≡ Pages space first count b → IsZone levels zone → IsTable levels p → p.level ≡ 6 → i ≡ space → IsWay levels zone p (Down i)
  way_top few zone p space first count b i is z table high e =
      let zz : IsZone levels (Pages space first count b) = subst (IsZone levels) is z in
      let d : IsWay levels (Pages space first count b) directory (Down space) = (let less = zz.0 in omega arith, tt, root_spans space first count b few zz) in
      subst (λ (y : Zone). IsWay levels y p (Down i)) (sym is) (subst (λ (q : Place). IsWay levels (Pages space first count b) q (Down i)) (sym (top_or few p table high)) (subst (λ (x : ℕ). IsWay levels (Pages space first count b) directory (Down x)) (sym e) d))

  pub way_two : levels < 6 → (zone : Zone) (p : Place) (space first count m : ℕ) (b : Bool) → zone ≡ Pages space first count b → IsZone levels zone → IsTable levels p → Spans zone p → p.level ≢ 6 → m ≡ 512 ^ (p.level - 1) → first / m ≢ (first + count - 1) / m → IsWay levels zone p Here
  way_two few zone p space first count m b is z table spans other e ne = subst (λ (y : Zone). IsWay levels y p Here) (sym is) (λ _. two_below space first count b p (placed_or few p table other) (subst (IsZone levels) is z).1 (subst (λ (y : Zone). Spans y p) is spans).all
      (λ same. ne (ap (λ (x : ℕ). first / x) e ∙ same ∙ ap (λ (x : ℕ). (first + count - 1) / x) (sym e))))

  -- below the entry of the first page the zone has all pages where the last one lies there too
  module _ (space first count m : ℕ) (b : Bool) (p : Place) (z : IsZone levels (Pages space first count b)) (at : IsTablePlace p) (spans : Spans (Pages space first count b) p)
      (e : m ≡ 512 ^ (p.level - 1)) (same : first / m ≡ (first + count - 1) / m) where
    both : (first / 512 ^ (p.level - 1) ≡ 512 * p.prefix + first / m % 512) × ((first + count - 1) / 512 ^ (p.level - 1) ≡ 512 * p.prefix + first / m % 512)
    both = one_below space first count b p at z.1 spans.all (first / m % 512) (ap (λ (x : ℕ). first / x % 512) e) (ap (λ (x : ℕ). first / x) (sym e) ∙ same ∙ ap (λ (x : ℕ). (first + count - 1) / x) e)

    same_space : p.space ≡ space
    same_space = (all_parts space first count b p at z.1 spans.all).0

    all_there : HasAll (Pages space first count b) (entry_place levels p (first / m % 512))
    all_there = all_below space first count b p (first / m % 512) at same_space both.0 both.1

    just_there : count ≡ m → LiesIn (entry_place levels p (first / m % 512)) (Pages space first count b)
    just_there whole = just_below space first count b p (first / m % 512) at same_space both.0 both.1 (whole ∙ e)

    spans_there : (b ≡ true → count ≢ m) → Spans (Pages space first count b) (entry_place levels p (first / m % 512))
    spans_there ne = record { all = all_there; greater = λ strict. more_below space first count b p (first / m % 512) at same_space z.1 both.0 both.1 (λ whole. ne strict (whole ∙ sym e)) }

  pub way_just : levels < 6 → (zone : Zone) (p : Place) (space first count m : ℕ) (b : Bool) → zone ≡ Pages space first count b → IsZone levels zone → IsTable levels p → Spans zone p → p.level ≢ 6 → m ≡ 512 ^ (p.level - 1) → first / m ≡ (first + count - 1) / m → b ≡ true → count ≡ m
      → IsWay levels zone p (Just (first / m % 512))
  way_just few zone p space first count m b is z table spans other e same strict whole = subst (λ (y : Zone). IsWay levels y p (Just (first / m % 512))) (sym is)
      (let zz = subst (IsZone levels) is z in let ss = subst (λ (y : Zone). Spans y p) is spans in let at = placed_or few p table other in
      (omega arith, strict, all_there space first count m b p zz at ss e same, just_there space first count m b p zz at ss e same whole))

  pub way_down : levels < 6 → (zone : Zone) (p : Place) (space first count m : ℕ) (b : Bool) → zone ≡ Pages space first count b → IsZone levels zone → IsTable levels p → Spans zone p → p.level ≢ 6 → m ≡ 512 ^ (p.level - 1) → first / m ≡ (first + count - 1) / m → (b ≡ true → count ≢ m)
      → IsWay levels zone p (Down (first / m % 512))
  way_down few zone p space first count m b is z table spans other e same ne = subst (λ (y : Zone). IsWay levels y p (Down (first / m % 512))) (sym is)
      (let zz = subst (IsZone levels) is z in let ss = subst (λ (y : Zone). Spans y p) is spans in let at = placed_or few p table other in (omega arith, tt, spans_there space first count m b p zz at ss e same ne))

  -- The entries that a zone meets

  -- in the directory that of its space
  pub met_root : levels < 6 → (zone : Zone) (p : Place) (space first count : ℕ) (b : Bool) (low end : ℕ) → zone ≡ Pages space first count b → IsZone levels zone → IsMet levels zone p → levels < p.level → low ≡ space → end ≡ space + 1
      → (i : ℕ) → low ≤ i → i < end → (i < 512) × Meets zone (entry_place levels p i)
  met_root few zone p space first count b low end is z met high begins ends i from to =
      let zz = subst (IsZone levels) is z in let same : i ≡ space = omega arith in
      let table : IsTable levels p = ⊎_elim (λ (e : p ≡ directory). inl e) (λ (h : (is_place levels p ≡ true) × Meets zone p). inr h.0) met in
      let top = top_or few p table (above_roots few p table high) in
      let has : ZoneHas (Pages space first count b) space first = (refl, omega arith, (let some = zz.1 in omega arith)) in
      let root : Meets (Pages space first count b) (entry_place levels directory space) = record { space = space; page = first; of_zone = has; of_span = (root_spans space first count b few zz).all space first has } in
      ((let less = zz.0 in omega arith), subst (λ (y : Zone). Meets y (entry_place levels p i)) (sym is) (subst (λ (q : Place). Meets (Pages space first count b) (entry_place levels q i)) (sym top) (subst (λ (n : ℕ). Meets (Pages space first count b) (entry_place levels directory n)) (sym same) root)))

  pub pages_small : levels < 6 → (zone : Zone) (space first count : ℕ) (b : Bool) → zone ≡ Pages space first count b → IsZone levels zone → first + count < 2 ^ 45
  pages_small few zone space first count b is z = user_small few first count (subst (IsZone levels) is z).2

  pub met_placed : levels < 6 → (zone : Zone) (p : Place) → IsMet levels zone p → p.level ≤ levels → IsTablePlace p
  met_placed few zone p met low = ⊎_elim (λ (e : p ≡ directory). absurd (not_above few p low (ap (λ (q : Place). q.level) e))) (λ (h : (is_place levels p ≡ true) × Meets zone p). placed few p h.0) met

  -- below an entry of a table the zone meets the position where its quotients are on both sides
  meets_pages : (space first count : ℕ) (b : Bool) (p : Place) (i : ℕ) → IsTablePlace p → p.space ≡ space → 1 ≤ count → first / 512 ^ (p.level - 1) ≤ 512 * p.prefix + i → 512 * p.prefix + i ≤ (first + count - 1) / 512 ^ (p.level - 1)
      → Meets (Pages space first count b) (entry_place levels p i)
  meets_pages space first count b p i at same some low high = go (cases_lt ((512 * p.prefix + i) * 512 ^ (p.level - 1)) first)
    where
      m : ℕ
      m = 512 ^ (p.level - 1)

      q : ℕ
      q = 512 * p.prefix + i

      go : (q * m < first) ⊎ (first ≤ q * m) → Meets (Pages space first count b) (entry_place levels p i)
      go (inl less) = record {
        space = space;
        page = first;
        of_zone = (refl, omega arith, omega arith);
        of_span = child_from p i at space first same (let above : q ≤ first / m = (le-div_iff_mul-le (span_pos (p.level - 1))).1 (omega arith) in omega arith);
      }
      go (inr more) = record {
        space = space;
        page = q * m;
        of_zone = (refl, more, (let last : q * m ≤ first + count - 1 = (le-div_iff_mul-le (span_pos (p.level - 1))).0 high in omega arith));
        of_span = child_from p i at space (q * m) same (first_below p i);
      }

  pages_met : (space first count : ℕ) (b : Bool) (p : Place) (i : ℕ) → IsTablePlace p → Meets (Pages space first count b) (entry_place levels p i)
      → (first / 512 ^ (p.level - 1) ≤ 512 * p.prefix + i) × (512 * p.prefix + i ≤ (first + count - 1) / 512 ^ (p.level - 1))
  pages_met space first count b p i at m =
      let is = child_parts p i at m.space m.page m.of_span in let z = m.of_zone in
      let a = quotient_le first m.page (p.level - 1) z.1 in let c = quotient_le m.page (first + count - 1) (p.level - 1) (let past = z.2 in omega arith) in
      (omega arith, omega arith)

  pub met_inside : levels < 6 → (zone : Zone) (p : Place) (space first count : ℕ) (b : Bool) (low end : ℕ) → zone ≡ Pages space first count b → IsZone levels zone → IsMet levels zone p → p.level ≢ 6 → Cuts first count p low end
      → (i : ℕ) → low ≤ i → i < end → (i < 512) × Meets zone (entry_place levels p i)
  met_inside small zone p space first count b low end is z met other cuts i from to =
      let few : i < 512 = (let less = cuts.0 in omega arith) in let both = (cuts.1 i few).0 (from, to) in
      let here = here_is zone p space first count b is z met other in
      (few, subst (λ (y : Zone). Meets y (entry_place levels p i)) (sym is) (meets_pages space first count b p i here.0 here.1 (subst (IsZone levels) is z).1 both.0 both.1))
    where
      here_is : (zone : Zone) (p : Place) (space first count : ℕ) (b : Bool) → zone ≡ Pages space first count b → IsZone levels zone → IsMet levels zone p → p.level ≢ 6 → IsTablePlace p × (p.space ≡ space)
      here_is zone p space first count b is z met other = ⊎_elim (λ (e : p ≡ directory). absurd (other (ap (λ (q : Place). q.level) e)))
          (λ (h : (is_place levels p ≡ true) × Meets zone p). let at = placed small p h.0 in let m = subst (λ (y : Zone). Meets y p) is h.1 in
          (at, (page_parts p m.space m.page (let high = at.high in omega arith) m.of_span).0 ∙ m.of_zone.0)) met

  pub met_all : levels < 6 → (zone : Zone) (p : Place) (space first count : ℕ) (b : Bool) (low end : ℕ) → zone ≡ Pages space first count b → IsMet levels zone p → p.level ≢ 6 → Cuts first count p low end
      → (i : ℕ) → i < 512 → Meets zone (entry_place levels p i) → (low ≤ i) × (i < end)
  met_all small zone p space first count b low end is met other cuts i few m = (cuts.1 i few).1 (pages_met space first count b p i (at_place met) (subst (λ (y : Zone). Meets y (entry_place levels p i)) is m))
    where
      at_place : IsMet levels zone p → IsTablePlace p
      at_place (inl e) = absurd (other (ap (λ (q : Place). q.level) e))
      at_place (inr h) = placed small p h.0

  pub met_whole : levels < 6 → (zone : Zone) (p : Place) (space : ℕ) → zone ≡ Space space → IsMet levels zone p → p.level ≢ 6 → (i : ℕ) → 0 ≤ i → i < 512 → (i < 512) × Meets zone (entry_place levels p i)
  met_whole small zone p space is met other i _ few = ⊎_elim (λ (e : p ≡ directory). absurd (other (ap (λ (q : Place). q.level) e)))
      (λ (h : (is_place levels p ≡ true) × Meets zone p). let at = placed small p h.0 in let m = subst (λ (y : Zone). Meets y p) is h.1 in
      let same : p.space ≡ space = (page_parts p m.space m.page (let high = at.high in omega arith) m.of_span).0 ∙ m.of_zone in
      (few, subst (λ (y : Zone). Meets y (entry_place levels p i)) (sym is) (record { space = space; page = (512 * p.prefix + i) * 512 ^ (p.level - 1); of_zone = refl; of_span = child_from p i at space ((512 * p.prefix + i) * 512 ^ (p.level - 1)) same (first_below p i) }))) met
