-- Tables removed by the range of their places.
use Rattle.std.proofs.Common.{◌≡◌, ℕ, ◌+◌, ◌-◌, ◌*◌, ◌/◌, ◌%◌, ◌^◌, ◌<◌, ◌≤◌, Bool, true, false, not, cond, List, [], ◌∷◌, refl, sym, ap, subst, ◌∙◌, arith}
use mathlib.Core.Bool.{true≢false}
use mathlib.Core.Logic.{inl, inr}
use Rattle.std.specs.Prelude.{◌&&◌, nat_eq, nat_lt, nat_le, min, max, IfSome}
use Rattle.std.specs.Int.{div_ceil}
use Rattle.std.specs.List.{slice_get}
use Rattle.std.specs.Ordering.{is_eq, is_gt, is_lt, eq_by_cmp}
use Rattle.std.specs.declared.cmp.Ordering.{Ordering}
use Rattle.std.specs.declared.cmp.Ordering.TheVariants.{Less, Equal, Greater}
use Rattle.std.specs.declared.ops.Bound.TheVariants.{Included, Excluded, Unbounded}
use Rattle.std.specs.BTreeMap.Range.{IsInRange}
use Rattle.std.specs.BTreeSet.{BTreeSet, IsKeyRangeOf, IsKeyInRange}
use Rattle.std.specs.BTreeSet as tree
use Rattle.std.specs.FinSet as set
use Rattle.std.specs.FinSet.{FinSet, same_set, contains-retain, contains-remove, contains-empty, empty_of_len, len-remove}
use Rattle.std.proofs.lemmas.Bool.{cases_lt, eq-eqb, eqb-true, le-leb, lt-ltb, leb-true, and_from, and_parts, le-ltb, ltb-true, ltb-false}
use Rattle.std.proofs.lemmas.Nat.{div-add-mod', mul-le, le-div, mod_below}
use Rattle.std.proofs.lemmas.Map.Views.{IsInRange-from_range_contains, range_contains-from_IsInRange}
use Rattle.table_place.specs.declared.Place.{Place}
use Rattle.table_place.specs.Range.{within, lies_in}
use Rattle.table_place.specs.Place.{place_cmp, is_inside, span_first, span_count}
use Rattle.page_map.proofs.Range.{inside, outside}
use Rattle.page_map.proofs.Places.{place_total, place_exact}
use Rattle.page_map.proofs.Evaluate.{alike}
use Rattle.plain_counts.proofs.Levels.{between_places}
use Rattle.plain_counts.specs.Levels.{is_between}

-- ---- parts of a set

and_twice : (a b c : Bool) → ((a && b) && c) ≡ (a && (b && c))
and_twice true b c = refl
and_twice false b c = refl

and_true : (b : Bool) → (b && true) ≡ b
and_true true = refl
and_true false = refl

module _ (s : FinSet place_cmp) where
  kept_at : (p : Place → Bool) (q : Place) → set.contains (set.retain s p) q ≡ (set.contains s q && p q)
  kept_at p q = contains-retain s p q (alike place_total place_exact p q)

  -- what stays of what stays
  pub retain_twice : (p q r : Place → Bool) → ((x : Place) → (p x && q x) ≡ r x) → set.retain (set.retain s p) q ≡ set.retain s r
  retain_twice p q r both = same_set place_total place_exact _ _ (λ x.
      contains-retain (set.retain s p) q x (alike place_total place_exact q x) ∙ ap (λ b. b && q x) (kept_at p x) ∙ and_twice (set.contains s x) (p x) (q x)
      ∙ ap (λ b. set.contains s x && b) (both x) ∙ sym (kept_at r x))

  -- one that goes anyhow
  pub retain_removed : (k : Place) (p : Place → Bool) → p k ≡ false → set.retain (set.remove s k) p ≡ set.retain s p
  retain_removed k p gone = same_set place_total place_exact _ _ (λ x.
      contains-retain (set.remove s k) p x (alike place_total place_exact p x) ∙ ap (λ b. b && p x) (contains-remove place_total s k x)
      ∙ go x (eq_by_cmp place_cmp x k) refl ∙ sym (kept_at p x))
    where
      none : (b : Bool) → false ≡ (b && false)
      none true = refl
      none false = refl

      go : (x : Place) (e : Bool) → eq_by_cmp place_cmp x k ≡ e → ((not e && set.contains s x) && p x) ≡ (set.contains s x && p x)
      go x false e = refl
      go x true e = let same : x ≡ k = place_exact x k (tied (place_cmp x k) e) in none (set.contains s x) ∙ ap (λ b. set.contains s x && b) (sym (ap p same ∙ gone))
        where
          tied : (r : Ordering) → is_eq r ≡ true → r ≡ Equal
          tied Less h = absurd (true≢false (sym h))
          tied Equal h = refl
          tied Greater h = absurd (true≢false (sym h))

  -- where none goes
  pub retain_all : (p : Place → Bool) → ((x : Place) → set.contains s x ≡ true → p x ≡ true) → s ≡ set.retain s p
  retain_all p all = same_set place_total place_exact _ _ (λ x. go x (set.contains s x) refl ∙ sym (kept_at p x))
    where
      go : (x : Place) (b : Bool) → set.contains s x ≡ b → set.contains s x ≡ (set.contains s x && p x)
      go x true e = e ∙ sym (all x e) ∙ ap (λ b. b && p x) (sym e)
      go x false e = e ∙ ap (λ b. b && p x) (sym e)

  pub fewer : (k : Place) → set.contains s k ≡ true → set.len (set.remove s k) < set.len s
  fewer k there = elim (cases_lt 0 (set.len s)) [
    | inl some ↦ below (set.len s) (len-remove place_total s k ∙ ap (λ b. cond b (set.len s - 1) (set.len s)) there) some
    | inr none ↦ absurd (true≢false (sym there ∙ ap (λ t. set.contains t k) (empty_of_len s (omega (arith, none))) ∙ contains-empty place_cmp k))
  ]
    where
      below : (n : ℕ) {m : ℕ} → m ≡ n - 1 → 0 < n → m < n
      below n e h = omega (arith, e, h)

  -- where none passes, all stay
  pub stays_out : (p : Place → Bool) → ((x : Place) → p x ≡ true → set.contains s x ≡ false) → (x : Place) → set.contains s x ≡ true → not (p x) ≡ true
  stays_out p none x there = go (p x) refl
    where
      go : (b : Bool) → p x ≡ b → not (p x) ≡ true
      go true e = absurd (true≢false (sym there ∙ none x e))
      go false e = ap not e

  pub retain_same : (p q : Place → Bool) → ((x : Place) → p x ≡ q x) → set.retain s p ≡ set.retain s q
  retain_same p q same = λ i. set.retain s (λ x. same x i)

-- ---- the first of a range

module _ (s : BTreeSet Place) (low high : Place) where
  lesser : (o : Ordering) → is_lt o ≡ true → o ≡ Less
  lesser Less e = refl
  lesser Equal e = absurd (true≢false (sym e))
  lesser Greater e = absurd (true≢false (sym e))

  pub first_is : (p : Place) (r t : List Place) → IsKeyRangeOf place_cmp (Included low) Unbounded s r → r ≡ p ∷ t → is_lt (place_cmp p high) ≡ true →
      (tree.contains place_cmp s p ≡ true) × (is_between low high p ≡ true)
  first_is p r t range step less =
      let entry : IsKeyInRange place_cmp (Included low) Unbounded s p = subst (λ l. IfSome (slice_get l 0) (IsKeyInRange place_cmp (Included low) Unbounded s)) step range.1 in
      (entry.1, range_contains-from_IsInRange place_total (Included low) (Excluded high) p (entry.0.0, lesser (place_cmp p high) less))

  pub none_is : (r : List Place) → IsKeyRangeOf place_cmp (Included low) Unbounded s r → r ≡ [] → (p : Place) → is_between low high p ≡ true → tree.contains place_cmp s p ≡ false
  none_is r range none p between = range.5 none p ((IsInRange-from_range_contains place_total (Included low) (Excluded high) p between).0, tt)

  -- the first from the one place on is not before the other
  pub none_before : (f : Place) (r t : List Place) → IsKeyRangeOf place_cmp (Included low) Unbounded s r → r ≡ f ∷ t → is_lt (place_cmp f high) ≡ false →
      (p : Place) → is_between low high p ≡ true → tree.contains place_cmp s p ≡ false
  none_before f r t range step far p between = go (tree.contains place_cmp s p) refl
    where
      here : IsInRange place_cmp (Included low) (Excluded high) p
      here = IsInRange-from_range_contains place_total (Included low) (Excluded high) p between

      before : (o : Ordering) → place_cmp f p ≡ o → is_gt o ≡ false → place_cmp f high ≡ Less
      before Less e h = place_total.trans f p high e here.1
      before Equal e h = place_total.congr f p high e ∙ here.1
      before Greater e h = absurd (true≢false h)

      go : (b : Bool) → tree.contains place_cmp s p ≡ b → b ≡ false
      go false e = refl
      go true e =
          let upto : is_gt (place_cmp f p) ≡ false = subst (λ l. IfSome (slice_get l 0) (λ k. is_gt (place_cmp k p) ≡ false)) step (range.2 p (here.0, tt) e) in
          absurd (true≢false (sym (ap is_lt (before (place_cmp f p) refl upto)) ∙ far))

-- ---- the spans that lie in a range

module _ (size : ℕ) (some : 0 < size) where
  -- a multiple of the size is not below a number, and the number is not below it
  up : (n q d r : ℕ) → d * size + r ≡ n → n ≤ q * size → d + min 1 r ≤ q
  up n q d r whole h = elim (cases_lt q (d + min 1 r)) [
    | inr le ↦ le
    | inl less ↦ elim (cases_lt 0 r) [
      | inl rest ↦ let far = mul-le q size d size (omega (arith, less)) (omega arith) in absurd (omega (arith, far, whole, rest, h))
      | inr none ↦ let far = mul-le (q + 1) size d size (omega (arith, less, none)) (omega arith) in absurd (omega (arith, far, whole, some, h))
    ]
  ]

  down : (n q d r : ℕ) → d * size + r ≡ n → r < size → d + min 1 r ≤ q → n ≤ q * size
  down n q d r whole small h = elim (cases_lt 0 r) [
    | inl rest ↦ let far = mul-le (d + 1) size q size (omega (arith, rest, h)) (omega arith) in omega (arith, far, whole, small)
    | inr none ↦ let far = mul-le d size q size (omega (arith, h)) (omega arith) in omega (arith, far, whole, none)
  ]

  module _ (first end q : ℕ) where
    -- a span lies in the range, if its number is from one on and before another
    pub covered : (nat_le first (q * size) && nat_le (q * size + size) end) ≡ within (div_ceil first size) (max (div_ceil first size) (end / size) - div_ceil first size) q
    covered = go _ _ refl refl
      where
        next : (q + 1) * size ≡ q * size + size
        next = omega arith

        below : q < end / size → q * size + size ≤ end
        below h = let far = mul-le (q + 1) size (end / size) size (omega (arith, h)) (omega arith) in omega (arith, far, next, div-add-mod' end size)

        go : (a b : Bool) → (nat_le first (q * size) && nat_le (q * size + size) end) ≡ a → within (div_ceil first size) (max (div_ceil first size) (end / size) - div_ceil first size) q ≡ b → a ≡ b
        go true true ha hb = refl
        go false false ha hb = refl
        go true false ha hb =
            let both = and_parts (nat_le first (q * size)) (nat_le (q * size + size) end) ha in
            let low : div_ceil first size ≤ q = up first q (first / size) (first % size) (div-add-mod' first size) (leb-true first (q * size) both.0) in
            let fits : (q + 1) * size ≤ end = omega (arith, next, leb-true (q * size + size) end both.1) in
            let high : q + 1 ≤ end / size = le-div (q + 1) end size some fits in
            absurd (outside (div_ceil first size) (max (div_ceil first size) (end / size) - div_ceil first size) q hb low (omega (arith, low, high)))
        go false true ha hb =
            let at = inside (div_ceil first size) (max (div_ceil first size) (end / size) - div_ceil first size) q hb in
            let low : first ≤ q * size = down first q (first / size) (first % size) (div-add-mod' first size) (mod_below first size some) at.0 in
            let high : q < end / size = omega (arith, at.0, at.1) in
            sym (sym (and_from _ _ (le-leb first (q * size) low) (le-leb (q * size + size) end (below high))) ∙ ha)

-- ---- the tables of one level

same_level : (s l t w v : Bool) → (l ≡ true → t ≡ true) → (l ≡ true → w ≡ v) → (s && (l && w)) ≡ (l && ((s && t) && v))
same_level true false t w v h g = refl
same_level false false t w v h g = refl
same_level false true t w v h g = refl
same_level true true t w v h g = g refl ∙ ap (λ b. b && v) (sym (h refl))

module _ (levels space level first end size : ℕ) (low : level < levels) (range : first ≤ end) (is_size : size ≡ 512 ^ level) (some : 0 < size) where
  -- those from one place on and before another lie in the range
  pub covered_places : (p : Place) →
      is_between (record { space = space; level = level; prefix = div_ceil first size }) (record { space = space; level = level; prefix = max (div_ceil first size) (end / size) }) p
      ≡ (nat_eq p.level level && is_inside levels space first (end - first) p)
  covered_places p =
      between_places space level (div_ceil first size) (max (div_ceil first size) (end / size)) (omega arith) p
      ∙ same_level (nat_eq p.space space) (nat_eq p.level level) (nat_lt p.level levels) _ (lies_in (span_first p) (span_count p) first (end - first))
      (λ e. lt-ltb p.level levels (omega (arith, eqb-true p.level level e, low)))
      (λ e.
      let same : size ≡ 512 ^ p.level = is_size ∙ ap (λ l. 512 ^ l) (sym (eqb-true p.level level e)) in
      let up_to : end ≡ first + (end - first) = omega (arith, range) in
      sym (covered size some first end p.prefix) ∙ (λ i. nat_le first (p.prefix * same i) && nat_le (p.prefix * same i + same i) (up_to i)))

-- ---- one level after another

step : (a b e t : Bool) → (b ≡ true → a ≡ true) → (e ≡ true → a ≡ true) → (a ≡ true → b ≡ false → e ≡ true) → (not (b && t) && not (e && t)) ≡ not (a && t)
step a b e false f g h = nothing b e ∙ sym (ap not (never a))
  where
    never : (x : Bool) → (x && false) ≡ false
    never true = refl
    never false = refl

    nothing : (x y : Bool) → (not (x && false) && not (y && false)) ≡ true
    nothing true true = refl
    nothing true false = refl
    nothing false true = refl
    nothing false false = refl
step true true e true f g h = refl
step true false true true f g h = refl
step true false false true f g h = absurd (true≢false (sym (h refl refl)))
step false true e true f g h = absurd (true≢false (sym (f refl)))
step false false true true f g h = absurd (true≢false (sym (g refl)))
step false false false true f g h = refl

module _ (levels space first count : ℕ) where
  -- those of the levels below
  abbrev pub is_inside_below : ℕ → Place → Bool
  is_inside_below level p = nat_lt p.level level && is_inside levels space first count p

  pub one_level_more : (level : ℕ) (p : Place) → (not (is_inside_below level p) && not (nat_eq p.level level && is_inside levels space first count p)) ≡ not (is_inside_below (level + 1) p)
  one_level_more level p = step (nat_lt p.level (level + 1)) (nat_lt p.level level) (nat_eq p.level level) (is_inside levels space first count p)
      (λ e. lt-ltb p.level (level + 1) (below e)) (λ e. lt-ltb p.level (level + 1) (omega (arith, eqb-true p.level level e)))
      (λ e f. eq-eqb p.level level (here e f))
    where
      below : nat_lt p.level level ≡ true → p.level < level + 1
      below e = omega (arith, ltb-true p.level level e)

      here : nat_lt p.level (level + 1) ≡ true → nat_lt p.level level ≡ false → p.level ≡ level
      here e f = omega (arith, ltb-true p.level (level + 1) e, ltb-false p.level level f)

  pub no_level : (p : Place) → not (is_inside_below 0 p) ≡ true
  no_level p = ap (λ b. not (b && is_inside levels space first count p)) (le-ltb p.level 0 (omega arith))

  pub all_levels : (p : Place) → not (is_inside_below levels p) ≡ not (is_inside levels space first count p)
  all_levels p = ap not (go (nat_eq p.space space) (nat_lt p.level levels) (lies_in (span_first p) (span_count p) first count))
    where
      go : (s l v : Bool) → (l && ((s && l) && v)) ≡ ((s && l) && v)
      go true true v = refl
      go true false v = refl
      go false true v = refl
      go false false v = refl
