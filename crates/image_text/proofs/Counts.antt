-- How many page tables below the root an item wants that no item before it wants.
use Rattle.std.proofs.Common.{◌≡◌, ◌≢◌, ℕ, zero, suc, ◌+◌, ◌-◌, ◌*◌, ◌/◌, ◌^◌, ◌<◌, ◌≤◌, Bool, true, false, cond, not, ◌&&◌, ◌||◌, eqb-true, mul-le-mul_right, append_assoc, List, [], ◌∷◌, ◌++◌, length, refl, sym, ap, subst, ◌∙◌, arith, ◌⊎◌, inl, inr}
use mathlib.Core.Bool.{true≢false}
use Rattle.std.specs.Prelude.{nat_lt, nat_le, nat_eq, if◌then◌else◌}
use Rattle.std.specs.List.{list_any, flat_map, range_with_len, sum_by, filter}
use Rattle.std.specs.Ordering.{eq_by_cmp}
use Rattle.std.specs.Cmp.{Equal-is, eq_by_cmp_equiv}
use Rattle.std.specs.FinMap as fin
use Rattle.std.specs.FinSet as set
use Rattle.std.specs.FinSet.{same_set, len-empty, len-insert, contains-union, contains-difference, contains-from_list}
use Rattle.std.proofs.lemmas.Bool.{false≢true, not-true, not_from_false, false_from_ne_true, or_cases, or_left, or_right, and_parts, and_from, leb-true, ltb-true, le-leb, lt-ltb}
use Rattle.std.proofs.lemmas.List.{length-append}
use Rattle.std.proofs.lemmas.List.Elements.{filter-append}
use Rattle.std.proofs.lemmas.List.Sums.{sum_by-cons}
use Rattle.std.proofs.Math.Nat.{le-div_iff_mul-le, div-lt_iff_lt-mul}
use Rattle.table_place.specs.declared.Place.{Place}
use Rattle.table_place.specs.Range.{within}
use Rattle.table_place.specs.Place.{place_cmp, place_of, is_above, span_first, span_count}
use Rattle.table_place.proofs.Spans.{span_pos, quotient_low, quotient_high}
use Rattle.table_place.proofs.Tables.{in_range, to_range, above_parts}
use Rattle.page_map.specs.Cell.{AddressSpace}
use Rattle.page_map.specs.Alike.{is_alike, is_unlike, unlike_tables}
use Rattle.page_map.proofs.Places.{place_total, place_exact}
use Rattle.page_map.proofs.Above.{any_append, any_flat}
use Rattle.page_map.proofs.Evaluate.{added}
use Rattle.page_map.proofs.NeedOf.{some_in, some_of, wide}
use Rattle.page_map.proofs.Unlike.{unlike_is_wanted, wanted_is_unlike}
use Rattle.page_map.proofs.Wanted.{is_wanted}
use Rattle.image_text.specs.declared.image.Item.{Item}
use Rattle.image_text.specs.Items.{first_of, end_of, cells_of}
use Rattle.image_text.specs.Images.{unlike_count, IsNext, AreInOrder}
use Rattle.image_text.specs.Reading.{reach, span_of, is_cut, is_new_front, is_new_back, new_in_level}
use Rattle.image_text.proofs.Unlikes.{old, new, WhyUnlike, stays_unlike, why_unlike, front_unlike, back_unlike}

-- ---- quotients

-- the number of the span that has a page
pub span_number : (x page k : ℕ) → x * 512 ^ k ≤ page → page < x * 512 ^ k + 512 ^ k → page / 512 ^ k ≡ x
span_number x page k low high =
    let at_least : x ≤ page / 512 ^ k = (le-div_iff_mul-le (span_pos k)).1 low in
    let below : page / 512 ^ k < x + 1 = (div-lt_iff_lt-mul (span_pos k)).1 (more x (512 ^ k) page high) in
    omega (arith, at_least, below)
  where
    more : (x n page : ℕ) → page < x * n + n → page < (x + 1) * n
    more x n page h = subst (λ m. page < m) (sum x n) h
      where
        sum : (x n : ℕ) → x * n + n ≡ (x + 1) * n
        sum x n = omega arith

-- a span that begins behind that of a page is behind the page
pub later_span : (x page k : ℕ) → page / 512 ^ k * 512 ^ k < x * 512 ^ k → page < x * 512 ^ k
later_span x page k less = elim (cases_lt page (x * 512 ^ k)) [
  | inl before ↦ before
  | inr behind ↦ (let le : x ≤ page / 512 ^ k = (le-div_iff_mul-le (span_pos k)).1 behind in absurd (not_less x (page / 512 ^ k) le less))
]
  where
    cases_lt : (a b : ℕ) → (a < b) ⊎ (b ≤ a)
    cases_lt a b = go (nat_lt a b) refl
      where
        go : (t : Bool) → nat_lt a b ≡ t → (a < b) ⊎ (b ≤ a)
        go true is = inl (ltb-true a b is)
        go false is = inr (omega (arith, λ (less : a < b). false≢true (sym is ∙ lt-ltb a b less)))

    not_less : (a b : ℕ) → a ≤ b → b * 512 ^ k < a * 512 ^ k → ⊥
    not_less a b le less = let up : a * 512 ^ k ≤ b * 512 ^ k = mul-le-mul_right (512 ^ k) le in omega (arith, up, less)

-- ---- the places of the new tables

module _ (behind first end : ℕ) where
  abbrev front_at : ℕ → Place
  front_at k = place_of 0 k first

  abbrev back_at : ℕ → Place
  back_at k = place_of 0 k (end - 1)

  abbrev one_if : Bool → Place → List Place
  one_if t p = cond t (p ∷ []) []

  abbrev pub level_places : ℕ → List Place
  level_places k = one_if (is_new_front behind first end k) (front_at k) ++ one_if (is_new_back first end k) (back_at k)

  abbrev pub places_from : ℕ → ℕ → List Place
  places_from k n = flat_map level_places (range_with_len k n)

  one_length : (t : Bool) (p : Place) → length (one_if t p) ≡ (if t then 1 else 0)
  one_length true p = refl
  one_length false p = refl

  level_length : (k : ℕ) → length (level_places k) ≡ new_in_level behind first end k
  level_length k =
      length-append (one_if (is_new_front behind first end k) (front_at k)) (one_if (is_new_back first end k) (back_at k))
      ∙ (λ i. one_length (is_new_front behind first end k) (front_at k) i + one_length (is_new_back first end k) (back_at k) i)

  pub places_length : (k n : ℕ) → length (places_from k n) ≡ sum_by (new_in_level behind first end) (range_with_len k n)
  places_length k zero = refl
  places_length k (suc n) =
      length-append (level_places k) (places_from (k + 1) n)
      ∙ (λ i. level_length k i + places_length (k + 1) n i)
      ∙ sym (sum_by-cons (new_in_level behind first end) k (range_with_len (k + 1) n))

  -- which place it is
  is_place_of : (p q : Place) → eq_by_cmp place_cmp p q ≡ true → p ≡ q
  is_place_of p q h = place_exact p q ((Equal-is (place_cmp p q)).0 h)

  one_wanted : (t : Bool) (q p : Place) → is_wanted (one_if t q) p ≡ true → (t ≡ true) × (p ≡ q)
  one_wanted true q p h = (refl, is_place_of p q (only (eq_by_cmp place_cmp p q) h))
    where
      only : (b : Bool) → (b || false) ≡ true → b ≡ true
      only true h = refl
      only false h = absurd (false≢true h)
  one_wanted false q p h = absurd (false≢true h)

  -- why a place is new
  pub data IsNew (p : Place) (k : ℕ) : Type 0 where
    at_front : is_new_front behind first end k ≡ true → p ≡ front_at k → IsNew p k
    at_back : is_new_back first end k ≡ true → p ≡ back_at k → IsNew p k

  level_wanted : (k : ℕ) (p : Place) → is_wanted (level_places k) p ≡ true → IsNew p k
  level_wanted k p h = elim (or_cases (is_wanted (one_if (is_new_front behind first end k) (front_at k)) p) (is_wanted (one_if (is_new_back first end k) (back_at k)) p)
      (sym (any_append (eq_by_cmp place_cmp p) (one_if (is_new_front behind first end k) (front_at k)) (one_if (is_new_back first end k) (back_at k))) ∙ h)) [
        | inl one ↦ (let both = one_wanted (is_new_front behind first end k) (front_at k) p one in IsNew.at_front both.0 both.1)
        | inr one ↦ (let both = one_wanted (is_new_back first end k) (back_at k) p one in IsNew.at_back both.0 both.1)
      ]

  new_level : (p : Place) (k : ℕ) → IsNew p k → (p.level ≡ k) × (p.space ≡ 0)
  new_level p k (IsNew.at_front t is) = (ap (λ (q : Place). q.level) is, ap (λ (q : Place). q.space) is)
  new_level p k (IsNew.at_back t is) = (ap (λ (q : Place). q.level) is, ap (λ (q : Place). q.space) is)

  pub places_wanted : (k n : ℕ) (p : Place) → is_wanted (places_from k n) p ≡ true → (k ≤ p.level) × (p.level < k + n) × (p.space ≡ 0) × IsNew p p.level
  places_wanted k n p h =
      let found = some_of (λ j. is_wanted (level_places j) p) k n (sym (any_flat (eq_by_cmp place_cmp p) level_places (range_with_len k n)) ∙ h) in
      let why = level_wanted found.0 p found.2 in
      let at = new_level p found.0 why in
      let bounds = in_range k n found.0 found.1 in
      (omega (arith, at.0, bounds.0), omega (arith, at.0, bounds.1), at.1, subst (IsNew p) (sym at.0) why)

  itself : (p : Place) → eq_by_cmp place_cmp p p ≡ true
  itself p = (eq_by_cmp_equiv place_total).refl p

  here_wanted : (t : Bool) (q p : Place) → t ≡ true → p ≡ q → is_wanted (one_if t q) p ≡ true
  here_wanted true q p h is = or_left (eq_by_cmp place_cmp p q) false (subst (λ x. eq_by_cmp place_cmp p x ≡ true) is (itself p))
  here_wanted false q p h is = absurd (false≢true h)

  new_wanted : (k : ℕ) (p : Place) → IsNew p k → is_wanted (level_places k) p ≡ true
  new_wanted k p (IsNew.at_front t is) =
      any_append (eq_by_cmp place_cmp p) (one_if (is_new_front behind first end k) (front_at k)) (one_if (is_new_back first end k) (back_at k))
      ∙ or_left _ (is_wanted (one_if (is_new_back first end k) (back_at k)) p) (here_wanted (is_new_front behind first end k) (front_at k) p t is)
  new_wanted k p (IsNew.at_back t is) =
      any_append (eq_by_cmp place_cmp p) (one_if (is_new_front behind first end k) (front_at k)) (one_if (is_new_back first end k) (back_at k))
      ∙ or_right (is_wanted (one_if (is_new_front behind first end k) (front_at k)) p) _ (here_wanted (is_new_back first end k) (back_at k) p t is)

  pub wanted_places : (k n : ℕ) (p : Place) → k ≤ p.level → p.level < k + n → IsNew p p.level → is_wanted (places_from k n) p ≡ true
  wanted_places k n p low high why =
      any_flat (eq_by_cmp place_cmp p) level_places (range_with_len k n) ∙ some_in (λ j. is_wanted (level_places j) p) k n p.level low high (new_wanted p.level p why)

  -- the places are different
  add_one : (t : Bool) (q : Place) (rest : List Place) → is_wanted rest q ≡ false → set.len (set.from_list {R = place_cmp} (one_if t q ++ rest)) ≡ length (one_if t q) + set.len (set.from_list {R = place_cmp} rest)
  add_one false q rest none = omega arith
  add_one true q rest none =
      len-insert place_total (set.from_list rest) q
      ∙ ap (λ b. cond b (set.len (set.from_list {R = place_cmp} rest)) (set.len (set.from_list {R = place_cmp} rest) + 1)) (contains-from_list place_total rest q ∙ none)
      ∙ turned (set.len (set.from_list {R = place_cmp} rest))
    where
      turned : (n : ℕ) → n + 1 ≡ 1 + n
      turned n = omega arith

  -- a place of a level is none of those of later levels
  later_none : (k n : ℕ) (p : Place) → p.level ≡ k → is_wanted (places_from (k + 1) n) p ≡ false
  later_none k n p is = false_from_ne_true _ (λ h. let found = places_wanted (k + 1) n p h in omega (arith, found.0, is))

  back_no_front : (k : ℕ) → is_new_back first end k ≡ true → front_at k ≢ back_at k
  back_no_front k h same =
      let less = ltb-true (span_of k first) (span_of k (end - 1)) (and_parts (nat_lt (span_of k first) (span_of k (end - 1))) (is_cut k first end (span_of k (end - 1))) h).0 in
      let spans : span_of k first ≡ span_of k (end - 1) = ap span_first same in
      omega (arith, less, spans)

  front_apart : (k n : ℕ) → is_wanted (one_if (is_new_back first end k) (back_at k) ++ places_from (k + 1) n) (front_at k) ≡ false
  front_apart k n = false_from_ne_true _ (λ h. elim (or_cases (is_wanted (one_if (is_new_back first end k) (back_at k)) (front_at k)) (is_wanted (places_from (k + 1) n) (front_at k))
      (sym (any_append (eq_by_cmp place_cmp (front_at k)) (one_if (is_new_back first end k) (back_at k)) (places_from (k + 1) n)) ∙ h)) [
        | inl one ↦ (let both = one_wanted (is_new_back first end k) (back_at k) (front_at k) one in back_no_front k both.0 both.1)
        | inr later ↦ true≢false (sym later ∙ later_none k n (front_at k) refl)
      ])

  pub places_apart : (k n : ℕ) → set.len (set.from_list {R = place_cmp} (places_from k n)) ≡ length (places_from k n)
  places_apart k zero = len-empty place_cmp
  places_apart k (suc n) =
      let fronts : List Place = one_if (is_new_front behind first end k) (front_at k) in
      let backs : List Place = one_if (is_new_back first end k) (back_at k) in
      let rest : List Place = places_from (k + 1) n in
      ap (λ ps. set.len (set.from_list {R = place_cmp} ps)) (append_assoc fronts backs rest)
      ∙ add_one (is_new_front behind first end k) (front_at k) (backs ++ rest) (front_apart k n)
      ∙ ap (λ m. length fronts + m) (add_one (is_new_back first end k) (back_at k) rest (later_none k n (back_at k) refl) ∙ ap (λ m. length backs + m) (places_apart (k + 1) n))
      ∙ sym (length-append (fronts ++ backs) rest ∙ ap (λ m. m + length rest) (length-append fronts backs) ∙ grouped (length fronts) (length backs) (length rest))
    where
      grouped : (a b c : ℕ) → a + b + c ≡ a + (b + c)
      grouped a b c = omega arith

any_of : (t : ℕ → Bool) (ks : List ℕ) → list_any t ks ≡ true → (x : ℕ) × (t x ≡ true)
any_of t [] h = absurd (false≢true h)
any_of t (k ∷ ks) h = elim (or_cases (t k) (list_any t ks) h) [ inl here ↦ (k, here) | inr later ↦ any_of t ks later ]

-- ---- the tables that are wanted once an item more stands behind others

module _ (levels : ℕ) (items : List Item) (item : Item) (few : levels ≤ 5) (ordered : AreInOrder items) (next : IsNext items item) where
  abbrev before : AddressSpace
  before = old items item ordered next

  abbrev after : AddressSpace
  after = new items item ordered next

  abbrev f : ℕ
  f = first_of item

  abbrev e : ℕ
  e = end_of item

  abbrev b : ℕ
  b = reach items

  abbrev fresh : List Place
  fresh = places_from b f e 1 (levels - 1)

  -- a table of a span that is not alike, below the root
  record IsUnlike (cells : AddressSpace) (p : Place) : Type 0 where
    space : p.space ≡ 0
    low : 1 ≤ p.level
    high : p.level < levels
    unlike : is_unlike cells p ≡ true

  wanted_parts : (cells : AddressSpace) (p : Place) → is_wanted (unlike_tables levels 0 cells) p ≡ true → IsUnlike cells p
  wanted_parts cells p h =
      let both = wanted_is_unlike levels 0 cells p h in
      let at = any_of (λ page. is_above (levels - 1) 0 page 1 p) (fin.keys cells) both.0 in
      let there = above_parts (levels - 1) 0 at.0 1 p at.1 in
      record { space = there.same_space; low = there.low; high = (let h = there.high in let l = there.low in omega (arith, h, l)); unlike = both.1 }

  unlike_wanted : (cells : AddressSpace) (p : Place) → IsUnlike cells p → is_wanted (unlike_tables levels 0 cells) p ≡ true
  unlike_wanted cells p h = unlike_is_wanted levels 0 cells p few h.space h.low h.high h.unlike

  -- the span of a table of a level
  module _ (p : Place) (low : 1 ≤ p.level) where
    abbrev s : ℕ
    s = span_first p

    abbrev n : ℕ
    n = span_count p

    many : 2 ≤ n
    many = wide p.level low

    place_is : (page : ℕ) → p.space ≡ 0 → s ≤ page → page < s + n → p ≡ place_of 0 p.level page
    place_is page space from to =
        let number : p.prefix ≡ page / 512 ^ p.level = sym (span_number p.prefix page p.level from to) in
        λ i. record { space = space i; level = p.level; prefix = number i }

    cut_from : (span : ℕ) → s ≡ span → (s < f) ⊎ (e < s + n) → is_cut p.level f e span ≡ true
    cut_from span is (inl less) = or_left (nat_lt span f) (nat_lt e (span + 512 ^ p.level)) (lt-ltb span f (omega (arith, less, is)))
    cut_from span is (inr ends) = or_right (nat_lt span f) (nat_lt e (span + 512 ^ p.level)) (lt-ltb e (span + 512 ^ p.level) (omega (arith, ends, is)))

    -- why the table is wanted now
    new_or_old : p.space ≡ 0 → is_unlike after p ≡ true → (is_unlike before p ≡ true) ⊎ IsNew b f e p p.level
    new_or_old space h = go (why_unlike items item ordered next s n many (not-true _ h))
      where
        go : WhyUnlike items item ordered next s n many → (is_unlike before p ≡ true) ⊎ IsNew b f e p p.level
        go (WhyUnlike.was was) = inl (not_from_false _ was)
        go (WhyUnlike.front past from to cut) =
            let is : p ≡ place_of 0 p.level f = place_is f space from to in
            let spans : s ≡ span_of p.level f = ap span_first is in
            inr (IsNew.at_front (and_from _ _ (le-leb b (span_of p.level f) (omega (arith, past, spans))) (cut_from (span_of p.level f) spans cut)) is)
        go (WhyUnlike.back later near ends) =
            let is : p ≡ place_of 0 p.level (e - 1) = place_is (e - 1) space (omega (arith, near)) (omega (arith, ends, later)) in
            let spans : s ≡ span_of p.level (e - 1) = ap span_first is in
            inr (IsNew.at_back (and_from _ _ (lt-ltb (span_of p.level f) (span_of p.level (e - 1)) (omega (arith, quotient_low f p.level, later, spans))) (cut_from (span_of p.level (e - 1)) spans (inr ends))) is)

    cut_parts : (span : ℕ) → s ≡ span → is_cut p.level f e span ≡ true → (s < f) ⊎ (e < s + n)
    cut_parts span is h = elim (or_cases (nat_lt span f) (nat_lt e (span + 512 ^ p.level)) h) [
      | inl less ↦ inl (omega (arith, ltb-true span f less, is))
      | inr ends ↦ inr (omega (arith, ltb-true e (span + 512 ^ p.level) ends, is))
    ]

    -- a new table was not wanted, and is
    new_is : IsNew b f e p p.level → (is_alike before s n ≡ true) × (is_unlike after p ≡ true)
    new_is (IsNew.at_front t is) =
        let spans : s ≡ span_of p.level f = ap span_first is in
        let parts = and_parts (nat_le b (span_of p.level f)) (is_cut p.level f e (span_of p.level f)) t in
        front_unlike items item ordered next s n many (omega (arith, leb-true b (span_of p.level f) parts.0, spans)) (omega (arith, quotient_low f p.level, spans)) (omega (arith, quotient_high f p.level, spans))
        (cut_parts (span_of p.level f) spans parts.1)
    new_is (IsNew.at_back t is) =
        let spans : s ≡ span_of p.level (e - 1) = ap span_first is in
        let parts = and_parts (nat_lt (span_of p.level f) (span_of p.level (e - 1))) (is_cut p.level f e (span_of p.level (e - 1))) t in
        let later : f < s = subst (λ m. f < m) (sym spans) (later_span ((e - 1) / 512 ^ p.level) f p.level (ltb-true (span_of p.level f) (span_of p.level (e - 1)) parts.0)) in
        let some = next.some in
        elim (cut_parts (span_of p.level (e - 1)) spans parts.1) [
          | inl less ↦ absurd (omega (arith, less, later))
          | inr ends ↦ back_unlike items item ordered next s n many later (omega (arith, quotient_low (e - 1) p.level, spans, some)) ends
        ]

    old_stays : is_unlike before p ≡ true → is_unlike after p ≡ true
    old_stays h = not_from_false _ (false_from_ne_true _ (λ alike. true≢false (sym (stays_unlike items item ordered next s n many alike) ∙ not-true _ h)))

  -- the wanted tables are those that were, and the new ones
  more_wanted : (p : Place) → is_wanted (unlike_tables levels 0 after) p ≡ (is_wanted (unlike_tables levels 0 before) p || is_wanted fresh p)
  more_wanted p = same_truth _ _ (λ h. there (wanted_parts after p h)) (λ h. back (or_cases (is_wanted (unlike_tables levels 0 before) p) (is_wanted fresh p) h))
    where
      same_truth : (x y : Bool) → (x ≡ true → y ≡ true) → (y ≡ true → x ≡ true) → x ≡ y
      same_truth true y h g = sym (h refl)
      same_truth false true h g = g refl
      same_truth false false h g = refl

      there : IsUnlike after p → (is_wanted (unlike_tables levels 0 before) p || is_wanted fresh p) ≡ true
      there h = elim (new_or_old p h.low h.space h.unlike) [
        | inl was ↦ or_left (is_wanted (unlike_tables levels 0 before) p) (is_wanted fresh p) (unlike_wanted before p (record { space = h.space; low = h.low; high = h.high; unlike = was }))
        | inr why ↦ or_right (is_wanted (unlike_tables levels 0 before) p) (is_wanted fresh p) (wanted_places b f e 1 (levels - 1) p h.low (let high = h.high in omega (arith, high)) why)
      ]

      back : (is_wanted (unlike_tables levels 0 before) p ≡ true) ⊎ (is_wanted fresh p ≡ true) → is_wanted (unlike_tables levels 0 after) p ≡ true
      back (inl was) = let h = wanted_parts before p was in unlike_wanted after p (record { space = h.space; low = h.low; high = h.high; unlike = old_stays p h.low h.unlike })
      back (inr one) =
          let h = places_wanted b f e 1 (levels - 1) p one in
          unlike_wanted after p (record { space = h.2; low = h.0; high = omega (arith, h.1, h.0); unlike = (new_is p h.0 h.3).1 })

  -- and no new one was wanted
  new_absent : (p : Place) → is_wanted fresh p ≡ true → is_wanted (unlike_tables levels 0 before) p ≡ false
  new_absent p one = false_from_ne_true _ (λ was.
      let h = places_wanted b f e 1 (levels - 1) p one in
      true≢false (sym (new_is p h.0 h.3).0 ∙ not-true _ (wanted_parts before p was).unlike))

  pub tables_with : unlike_count levels after ≡ unlike_count levels before + sum_by (new_in_level b f e) (range_with_len 1 (levels - 1))
  tables_with =
      let was : List Place = unlike_tables levels 0 before in
      let s : set.FinSet place_cmp = set.from_list was in
      ap set.len same
      ∙ added place_total place_exact s fresh
      ∙ ap (λ m. set.len s + m) (ap set.len apart ∙ places_apart b f e 1 (levels - 1) ∙ places_length b f e 1 (levels - 1))
    where
      same : set.from_list {R = place_cmp} (unlike_tables levels 0 after) ≡ set.union (set.from_list (unlike_tables levels 0 before)) (set.from_list fresh)
      same = same_set place_total place_exact _ _ (λ p.
          contains-from_list place_total (unlike_tables levels 0 after) p ∙ more_wanted p
          ∙ sym (contains-union place_total (set.from_list (unlike_tables levels 0 before)) (set.from_list fresh) p
          ∙ (λ i. contains-from_list place_total (unlike_tables levels 0 before) p i || contains-from_list place_total fresh p i)))

      keeps : (x y : Bool) → (x ≡ true → y ≡ false) → (x && not y) ≡ x
      keeps true y h = ap not (h refl)
      keeps false y h = refl

      apart : set.difference (set.from_list fresh) (set.from_list {R = place_cmp} (unlike_tables levels 0 before)) ≡ set.from_list fresh
      apart = same_set place_total place_exact _ _ (λ p.
          contains-difference place_total (set.from_list fresh) (set.from_list (unlike_tables levels 0 before)) p
          ∙ (λ i. contains-from_list place_total fresh p i && not (contains-from_list place_total (unlike_tables levels 0 before) p i))
          ∙ keeps (is_wanted fresh p) (is_wanted (unlike_tables levels 0 before) p) (new_absent p)
          ∙ sym (contains-from_list place_total fresh p))

-- ---- what is counted with an item more

pub counted_push : (passes : Item → Bool) (items : List Item) (item : Item) → length (filter passes (items ++ item ∷ [])) ≡ length (filter passes items) + length (filter passes (item ∷ []))
counted_push passes items item = ap length (filter-append passes items (item ∷ [])) ∙ length-append (filter passes items) (filter passes (item ∷ []))

-- an item counts as one where it passes
pub counted_one : (passes : Item → Bool) (item : Item) (byte : Bool → ℕ) (t : Bool) (n : ℕ) → byte true ≡ 1 → byte false ≡ 0 → n ≡ byte t → t ≡ passes item → n ≡ length (filter passes (item ∷ []))
counted_one passes item byte t n one none is test = is ∙ ap byte test ∙ go (passes item) refl
  where
    go : (b : Bool) → passes item ≡ b → byte (passes item) ≡ length (filter passes (item ∷ []))
    go true h = ap byte h ∙ one ∙ sym (ap (λ x. length (cond x (item ∷ []) [])) h)
    go false h = ap byte h ∙ none ∙ sym (ap (λ x. length (cond x (item ∷ []) [])) h)
