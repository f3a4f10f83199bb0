-- The missing tables that ranges cut, found level by level and range by range.
use Rattle.std.proofs.Common.{◌≡◌, ℕ, ◌+◌, ◌-◌, ◌*◌, ◌/◌, ◌^◌, ◌<◌, ◌≤◌, Bool, true, false, not, List, [], ◌∷◌, ◌++◌, append-nil, refl, sym, ap, subst, ◌∙◌, ◌⊎◌, arith}
use mathlib.Core.Bool.{true≢false}
use mathlib.Core.Logic.{inl, inr}
use Rattle.std.specs.Prelude.{◌&&◌, ◌||◌, nat_eq, Result, Ok, Err, IfOk, OnOk}
use Rattle.std.specs.List.{filter, flat_map}
use Rattle.std.specs.List.Sorted.{IsStrictlySortedBy}
use Rattle.std.specs.Ordering.{eq_by_cmp, nat_cmp, is_le, ordering_then}
use Rattle.std.specs.declared.cmp.Ordering.{Ordering}
use Rattle.std.specs.declared.cmp.Ordering.TheVariants.{Less, Equal, Greater}
use Rattle.std.specs.Cmp.{Equal-is, eq_by_cmp_equiv, nat_cmp_is}
use Rattle.std.specs.FinSet as set
use Rattle.std.specs.FinSet.{same_set, contains-empty, contains-insert, contains-union, contains-difference, contains-from_list, empty_of_len}
use Rattle.std.proofs.Math.Nat.{mul-le-mul_right, add-mul, one-mul}
use Rattle.std.proofs.lemmas.Bool.{and_parts, and_from, or_left, or_right, or_cases, eq-eqb, eqb-true, le-leb, not-true, cases_lt, cases_eq, cases_order, ne_eqb}
use Rattle.std.proofs.lemmas.List.Elements.{filter-append}
use Rattle.std.proofs.lemmas.List.Concat.{flat_map-append}
use Rattle.std.proofs.lemmas.List.Kept.{IsStrictlySortedBy-filter}
use Rattle.table_place.specs.declared.Place.{Place}
use Rattle.table_place.specs.Range.{within, lies_in}
use Rattle.table_place.specs.Place.{place_cmp, place_of, above, above_in_level, cut_by, prefix_first, prefix_count, span_first, span_count}
use Rattle.table_place.proofs.Spans.{quotient_le, quotient_low, quotient_high}
use Rattle.table_place.proofs.Tables.{in_range, to_range}
use Rattle.page_map.specs.Tables.{Tables, missing}
use Rattle.page_map.proofs.Places.{place_total, place_exact}
use Rattle.page_map.proofs.Evaluate.{retain_list}
use Rattle.page_map.proofs.Above.{any_append, in_one_level}
use Rattle.page_map.proofs.Wanted.{is_wanted}
use Rattle.page_map.proofs.Unlike.{wanted_filter}
use Rattle.plain_counts.proofs.Levels.{above_more}
use Rattle.plain_counts.proofs.Sets.{len_keys}
use Rattle.plain_counts.specs.Levels.{Lists, first_of, is_of, is_between}
use Rattle.plain_counts.specs.Cut.{is_cut, cut_in_level}

-- those of them that pass a test list what stays of it
pub kept_listed : (keys : List Place) (test : Place → Bool) (t : Tables) → set.from_list keys ≡ t → IsStrictlySortedBy place_cmp keys → Lists (set.retain t test) (filter test keys)
kept_listed keys test t view ascend =
    let same : set.from_list (filter test keys) ≡ set.retain t test = retain_list place_total place_exact keys test ∙ ap (λ s. set.retain s test) view in
    record { same = same; once = sym (len_keys place_total place_exact (filter test keys) (IsStrictlySortedBy-filter place_cmp test keys ascend)) ∙ ap set.len same }

pub listed_by : (keys : List Place) (t : Tables) → set.from_list keys ≡ t → IsStrictlySortedBy place_cmp keys → Lists t keys
listed_by keys t view ascend = record { same = view; once = sym (len_keys place_total place_exact keys ascend) ∙ ap set.len view }

pub if_ok : {A E : Type 0} (P Q : A → Type 0) → ((x : A) → P x → Q x) → (r : Result A E) → IfOk r P → IfOk r Q
if_ok P Q f (Ok x) h = f x h
if_ok P Q f (Err e) h = h

pub on_ok : {A E : Type 0} (P Q : Type 0) → (P → Q) → (r : Result A E) → OnOk r P → OnOk r Q
on_ok P Q f (Ok x) h = f h
on_ok P Q f (Err e) h = h

-- the lowest place of a space is before each of it
le_zero : (n : ℕ) (o : Ordering) → is_le o ≡ true → is_le (ordering_then (nat_cmp 0 n) o) ≡ true
le_zero n o h = elim (cases_lt 0 n) [
  | inl l ↦ ap (λ r. is_le (ordering_then r o)) (sym (nat_cmp_is 0 n Less l))
  | inr m ↦ ap (λ r. is_le (ordering_then r o)) (sym (nat_cmp_is 0 n Equal (omega (arith, m)))) ∙ h
]

le_last : (n : ℕ) → is_le (nat_cmp 0 n) ≡ true
le_last n = elim (cases_lt 0 n) [
  | inl l ↦ ap is_le (sym (nat_cmp_is 0 n Less l))
  | inr m ↦ ap is_le (sym (nat_cmp_is 0 n Equal (omega (arith, m))))
]

-- between the first places of a space and of the next are those of the space
module _ (space : ℕ) (p : Place) where
  abbrev rest : Ordering
  rest = ordering_then (nat_cmp 0 p.level) (nat_cmp 0 p.prefix)

  low : is_le rest ≡ true
  low = le_zero p.level (nat_cmp 0 p.prefix) (le_last p.prefix)

  by_orders : (a b : Ordering) → nat_cmp space p.space ≡ a → nat_cmp (space + 1) p.space ≡ b → is_between (first_of space) (first_of (space + 1)) p ≡ (is_le (ordering_then a rest) && not (is_le (ordering_then b rest)))
  by_orders a b e f = λ i. is_le (ordering_then (e i) rest) && not (is_le (ordering_then (f i) rest))

  pub of_one_space : is_between (first_of space) (first_of (space + 1)) p ≡ is_of space p
  of_one_space = elim (cases_order p.space space) [
    | inl same ↦ by_orders Equal Greater (sym (nat_cmp_is space p.space Equal (sym same))) (sym (nat_cmp_is (space + 1) p.space Greater (omega (arith, same))))
        ∙ ap (λ b. b && true) low ∙ sym (eq-eqb p.space space same)
    | inr other ↦ (elim other [
      | inl less ↦ ap (λ a. is_le (ordering_then a rest) && not (is_le (ordering_then (nat_cmp (space + 1) p.space) rest))) (sym (nat_cmp_is space p.space Greater less))
          ∙ sym (ne_eqb p.space space (λ e. omega (arith, e, less)))
      | inr more ↦ (elim (cases_lt (space + 1) p.space) [
        | inl far ↦ by_orders Less Less (sym (nat_cmp_is space p.space Less more)) (sym (nat_cmp_is (space + 1) p.space Less far)) ∙ sym (ne_eqb p.space space (λ e. omega (arith, e, more)))
        | inr near ↦ by_orders Less Equal (sym (nat_cmp_is space p.space Less more)) (sym (nat_cmp_is (space + 1) p.space Equal (omega (arith, near, more))))
            ∙ ap not low ∙ sym (ne_eqb p.space space (λ e. omega (arith, e, more)))
      ])
    ])
  ]

same_test : (a b : Bool) → (a ≡ true → b ≡ true) → (b ≡ true → a ≡ true) → a ≡ b
same_test true b f g = sym (f refl)
same_test false true f g = absurd (true≢false (sym (g refl)))
same_test false false f g = refl

-- ---- what was found and more

module _ (t : Tables) where
  noted : (m : Tables) (xs : List Place) (q : Place) → set.contains (set.union m (missing xs t)) q ≡ (set.contains m q || (is_wanted xs q && not (set.contains t q)))
  noted m xs q =
      contains-union place_total m (missing xs t) q
      ∙ ap (λ b. set.contains m q || b) (contains-difference place_total (set.from_list xs) t q ∙ ap (λ b. b && not (set.contains t q)) (contains-from_list place_total xs q))

  pub noted_more : (m : Tables) (xs ys : List Place) → set.union (set.union m (missing xs t)) (missing ys t) ≡ set.union m (missing (xs ++ ys) t)
  noted_more m xs ys = same_set place_total place_exact _ _ (λ q.
      noted (set.union m (missing xs t)) ys q ∙ ap (λ b. b || (is_wanted ys q && not (set.contains t q))) (noted m xs q)
      ∙ spread (set.contains m q) (is_wanted xs q) (is_wanted ys q) (not (set.contains t q))
      ∙ sym (noted m (xs ++ ys) q ∙ ap (λ b. set.contains m q || (b && not (set.contains t q))) (any_append (eq_by_cmp place_cmp q) xs ys)))
    where
      spread : (a x y n : Bool) → ((a || (x && n)) || (y && n)) ≡ (a || ((x || y) && n))
      spread true x y n = refl
      spread false true y true = refl
      spread false true true false = refl
      spread false true false false = refl
      spread false false y n = refl

  pub noted_none : (m : Tables) → m ≡ set.union m (missing [] t)
  noted_none m = same_set place_total place_exact _ _ (λ q. as_it_was (set.contains m q) ∙ sym (noted m [] q))
    where
      as_it_was : (b : Bool) → b ≡ (b || false)
      as_it_was true = refl
      as_it_was false = refl

  -- a list of one place, of which only one that passes a test is taken
  one_at : (test : Place → Bool) (p q : Place) → (is_wanted (filter test (p ∷ [])) q && not (set.contains t q)) ≡ (eq_by_cmp place_cmp q p && (test p && not (set.contains t p)))
  one_at test p q = ap (λ b. b && not (set.contains t q)) (wanted_filter test (p ∷ []) q) ∙ go (eq_by_cmp place_cmp q p) refl
    where
      go : (b : Bool) → eq_by_cmp place_cmp q p ≡ b → (((eq_by_cmp place_cmp q p || false) && test q) && not (set.contains t q)) ≡ (eq_by_cmp place_cmp q p && (test p && not (set.contains t p)))
      go true e =
          let same : q ≡ p = place_exact q p ((Equal-is (place_cmp q p)).0 e) in
          (λ i. ((e i || false) && test (same i)) && not (set.contains t (same i))) ∙ sym (ap (λ b. b && (test p && not (set.contains t p))) e)
      go false e = (λ i. ((e i || false) && test q) && not (set.contains t q)) ∙ sym (ap (λ b. b && (test p && not (set.contains t p))) e)

  pub noted_one : (m : Tables) (test : Place → Bool) (p : Place) → (test p && not (set.contains t p)) ≡ true → set.insert m p ≡ set.union m (missing (filter test (p ∷ [])) t)
  noted_one m test p h = same_set place_total place_exact _ _ (λ q.
      contains-insert place_total m p q ∙ turn (eq_by_cmp place_cmp q p) (set.contains m q)
      ∙ sym (noted m (filter test (p ∷ [])) q ∙ ap (λ b. set.contains m q || b) (one_at test p q ∙ ap (λ b. eq_by_cmp place_cmp q p && b) h)))
    where
      turn : (e c : Bool) → (e || c) ≡ (c || (e && true))
      turn true true = refl
      turn true false = refl
      turn false true = refl
      turn false false = refl

  pub noted_not : (m : Tables) (test : Place → Bool) (p : Place) → (test p && not (set.contains t p)) ≡ false → m ≡ set.union m (missing (filter test (p ∷ [])) t)
  noted_not m test p h = same_set place_total place_exact _ _ (λ q.
      turn (eq_by_cmp place_cmp q p) (set.contains m q)
      ∙ sym (noted m (filter test (p ∷ [])) q ∙ ap (λ b. set.contains m q || b) (one_at test p q ∙ ap (λ b. eq_by_cmp place_cmp q p && b) h)))
    where
      turn : (e c : Bool) → c ≡ (c || (e && false))
      turn true true = refl
      turn true false = refl
      turn false true = refl
      turn false false = refl

-- two lists with the same places
pub same_missing : (xs ys : List Place) (t : Tables) → ((q : Place) → is_wanted xs q ≡ is_wanted ys q) → missing xs t ≡ missing ys t
same_missing xs ys t same = ap (λ s. set.difference s t) (same_set place_total place_exact (set.from_list xs) (set.from_list ys) (λ q. contains-from_list place_total xs q ∙ same q ∙ sym (contains-from_list place_total ys q)))

-- ---- one level

module _ (space level first count : ℕ) (some : 0 < count) where
  abbrev at_first : Place
  at_first = place_of space level first

  abbrev at_last : Place
  at_last = place_of space level (first + count - 1)

  ends : first / 512 ^ level ≤ (first + count - 1) / 512 ^ level
  ends = quotient_le first (first + count - 1) level (omega (arith, some))

  ended : (x y : ℕ) → x ≤ y → (within x (y + 1 - x) x ≡ true) × (within x (y + 1 - x) y ≡ true)
  ended x y h = (to_range x (y + 1 - x) x (omega arith) (omega arith), to_range x (y + 1 - x) y h (omega arith))

  level_place : (q : Place) (prefix : ℕ) → q ≡ record { space = space; level = level; prefix = prefix } → within (prefix_first level first) (prefix_count level first count) prefix ≡ true →
      is_wanted (above_in_level space first count level) q ≡ true
  level_place q prefix same inside =
      ap (is_wanted (above_in_level space first count level)) same
      ∙ in_one_level (record { space = space; level = level; prefix = prefix }) space level (prefix_first level first) (prefix_count level first count)
      ∙ and_from _ _ (eq-eqb level level refl) (and_from _ _ (eq-eqb space space refl) inside)

  is_one : (q p : Place) → eq_by_cmp place_cmp q p ≡ true → q ≡ p
  is_one q p e = place_exact q p ((Equal-is (place_cmp q p)).0 e)

  itself : (q p : Place) → q ≡ p → eq_by_cmp place_cmp q p ≡ true
  itself q p same = ap (λ x. eq_by_cmp place_cmp x p) same ∙ (eq_by_cmp_equiv place_total).refl p

  edge_in : (q : Place) → is_wanted (at_first ∷ at_last ∷ []) q ≡ true → is_wanted (above_in_level space first count level) q ≡ true
  edge_in q h = elim (or_cases (eq_by_cmp place_cmp q at_first) (eq_by_cmp place_cmp q at_last || false) h) [
    | inl a ↦ level_place q (first / 512 ^ level) (is_one q at_first a) (ended (first / 512 ^ level) ((first + count - 1) / 512 ^ level) ends).0
    | inr b ↦ level_place q ((first + count - 1) / 512 ^ level) (is_one q at_last (plain (eq_by_cmp place_cmp q at_last) b)) (ended (first / 512 ^ level) ((first + count - 1) / 512 ^ level) ends).1
  ]
    where
      plain : (b : Bool) → (b || false) ≡ true → b ≡ true
      plain true h = refl
      plain false h = absurd (true≢false (sym h))

  -- between the first and the last all lie in the range
  between : (q : Place) → q.level ≡ level → first / 512 ^ level < q.prefix → q.prefix < (first + count - 1) / 512 ^ level → lies_in (span_first q) (span_count q) first count ≡ true
  between q same low high = subst (λ l. lies_in (q.prefix * 512 ^ l) (512 ^ l) first count ≡ true) (sym same) (and_from _ _
      (le-leb first (q.prefix * 512 ^ level) (omega (arith, quotient_high first level, mul-le-mul_right (512 ^ level) (more low), add-mul (first / 512 ^ level) 1 (512 ^ level), one-mul (512 ^ level))))
      (le-leb (q.prefix * 512 ^ level + 512 ^ level) (first + count) (omega (arith, some, quotient_low (first + count - 1) level, mul-le-mul_right (512 ^ level) (more high), add-mul q.prefix 1 (512 ^ level), one-mul (512 ^ level)))))
    where
      more : {a b : ℕ} → a < b → a + 1 ≤ b
      more h = omega (arith, h)

  edge_out : (q : Place) → is_wanted (above_in_level space first count level) q ≡ true → is_cut first count q ≡ true → is_wanted (at_first ∷ at_last ∷ []) q ≡ true
  edge_out q h cut = by_first (cases_eq q.prefix (first / 512 ^ level)) (cases_eq q.prefix ((first + count - 1) / 512 ^ level))
    where
      parts : (nat_eq q.level level ≡ true) × ((nat_eq q.space space && within (prefix_first level first) (prefix_count level first count) q.prefix) ≡ true)
      parts = and_parts (nat_eq q.level level) _ (sym (in_one_level q space level (prefix_first level first) (prefix_count level first count)) ∙ h)

      rest : (nat_eq q.space space ≡ true) × (within (prefix_first level first) (prefix_count level first count) q.prefix ≡ true)
      rest = and_parts (nat_eq q.space space) _ parts.1

      inside : (first / 512 ^ level ≤ q.prefix) × (q.prefix < first / 512 ^ level + prefix_count level first count)
      inside = in_range (prefix_first level first) (prefix_count level first count) q.prefix rest.1

      is : (prefix : ℕ) → q.prefix ≡ prefix → q ≡ record { space = space; level = level; prefix = prefix }
      is prefix e = λ i. record { space = eqb-true q.space space rest.0 i; level = eqb-true q.level level parts.0 i; prefix = e i }

      strictly : (x y z : ℕ) → x ≤ y → z ≤ x → z < y + (x + 1 - y) → ⊥ ⊎ (z ≤ x)
      strictly x y z a b c = inr b

      low : (q.prefix ≡ first / 512 ^ level → ⊥) → first / 512 ^ level < q.prefix
      low ne = after (first / 512 ^ level) q.prefix inside.0 ne
        where
          after : (x z : ℕ) → x ≤ z → (z ≡ x → ⊥) → x < z
          after x z a ne = omega arith

      high : (q.prefix ≡ (first + count - 1) / 512 ^ level → ⊥) → q.prefix < (first + count - 1) / 512 ^ level
      high ne = before (first / 512 ^ level) ((first + count - 1) / 512 ^ level) q.prefix ends inside.1 ne
        where
          before : (x y z : ℕ) → x ≤ y → z < x + (y + 1 - x) → (z ≡ y → ⊥) → z < y
          before x y z a b ne = omega arith

      by_first : (q.prefix ≡ first / 512 ^ level) ⊎ (q.prefix ≡ first / 512 ^ level → ⊥) → (q.prefix ≡ (first + count - 1) / 512 ^ level) ⊎ (q.prefix ≡ (first + count - 1) / 512 ^ level → ⊥) → is_wanted (at_first ∷ at_last ∷ []) q ≡ true
      by_first (inl e) other = or_left (eq_by_cmp place_cmp q at_first) _ (itself q at_first (is (first / 512 ^ level) e))
      by_first (inr apart) (inl e) = or_right (eq_by_cmp place_cmp q at_first) _ (or_left (eq_by_cmp place_cmp q at_last) false (itself q at_last (is ((first + count - 1) / 512 ^ level) e)))
      by_first (inr apart) (inr also) = absurd (true≢false (sym (between q (eqb-true q.level level parts.0) (low apart) (high also)) ∙ not-true _ cut))

  -- the tables of one level that a range cuts are above its first and its last page
  pub edges : (t : Tables) → missing (filter (is_cut first count) (at_first ∷ at_last ∷ [])) t ≡ missing (cut_in_level space first count level) t
  edges t = same_missing (filter (is_cut first count) (at_first ∷ at_last ∷ [])) (cut_in_level space first count level) t (λ q.
      wanted_filter (is_cut first count) (at_first ∷ at_last ∷ []) q
      ∙ same_test (is_wanted (at_first ∷ at_last ∷ []) q && is_cut first count q) (is_wanted (above_in_level space first count level) q && is_cut first count q)
      (λ h. let both = and_parts (is_wanted (at_first ∷ at_last ∷ []) q) (is_cut first count q) h in and_from _ _ (edge_in q both.0) both.1)
      (λ h. let both = and_parts (is_wanted (above_in_level space first count level) q) (is_cut first count q) h in and_from _ _ (edge_out q both.0 both.1) both.1)
      ∙ sym (wanted_filter (is_cut first count) (above_in_level space first count level) q))

  pub both_noted : (t m n k : Tables) → n ≡ set.union m (missing (filter (is_cut first count) (at_first ∷ [])) t) → k ≡ set.union n (missing (filter (is_cut first count) (at_last ∷ [])) t) →
      k ≡ set.union m (missing (cut_in_level space first count level) t)
  both_noted t m n k e f =
      f ∙ ap (λ s. set.union s (missing (filter (is_cut first count) (at_last ∷ [])) t)) e
      ∙ noted_more t m (filter (is_cut first count) (at_first ∷ [])) (filter (is_cut first count) (at_last ∷ []))
      ∙ ap (λ xs. set.union m (missing xs t)) (sym (filter-append (is_cut first count) (at_first ∷ []) (at_last ∷ [])))
      ∙ ap (set.union m) (edges t)

-- ---- one level after another

module _ (space first count : ℕ) where
  abbrev pub cut_below : ℕ → List Place
  cut_below level = filter (is_cut first count) (above (level - 1) space first count)

  pub none_below : (t m : Tables) → m ≡ set.union m (missing (cut_below 1) t)
  unfolding above
  none_below t m = noted_none t m

  -- one level more
  pub cut_more : (level : ℕ) → 1 ≤ level → cut_below (level + 1) ≡ cut_below level ++ cut_in_level space first count level
  cut_more level low =
      ap (λ k. filter (is_cut first count) (above k space first count)) (sym next_level)
      ∙ ap (filter (is_cut first count)) (above_more (level - 1) space first count)
      ∙ filter-append (is_cut first count) (above (level - 1) space first count) (above_in_level space first count (1 + (level - 1)))
      ∙ ap (λ l. cut_below level ++ filter (is_cut first count) (above_in_level space first count l)) same_level
    where
      same_level : 1 + (level - 1) ≡ level
      same_level = omega (arith, low)

      next_level : level - 1 + 1 ≡ level + 1 - 1
      next_level = omega (arith, low)

  pub cut_levels : (levels : ℕ) → cut_below levels ≡ cut_by levels space first count
  unfolding cut_by
  cut_levels levels = refl

  pub level_noted : (level : ℕ) (t m n k : Tables) → 1 ≤ level → n ≡ set.union m (missing (cut_below level) t) → k ≡ set.union n (missing (cut_in_level space first count level) t) →
      k ≡ set.union m (missing (cut_below (level + 1)) t)
  level_noted level t m n k low e f =
      f ∙ ap (λ s. set.union s (missing (cut_in_level space first count level) t)) e
      ∙ noted_more t m (cut_below level) (cut_in_level space first count level)
      ∙ ap (λ xs. set.union m (missing xs t)) (sym (cut_more level low))

  pub all_noted : (levels : ℕ) (t m n : Tables) → n ≡ set.union m (missing (cut_below levels) t) → n ≡ set.union m (missing (cut_by levels space first count) t)
  all_noted levels t m n e = e ∙ ap (λ xs. set.union m (missing xs t)) (cut_levels levels)

-- ---- one range after another

module _ {A : Type 0} (cut : A → List Place) (t : Tables) where
  pub range_noted : (m n k : Tables) (done : List A) (r : A) → n ≡ set.union m (missing (flat_map cut done) t) → k ≡ set.union n (missing (cut r) t) →
      k ≡ set.union m (missing (flat_map cut (done ++ r ∷ [])) t)
  range_noted m n k done r e f =
      f ∙ ap (λ s. set.union s (missing (cut r) t)) e
      ∙ noted_more t m (flat_map cut done) (cut r)
      ∙ ap (λ xs. set.union m (missing xs t)) (sym (flat_map-append cut done (r ∷ []) ∙ ap (λ ps. flat_map cut done ++ ps) (append-nil (cut r))))

  pub first_noted : (n : Tables) (all : List A) → n ≡ set.union set.empty (missing (flat_map cut all) t) → n ≡ missing (flat_map cut all) t
  first_noted n all e = e ∙ same_set place_total place_exact _ _ (λ q.
      contains-union place_total set.empty (missing (flat_map cut all) t) q ∙ ap (λ b. b || set.contains (missing (flat_map cut all) t) q) (contains-empty place_cmp q))

-- where none is found
pub none_listed : (found all : Tables) (items : List Place) → found ≡ all → set.len found ≡ 0 → items ≡ [] → Lists all items
none_listed found all items same none empty = subst (λ s. Lists s items) same (subst (Lists found) (sym empty) (record { same = sym (empty_of_len found none); once = sym none }))
