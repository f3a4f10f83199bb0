-- The missing tables that ranges cut, counted level by level.
use Rattle.std.proofs.Common.{◌≡◌, ℕ, ◌+◌, ◌-◌, ◌/◌, ◌^◌, ◌<◌, ◌≤◌, Bool, true, false, cond, not, List, [], ◌∷◌, ◌++◌, append-nil, append_assoc, refl, sym, ap, ◌∙◌, inl, inr, arith}
use mathlib.Core.Bool.{true≢false}
use Rattle.std.specs.Prelude.{◌&&◌, ◌||◌, nat_eq, nat_lt, nat_le}
use Rattle.std.specs.List.{list_any, filter}
use Rattle.std.specs.Ordering.{eq_by_cmp}
use Rattle.std.specs.Cmp.{Equal-is, eq_by_cmp_equiv}
use Rattle.std.specs.FinSet as set
use Rattle.std.specs.FinSet.{same_set, contains-difference, contains-from_list, from_list_push}
use Rattle.std.proofs.lemmas.Bool.{and_parts, and_from, eq-eqb, eqb-true, le-leb, lt-ltb, leb-true, ltb-true, false_from_ne_true, cases_lt}
use Rattle.std.proofs.lemmas.List.Concat.{flat_map-append}
use Rattle.table_place.specs.declared.Place.{Place}
use Rattle.table_place.specs.Range.{within}
use Rattle.table_place.specs.Place.{place_cmp, place_of, above, cut_by}
use Rattle.table_place.proofs.Spans.{quotient_le}
use Rattle.table_place.proofs.Tables.{to_range}
use Rattle.page_map.specs.Tables.{Tables, missing, need}
use Rattle.page_map.proofs.NeedLaws.{need_zero}
use Rattle.page_map.proofs.Places.{place_total, place_exact}
use Rattle.page_map.proofs.Evaluate.{difference_insert, choose_len}
use Rattle.page_map.proofs.Above.{any_append}
use Rattle.page_map.proofs.Wanted.{is_wanted, wanted_above}
use Rattle.page_map.proofs.Unlike.{wanted_filter}
use Rattle.plain_counts.specs.declared.cut.Pages.{Pages}
use Rattle.plain_counts.specs.Cut.{is_cut, cut_in_level, cut_by_all}
use Rattle.plain_counts.proofs.Noted.{cut_below, cut_more, cut_levels, edges}
use Rattle.held_needs.specs.Cutting.{IsEnd, last_of, meets_at, cuts_at, counted_at, counted_in}

pub need_none : (t : Tables) → need [] t ≡ 0
need_none t = need_zero [] t (λ p h. absurd (true≢false (sym (sym (contains-from_list place_total [] p) ∙ h))))

-- one wanted table more
pub need_push : (xs : List Place) (p : Place) (t : Tables) → need (xs ++ p ∷ []) t ≡ need xs t + cond (not (is_wanted xs p) && not (set.contains t p)) 1 0
need_push xs p t =
    let s = set.from_list {R = place_cmp} xs in
    ap (λ u. set.len (set.difference u t)) (from_list_push place_total place_exact xs p)
    ∙ ap set.len (difference_insert place_total place_exact s t p)
    ∙ choose_len place_total place_exact (not (set.contains t p)) (set.difference s t) p
    ∙ ap (λ b. cond (not (set.contains t p)) (cond b (need xs t) (need xs t + 1)) (need xs t)) (contains-difference place_total s t p ∙ ap (λ b. b && not (set.contains t p)) (contains-from_list place_total xs p))
    ∙ turn (is_wanted xs p) (set.contains t p) (need xs t)
  where
    turn : (w c : Bool) (n : ℕ) → cond (not c) (cond (w && not c) n (n + 1)) n ≡ n + cond (not w && not c) 1 0
    turn true true n = omega arith
    turn true false n = omega arith
    turn false true n = omega arith
    turn false false n = refl

pub need_some : (b : Bool) (xs : List Place) (p : Place) (t : Tables) → need (xs ++ cond b (p ∷ []) []) t ≡ need xs t + cond (b && (not (is_wanted xs p) && not (set.contains t p))) 1 0
need_some true xs p t = need_push xs p t
need_some false xs p t = ap (λ ys. need ys t) (append-nil xs) ∙ plain (need xs t)
  where
    plain : (n : ℕ) → n ≡ n + 0
    plain n = omega arith

-- behind a list, two that lack the same
pub missing_behind : (xs ys zs : List Place) (t : Tables) → missing ys t ≡ missing zs t → missing (xs ++ ys) t ≡ missing (xs ++ zs) t
missing_behind xs ys zs t same = same_set place_total place_exact _ _ (λ q.
    inside (xs ++ ys) q ∙ ap (λ b. b && not (set.contains t q)) (any_append (eq_by_cmp place_cmp q) xs ys)
    ∙ spread (is_wanted xs q) (is_wanted ys q) (is_wanted zs q) (not (set.contains t q)) (sym (inside ys q) ∙ ap (λ s. set.contains s q) same ∙ inside zs q)
    ∙ sym (inside (xs ++ zs) q ∙ ap (λ b. b && not (set.contains t q)) (any_append (eq_by_cmp place_cmp q) xs zs)))
  where
    inside : (ws : List Place) (q : Place) → set.contains (missing ws t) q ≡ (is_wanted ws q && not (set.contains t q))
    inside ws q = contains-difference place_total (set.from_list ws) t q ∙ ap (λ b. b && not (set.contains t q)) (contains-from_list place_total ws q)

    spread : (x y z n : Bool) → (y && n) ≡ (z && n) → ((x || y) && n) ≡ ((x || z) && n)
    spread true y z n e = refl
    spread false y z n e = e

-- a table above a page, among those that a range cuts
module _ (levels space level page : ℕ) (low : 1 ≤ level) (high : level < levels) where
  abbrev at : Place
  at = place_of space level page

  pub cut_at : (r : Pages) → is_wanted (cut_by levels space r.first r.count) at ≡ cuts_at r level page
  unfolding cut_by
  cut_at r =
      wanted_filter (is_cut r.first r.count) (above (levels - 1) space r.first r.count) at
      ∙ ap (λ b. b && is_cut r.first r.count at) (wanted_above (levels - 1) space r.first r.count at ∙ plain (nat_eq space space) (within 1 (levels - 1) level) (meets_at r level page) (eq-eqb space space refl) deep)
    where
      deep : within 1 (levels - 1) level ≡ true
      deep = and_from _ _ (le-leb 1 level low) (lt-ltb level (1 + (levels - 1)) (omega (arith, high)))

      plain : (a b c : Bool) → a ≡ true → b ≡ true → ((a && b) && c) ≡ c
      plain a b c e f = λ i. (e i && f i) && c

  pub cut_among : (done : List Pages) → is_wanted (cut_by_all levels space done) at ≡ list_any (λ d. cuts_at d level page) done
  cut_among [] = refl
  cut_among (d ∷ ds) = any_append (eq_by_cmp place_cmp at) (cut_by levels space d.first d.count) (cut_by_all levels space ds) ∙ (λ i. cut_at d i || cut_among ds i)

-- no table of a level is above lower levels
not_below : (space first count level page : ℕ) → 1 ≤ level → is_wanted (cut_below space first count level) (place_of space level page) ≡ false
not_below space first count level page low =
    wanted_filter (is_cut first count) (above (level - 1) space first count) (place_of space level page)
    ∙ ap (λ b. b && is_cut first count (place_of space level page)) (wanted_above (level - 1) space first count (place_of space level page) ∙ none (nat_eq space space) (within 1 (level - 1) level) _ (false_from_ne_true _ (λ h. clash (ltb-true level (1 + (level - 1)) (and_parts (nat_le 1 level) (nat_lt level (1 + (level - 1))) h).1))))
  where
    none : (a b c : Bool) → b ≡ false → ((a && b) && c) ≡ false
    none true b c e = ap (λ x. x && c) e
    none false b c e = refl

    clash : level < 1 + (level - 1) → ⊥
    clash h = omega (arith, h, low)

module _ (levels space : ℕ) (t : Tables) (done : List Pages) (r : Pages) (near far : ℕ) (some : 0 < r.count)
    (lo : IsEnd levels space r r.first t near) (hi : IsEnd levels space r (last_of r) t far) where
  abbrev before : List Place
  before = cut_by_all levels space done

  abbrev pub upto : ℕ → List Place
  upto level = before ++ cut_below space r.first r.count level

  -- one level more
  module _ (level : ℕ) (low : 1 ≤ level) (high : level < levels) where
    abbrev p : Place
    p = place_of space level r.first

    abbrev q : Place
    q = place_of space level (last_of r)

    abbrev a : Bool
    a = is_cut r.first r.count p

    abbrev b : Bool
    b = is_cut r.first r.count q

    ends_are : filter (is_cut r.first r.count) (p ∷ q ∷ []) ≡ cond a (p ∷ []) [] ++ cond b (q ∷ []) []
    ends_are = go a b refl refl
      where
        go : (x y : Bool) → a ≡ x → b ≡ y → filter (is_cut r.first r.count) (p ∷ q ∷ []) ≡ cond a (p ∷ []) [] ++ cond b (q ∷ []) []
        go true true e f = (λ i. cond (e i) (p ∷ cond (f i) (q ∷ []) []) (cond (f i) (q ∷ []) [])) ∙ sym (λ i. cond (e i) (p ∷ []) [] ++ cond (f i) (q ∷ []) [])
        go true false e f = (λ i. cond (e i) (p ∷ cond (f i) (q ∷ []) []) (cond (f i) (q ∷ []) [])) ∙ sym (λ i. cond (e i) (p ∷ []) [] ++ cond (f i) (q ∷ []) [])
        go false true e f = (λ i. cond (e i) (p ∷ cond (f i) (q ∷ []) []) (cond (f i) (q ∷ []) [])) ∙ sym (λ i. cond (e i) (p ∷ []) [] ++ cond (f i) (q ∷ []) [])
        go false false e f = (λ i. cond (e i) (p ∷ cond (f i) (q ∷ []) []) (cond (f i) (q ∷ []) [])) ∙ sym (λ i. cond (e i) (p ∷ []) [] ++ cond (f i) (q ∷ []) [])

    next : need (upto (level + 1)) t ≡ need ((upto level ++ cond a (p ∷ []) []) ++ cond b (q ∷ []) []) t
    next =
        ap (λ xs. need (before ++ xs) t) (cut_more space r.first r.count level low)
        ∙ ap (λ xs. need xs t) (sym (append_assoc before (cut_below space r.first r.count level) (cut_in_level space r.first r.count level)))
        ∙ ap set.len (missing_behind (upto level) (cut_in_level space r.first r.count level) (filter (is_cut r.first r.count) (p ∷ q ∷ [])) t (sym (edges space level r.first r.count some t)))
        ∙ ap (λ xs. need (upto level ++ xs) t) ends_are
        ∙ ap (λ xs. need xs t) (sym (append_assoc (upto level) (cond a (p ∷ []) []) (cond b (q ∷ []) [])))

    known : (page : ℕ) → is_wanted (upto level) (place_of space level page) ≡ list_any (λ d. cuts_at d level page) done
    known page =
        any_append (eq_by_cmp place_cmp (place_of space level page)) before (cut_below space r.first r.count level)
        ∙ (λ i. cut_among levels space level page low high done i || not_below space r.first r.count level page low i)
        ∙ or_false (list_any (λ d. cuts_at d level page) done)
      where
        or_false : (x : Bool) → (x || false) ≡ x
        or_false true = refl
        or_false false = refl

    abbrev e : Bool
    e = nat_eq (last_of r / 512 ^ level) (r.first / 512 ^ level)

    ends_le : r.first / 512 ^ level ≤ last_of r / 512 ^ level
    ends_le = quotient_le r.first (last_of r) level (omega (arith, some))

    ended : (x y : ℕ) → x ≤ y → (within x (y + 1 - x) x ≡ true) × (within x (y + 1 - x) y ≡ true)
    ended x y h = (to_range x (y + 1 - x) x (omega arith) (omega (arith, h)), to_range x (y + 1 - x) y h (omega (arith, h)))

    more : (n : ℕ) → not (nat_le n level) ≡ nat_lt level n
    more n = elim (cases_lt level n) [
      | inl l ↦ ap not (false_from_ne_true (nat_le n level) (λ h. late n l (leb-true n level h))) ∙ sym (lt-ltb level n l)
      | inr m ↦ ap not (le-leb n level m) ∙ sym (false_from_ne_true (nat_lt level n) (λ h. late n (ltb-true level n h) m))
    ]
      where
        late : (n : ℕ) → level < n → n ≤ level → ⊥
        late n h g = omega (arith, h, g)

    -- whether the one above an end counts
    counts : (page n : ℕ) → IsEnd levels space r page t n → meets_at r level page ≡ true →
        (is_cut r.first r.count (place_of space level page) && (not (is_wanted (upto level) (place_of space level page)) && not (set.contains t (place_of space level page)))) ≡ counted_at done r level page n
    counts page n end meets = go (is_cut r.first r.count (place_of space level page)) refl
      where
        turn : (w n : Bool) → (w && n) ≡ (n && ((true && true) && w))
        turn true true = refl
        turn true false = refl
        turn false true = refl
        turn false false = refl

        never : (n w : Bool) → false ≡ (n && ((true && false) && w))
        never true w = refl
        never false w = refl

        go : (x : Bool) → is_cut r.first r.count (place_of space level page) ≡ x →
            (is_cut r.first r.count (place_of space level page) && (not (is_wanted (upto level) (place_of space level page)) && not (set.contains t (place_of space level page)))) ≡ counted_at done r level page n
        go true cut =
            (λ i. cut i && (not (known page i) && not (end.each level low high (λ j. meets j && cut j) i)))
            ∙ ap (λ x. not (list_any (λ d. cuts_at d level page) done) && x) (more n)
            ∙ turn (not (list_any (λ d. cuts_at d level page) done)) (nat_lt level n)
            ∙ sym (λ i. nat_lt level n && ((meets i && cut i) && not (list_any (λ d. cuts_at d level page) done)))
        go false cut =
            ap (λ x. x && (not (is_wanted (upto level) (place_of space level page)) && not (set.contains t (place_of space level page)))) cut
            ∙ never (nat_lt level n) (not (list_any (λ d. cuts_at d level page) done))
            ∙ sym (λ i. nat_lt level n && ((meets i && cut i) && not (list_any (λ d. cuts_at d level page) done)))

    -- the one above the last page, where that is not the one above the first
    second : (b && (not (is_wanted (upto level ++ cond a (p ∷ []) []) q) && not (set.contains t q))) ≡ (not e && counted_at done r level (last_of r) far)
    second = go e refl
      where
        split : is_wanted (upto level ++ cond a (p ∷ []) []) q ≡ (is_wanted (upto level) q || is_wanted (cond a (p ∷ []) []) q)
        split = any_append (eq_by_cmp place_cmp q) (upto level) (cond a (p ∷ []) [])

        never : (x w c : Bool) → (x && (not (w || is_wanted (cond x (p ∷ []) []) p) && c)) ≡ false
        never false w c = refl
        never true true c = refl
        never true false c = ap (λ y. not (y || false) && c) ((eq_by_cmp_equiv place_total).refl p)

        lone : (x : Bool) → eq_by_cmp place_cmp q p ≡ false → is_wanted (cond x (p ∷ []) []) q ≡ false
        lone false h = refl
        lone true h = ap (λ y. y || false) h

        or_false : (x : Bool) → (x || false) ≡ x
        or_false true = refl
        or_false false = refl

        go : (x : Bool) → e ≡ x → (b && (not (is_wanted (upto level ++ cond a (p ∷ []) []) q) && not (set.contains t q))) ≡ (not e && counted_at done r level (last_of r) far)
        go true h =
            let same : q ≡ p = ap (λ n. record { space = space; level = level; prefix = n }) (eqb-true (last_of r / 512 ^ level) (r.first / 512 ^ level) h) in
            ap (λ w. b && (not w && not (set.contains t q))) split
            ∙ (λ i. is_cut r.first r.count (same i) && (not (is_wanted (upto level) (same i) || is_wanted (cond a (p ∷ []) []) (same i)) && not (set.contains t (same i))))
            ∙ never a (is_wanted (upto level) p) (not (set.contains t p))
            ∙ sym (ap (λ x. not x && counted_at done r level (last_of r) far) h)
        go false h =
            let apart : eq_by_cmp place_cmp q p ≡ false = false_from_ne_true (eq_by_cmp place_cmp q p) (λ g.
            true≢false (sym (eq-eqb (last_of r / 512 ^ level) (r.first / 512 ^ level) (ap (λ (x : Place). x.prefix) (place_exact q p ((Equal-is (place_cmp q p)).0 g)))) ∙ h)) in
            ap (λ w. b && (not w && not (set.contains t q))) (split ∙ ap (λ w. is_wanted (upto level) q || w) (lone a apart) ∙ or_false (is_wanted (upto level) q))
            ∙ counts (last_of r) far hi (ended (r.first / 512 ^ level) (last_of r / 512 ^ level) ends_le).1
            ∙ sym (ap (λ x. not x && counted_at done r level (last_of r) far) h)

    pub step : need (upto (level + 1)) t ≡ need (upto level) t + counted_in done r level near far
    step =
        next
        ∙ need_some b (upto level ++ cond a (p ∷ []) []) q t
        ∙ (λ i. need_some a (upto level) p t i + cond (second i) 1 0)
        ∙ ap (λ x. need (upto level) t + cond x 1 0 + cond (not e && counted_at done r level (last_of r) far) 1 0) (counts r.first near lo (ended (r.first / 512 ^ level) (last_of r / 512 ^ level) ends_le).0)
        ∙ sum (need (upto level) t) _ _
      where
        sum : (n x y : ℕ) → n + x + y ≡ n + (x + y)
        sum n x y = omega arith

  -- at the beginning nothing is added, and at the end the range
  pub begins : need (upto 1) t ≡ need before t + 0
  unfolding above
  begins = ap (λ xs. need xs t) (append-nil before) ∙ plain (need before t)
    where
      plain : (n : ℕ) → n ≡ n + 0
      plain n = omega arith

  pub ends : need (cut_by_all levels space (done ++ r ∷ [])) t ≡ need (upto levels) t
  ends = ap (λ xs. need xs t)
      (flat_map-append (λ (d : Pages). cut_by levels space d.first d.count) done (r ∷ [])
      ∙ ap (λ xs. before ++ xs) (append-nil (cut_by levels space r.first r.count) ∙ sym (cut_levels space r.first r.count levels)))
