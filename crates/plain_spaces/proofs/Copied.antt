-- The tables of a copy of a space.
--     short_span      the span of a table below the root is one of pages of five levels
--     noted_one, noted_not      one table more is noted, or passed over
--     noted_none, noted_more      nothing is noted yet;  one more of a list
--     all_noted      with the root they are those that page_map has of a fork
use Rattle.std.proofs.Common.{◌≡◌, ℕ, ◌+◌, ◌-◌, ◌*◌, ◌^◌, ◌<◌, ◌≤◌, Bool, true, false, cond, ◌&&◌, ◌||◌, List, [], ◌∷◌, ◌++◌, length, take, get_or, refl, sym, ap, subst, ◌∙◌, arith}
use mathlib.Core.Bool.{true≢false}
use mathlib.Core.Logic.{inl, inr}
use Rattle.std.specs.Prelude.{Option, Some, None, is_some, map, nat_eq, nat_lt}
use Rattle.std.specs.List.{All, filter}
use Rattle.std.specs.Ordering.{eq_by_cmp}
use Rattle.std.specs.Cmp.{eq_by_cmp_equiv}
use Rattle.std.specs.FinMap.{get}
use Rattle.std.specs.FinSet as set
use Rattle.std.specs.FinSet.{same_set, contains-empty, contains-insert, contains-union, contains-retain, contains-from_list}
use Rattle.std.proofs.Math.Nat.{mul-le-mul_right, add-mul, one-mul}
use Rattle.std.proofs.Math.Pow.{pow_mono, pow-add}
use Rattle.std.proofs.lemmas.Bool.{and_parts, and_from, eqb-true, ltb-true, lt-ltb, or_left, or_right, cases_lt}
use Rattle.std.proofs.lemmas.List.{take_more}
use Rattle.std.proofs.lemmas.List.Elements.{All-cons, All-nil}
use Rattle.table_place.specs.declared.Place.{Place}
use Rattle.table_place.specs.Range.{within}
use Rattle.table_place.specs.Place.{place_cmp, root, is_place, span_first, span_count}
use Rattle.table_place.proofs.Spans.{level_bits}
use Rattle.table_place.proofs.Entries.{level_of}
use Rattle.page_map.specs.declared.cell.Cell.{Cell}
use Rattle.page_map.specs.Change.{least}
use Rattle.page_map.specs.Spaces.{copied_tables}
use Rattle.page_map.specs.State.{State, AddressSpace, IsConsistent, levels, space_at}
use Rattle.page_map.specs.Tables.{Tables}
use Rattle.page_map.proofs.Above.{any_append}
use Rattle.page_map.proofs.Evaluate.{alike}
use Rattle.page_map.proofs.Least.{least_passes}
use Rattle.page_map.proofs.NeedOfCopies.{cell_used, empty_unused, copies_are}
use Rattle.page_map.proofs.Places.{place_total, place_exact}
use Rattle.page_map.proofs.Spaces.{copy_from, copy_to, has_key}
use Rattle.page_map.proofs.Unlike.{wanted_filter}
use Rattle.page_map.proofs.Wanted.{is_wanted}
use Rattle.plain_counts.specs.Levels.{is_of}
use Rattle.plain_spaces.specs.Copies.{IsAt, copy_of, is_used, used_copies}
use Rattle.plain_spaces.proofs.Nexts.{none_at_all}

-- the prefix of a table is one of its level
few_prefixes : (levels : ℕ) (p : Place) → is_place levels p ≡ true → p.prefix < 512 ^ (levels - p.level)
few_prefixes levels p h =
    let outer = and_parts (nat_lt p.space 64) (within 1 levels p.level && nat_lt p.prefix (512 ^ (levels - p.level))) h in
    ltb-true p.prefix (512 ^ (levels - p.level)) (and_parts (within 1 levels p.level) (nat_lt p.prefix (512 ^ (levels - p.level))) outer.1).1

pub short_span : (levels : ℕ) (p : Place) → levels ≤ 5 → is_place levels p ≡ true → span_first p + span_count p ≤ 2 ^ 45
short_span levels p few h =
    let at = level_of levels p h in
    let low : p.prefix + 1 ≤ 512 ^ (levels - p.level) = omega (arith, few_prefixes levels p h) in
    let scaled : (p.prefix + 1) * 512 ^ p.level ≤ 512 ^ (levels - p.level) * 512 ^ p.level = mul-le-mul_right (512 ^ p.level) low in
    let whole : 512 ^ (levels - p.level) * 512 ^ p.level ≡ 512 ^ levels = sym (pow-add 512 (levels - p.level) p.level) ∙ ap (λ k. 512 ^ k) (sum levels p.level at.1) in
    let bits : 512 ^ levels ≤ 2 ^ 45 = wide levels few in
    omega (arith, scaled, whole, bits, add-mul p.prefix 1 (512 ^ p.level), one-mul (512 ^ p.level))
  where
    sum : (a b : ℕ) → b ≤ a → a - b + b ≡ a
    sum a b h = omega (arith, h)

    wide : (levels : ℕ) → levels ≤ 5 → 512 ^ levels ≤ 2 ^ 45
    wide levels few = omega (arith, level_bits levels, pow_mono (nine levels few))
      where
        nine : (n : ℕ) → n ≤ 5 → 9 * n ≤ 45
        nine n few = omega (arith, few)

-- ---- what was noted and more

union_wanted : (s : Tables) (ps : List Place) (q : Place) → set.contains (set.union s (set.from_list ps)) q ≡ (set.contains s q || is_wanted ps q)
union_wanted s ps q = contains-union place_total s (set.from_list ps) q ∙ ap (λ b. set.contains s q || b) (contains-from_list place_total ps q)

or_false : (b : Bool) → b ≡ (b || false)
or_false true = refl
or_false false = refl

pub noted_none : (s : Tables) → s ≡ set.union s (set.from_list [])
noted_none s = same_set place_total place_exact _ _ (λ q. or_false (set.contains s q) ∙ sym (union_wanted s [] q))

module _ (levels new : ℕ) (cells : AddressSpace) where
  abbrev passes : Place → Bool
  passes p = nat_lt p.level levels && is_used cells p

  pub noted_one : (s : Tables) (p : Place) → passes p ≡ true → set.insert s (copy_of new p) ≡ set.union s (set.from_list (used_copies levels new cells (p ∷ [])))
  noted_one s p h = same_set place_total place_exact _ _ (λ q.
      contains-insert place_total s (copy_of new p) q ∙ turn (eq_by_cmp place_cmp q (copy_of new p)) (set.contains s q)
      ∙ sym (union_wanted s (used_copies levels new cells (p ∷ [])) q ∙ ap (λ b. set.contains s q || is_wanted (map (copy_of new) (cond b (p ∷ []) [])) q) h))
    where
      turn : (e c : Bool) → (e || c) ≡ (c || (e || false))
      turn true true = refl
      turn true false = refl
      turn false true = refl
      turn false false = refl

  pub noted_not : (s : Tables) (p : Place) → passes p ≡ false → s ≡ set.union s (set.from_list (used_copies levels new cells (p ∷ [])))
  noted_not s p h = noted_none s ∙ ap (λ b. set.union s (set.from_list (map (copy_of new) (cond b (p ∷ []) [])))) (sym h)

  copies_append : (xs ys : List Place) → used_copies levels new cells (xs ++ ys) ≡ used_copies levels new cells xs ++ used_copies levels new cells ys
  copies_append [] ys = refl
  copies_append (x ∷ xs) ys = go (passes x) (copies_append xs ys)
    where
      go : (b : Bool) → used_copies levels new cells (xs ++ ys) ≡ used_copies levels new cells xs ++ used_copies levels new cells ys →
          map (copy_of new) (cond b (x ∷ filter passes (xs ++ ys)) (filter passes (xs ++ ys))) ≡ map (copy_of new) (cond b (x ∷ filter passes xs) (filter passes xs)) ++ used_copies levels new cells ys
      go true h = ap (λ l. copy_of new x ∷ l) h
      go false h = h

  -- one more of a list
  pub noted_more : (s now next : Tables) (places : List Place) (i : ℕ) (d : Place) → i < length places → now ≡ set.union s (set.from_list (used_copies levels new cells (take i places))) →
      next ≡ set.union now (set.from_list (used_copies levels new cells (get_or places i d ∷ []))) → next ≡ set.union s (set.from_list (used_copies levels new cells (take (i + 1) places)))
  noted_more s now next places i d low was is =
      let front = used_copies levels new cells (take i places) in
      let one = used_copies levels new cells (get_or places i d ∷ []) in
      is ∙ ap (λ t. set.union t (set.from_list one)) was
      ∙ same_set place_total place_exact _ _ (λ q.
      union_wanted (set.union s (set.from_list front)) one q ∙ ap (λ b. b || is_wanted one q) (union_wanted s front q)
      ∙ grouped (set.contains s q) (is_wanted front q) (is_wanted one q)
      ∙ sym (union_wanted s (front ++ one) q ∙ ap (λ b. set.contains s q || b) (any_append (eq_by_cmp place_cmp q) front one)))
      ∙ ap (λ ps. set.union s (set.from_list ps)) (sym (copies_append (take i places) (get_or places i d ∷ [])) ∙ ap (used_copies levels new cells) (sym (take_more places i d low)))
    where
      grouped : (a b c : Bool) → ((a || b) || c) ≡ (a || (b || c))
      grouped true b c = refl
      grouped false b c = refl

-- ---- all of them

module _ (st : State) (ok : IsConsistent st) (space new : ℕ) (items : List Place) (listed : set.from_list items ≡ set.retain st.tables (is_of space)) where
  abbrev cells : AddressSpace
  cells = space_at st space

  item : (p : Place) → is_wanted items p ≡ (set.contains st.tables p && nat_eq p.space space)
  item p =
      sym (contains-from_list place_total items p) ∙ ap (λ s. set.contains s p) listed
      ∙ contains-retain st.tables (is_of space) p (alike place_total place_exact (is_of space) p)

  -- a table has a key in its span where a cell is found there
  used_is : (p : Place) → set.contains st.tables p ≡ true → p.space ≡ space → is_used cells p ≡ has_key st space p
  used_is p there here = go (least (span_first p) (span_count p) (λ page. is_some (get cells page))) refl
    where
      some : (q : ℕ) → is_some (get cells q) ≡ true → span_first p ≤ q → q < span_first p + span_count p → has_key st space p ≡ true
      some q h a b = by (get cells q) refl h
        where
          by : (o : Option Cell) → get cells q ≡ o → is_some o ≡ true → has_key st space p ≡ true
          by None e h = absurd (true≢false (sym h))
          by (Some c) e h = cell_used st space ok p q c there here e a b

      go : (o : Option ℕ) → least (span_first p) (span_count p) (λ page. is_some (get cells page)) ≡ o → is_some o ≡ has_key st space p
      go None e = sym (empty_unused st space ok p there (none_at_all cells (span_first p) (span_count p) e))
      go (Some q) e = let at = least_passes (span_first p) (span_count p) (λ page. is_some (get cells page)) q e in sym (some q at.2 at.0 at.1)

  -- a table of the root's level is the root
  root_copy : (p : Place) → set.contains st.tables p ≡ true → levels st ≤ p.level → copy_of new p ≡ root (levels st) new
  root_copy p there high =
      let is = ok.places p there in
      let level : p.level ≡ levels st = omega (arith, high, (level_of (levels st) p is).1) in
      let none : levels st - p.level ≡ 0 = omega (arith, level) in
      let one : 512 ^ (levels st - p.level) ≡ 1 = ap (λ k. 512 ^ k) none in
      let prefix : p.prefix ≡ 0 = omega (arith, few_prefixes (levels st) p is, one) in
      λ i. record { space = new; level = level i; prefix = prefix i }

  abbrev mine : List Place
  mine = used_copies (levels st) new cells items

  abbrev theirs : List Place
  theirs = map (copy_of new) (filter (has_key st space) items)

  to_theirs : (q : Place) → is_wanted mine q ≡ true → is_wanted theirs q ≡ true
  to_theirs q h =
      let at = copy_from new (filter (passes (levels st) new cells) items) q h in
      let both = and_parts (is_wanted items at.0) (passes (levels st) new cells at.0) (sym (wanted_filter (passes (levels st) new cells) items at.0) ∙ at.1) in
      let of_space = and_parts (set.contains st.tables at.0) (nat_eq at.0.space space) (sym (item at.0) ∙ both.0) in
      let used = (and_parts (nat_lt at.0.level (levels st)) (is_used cells at.0) both.1).1 in
      subst (λ x. is_wanted theirs x ≡ true) (sym at.2) (copy_to new (filter (has_key st space) items) at.0
      (wanted_filter (has_key st space) items at.0 ∙ and_from _ _ both.0 (sym (used_is at.0 of_space.0 (eqb-true at.0.space space of_space.1)) ∙ used)))

  from_theirs : (q : Place) → eq_by_cmp place_cmp q (root (levels st) new) ≡ false → is_wanted theirs q ≡ true → is_wanted mine q ≡ true
  from_theirs q other h =
      let at = copy_from new (filter (has_key st space) items) q h in
      let both = and_parts (is_wanted items at.0) (has_key st space at.0) (sym (wanted_filter (has_key st space) items at.0) ∙ at.1) in
      let of_space = and_parts (set.contains st.tables at.0) (nat_eq at.0.space space) (sym (item at.0) ∙ both.0) in
      elim (cases_lt at.0.level (levels st)) [
        | inl below ↦
            subst (λ x. is_wanted mine x ≡ true) (sym at.2) (copy_to new (filter (passes (levels st) new cells) items) at.0
            (wanted_filter (passes (levels st) new cells) items at.0 ∙ and_from _ _ both.0
            (and_from _ _ (lt-ltb at.0.level (levels st) below) (used_is at.0 of_space.0 (eqb-true at.0.space space of_space.1) ∙ both.1))))
        | inr high ↦
            absurd (true≢false (sym (ap (λ x. eq_by_cmp place_cmp x (root (levels st) new)) (at.2 ∙ root_copy at.0 of_space.0 high) ∙ itself (root (levels st) new)) ∙ other))
      ]
    where
      itself : (p : Place) → eq_by_cmp place_cmp p p ≡ true
      itself p = (eq_by_cmp_equiv place_total).refl p

  -- with the root they are those that page_map has of a fork
  pub all_noted : set.union {R = place_cmp} (set.insert set.empty (root (levels st) new)) (set.from_list mine) ≡ set.from_list (copied_tables st space new)
  all_noted = same_set place_total place_exact _ _ (λ q.
      union_wanted (set.insert set.empty (root (levels st) new)) mine q
      ∙ ap (λ b. b || is_wanted mine q) (contains-insert place_total set.empty (root (levels st) new) q ∙ ap (λ b. eq_by_cmp place_cmp q (root (levels st) new) || b) (contains-empty place_cmp q))
      ∙ by_root q (eq_by_cmp place_cmp q (root (levels st) new)) refl
      ∙ sym (contains-from_list place_total (root (levels st) new ∷ theirs) q))
      ∙ copies_are st space ok new items (has_key st space) listed (λ p there here. refl)
    where
      by_root : (q : Place) (b : Bool) → eq_by_cmp place_cmp q (root (levels st) new) ≡ b →
          ((eq_by_cmp place_cmp q (root (levels st) new) || false) || is_wanted mine q) ≡ (eq_by_cmp place_cmp q (root (levels st) new) || is_wanted theirs q)
      by_root q true e = (λ i. (e i || false) || is_wanted mine q) ∙ sym (ap (λ b. b || is_wanted theirs q) e)
      by_root q false e =
          (λ i. (e i || false) || is_wanted mine q) ∙ same_test (is_wanted mine q) (is_wanted theirs q) (to_theirs q) (from_theirs q e)
          ∙ sym (ap (λ b. b || is_wanted theirs q) e)
        where
          same_test : (a b : Bool) → (a ≡ true → b ≡ true) → (b ≡ true → a ≡ true) → a ≡ b
          same_test true b f g = sym (f refl)
          same_test false true f g = absurd (true≢false (sym (g refl)))
          same_test false false f g = refl

-- ---- the tables that are listed

each_wanted : (P : Place → Type 0) (ps : List Place) → ((p : Place) → is_wanted ps p ≡ true → P p) → All P ps
each_wanted P [] f = All-nil P
each_wanted P (p ∷ ps) f = All-cons P p ps (f p (or_left _ (is_wanted ps p) ((eq_by_cmp_equiv place_total).refl p))) (each_wanted P ps (λ q h. f q (or_right (eq_by_cmp place_cmp q p) _ h)))

pub listed_places : (levels space : ℕ) (tables : Tables) (items : List Place) → set.from_list items ≡ set.retain tables (is_of space) → ((p : Place) → set.contains tables p ≡ true → is_place levels p ≡ true) →
    All (λ p. is_place levels p ≡ true) items
listed_places levels space tables items listed places = each_wanted (λ p. is_place levels p ≡ true) items (λ p h.
    let here = sym (ap (λ s. set.contains s p) listed ∙ contains-retain tables (is_of space) p (alike place_total place_exact (is_of space) p)) ∙ contains-from_list place_total items p ∙ h in
    places p (and_parts (set.contains tables p) (is_of space p) here).0)

-- a state with these cells and tables
pub noted_at : (st : State) → IsConsistent st → (levels_now space new : ℕ) (cells : AddressSpace) (tables : Tables) → IsAt st levels_now space cells tables → (items : List Place) →
    set.from_list items ≡ set.retain tables (is_of space) →
    set.union {R = place_cmp} (set.insert set.empty (root levels_now new)) (set.from_list (used_copies levels_now new cells items)) ≡ set.from_list (copied_tables st space new)
noted_at st ok levels_now space new found tables at items listed =
    (λ i. set.union {R = place_cmp} (set.insert set.empty (root (sym at.same_levels i) new)) (set.from_list (used_copies (sym at.same_levels i) new (sym at.same_cells i) items)))
    ∙ all_noted st ok space new items (listed ∙ ap (λ t. set.retain t (is_of space)) (sym at.same_tables))
