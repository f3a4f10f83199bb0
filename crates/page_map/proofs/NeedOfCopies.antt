-- What a fork lacks: the root, and under the new number each table of the source that has a cell in its span. None of them is there.
use Rattle.std.proofs.Common.{◌≡◌, ℕ, ◌+◌, ◌-◌, ◌<◌, ◌≤◌, Bool, true, false, not, ◌&&◌, ◌||◌, List, ◌∷◌, refl, sym, ap, subst, ◌∙◌, arith, inl, inr}
use mathlib.Core.Bool.{true≢false}
use Rattle.std.specs.Prelude.{Some, None, nat_eq, map}
use Rattle.std.specs.List.{filter}
use Rattle.std.specs.Ordering.{eq_by_cmp}
use Rattle.std.specs.FinMap as fin
use Rattle.std.specs.FinSet as set
use Rattle.std.specs.FinSet.{same_set, contains-retain, contains-difference, contains-from_list}
use Rattle.std.proofs.lemmas.Bool.{and_parts, and_from, or_cases, or_left, eqb-true, eq-eqb, false_from_ne_true}
use Rattle.table_place.specs.declared.Place.{Place}
use Rattle.table_place.specs.Place.{place_cmp, root, is_above, span_first, span_count}
use Rattle.table_place.proofs.Tables.{in_range, to_range, above_parts}
use Rattle.table_place.proofs.Entries.{level_of, has_above, above_has, page_in_span, span_has_page}
use Rattle.page_map.specs.declared.cell.Cell.{Cell}
use Rattle.page_map.specs.Tables.{missing, need}
use Rattle.page_map.specs.State.{State, IsConsistent, levels, space_at, is_present}
use Rattle.page_map.specs.Spaces.{copied_tables}
use Rattle.page_map.proofs.Steps.{not_none}
use Rattle.page_map.proofs.Places.{place_total, place_exact}
use Rattle.page_map.proofs.Evaluate.{alike}
use Rattle.page_map.proofs.Wanted.{is_wanted, root_is}
use Rattle.page_map.proofs.Unlike.{wanted_filter, key_passes, one_passes, each_key}
use Rattle.page_map.proofs.Spaces.{copied_to, copy_from, copy_to, used, has_key, used_is, is_used_one}

module _ (st : State) (space : ℕ) (ok : IsConsistent st) where
  -- ---- whether a table has a cell in its span

  -- one that has is used
  pub cell_used : (p : Place) (q : ℕ) (c : Cell) → set.contains st.tables p ≡ true → p.space ≡ space → fin.get (space_at st space) q ≡ Some c → span_first p ≤ q → q < span_first p + span_count p → has_key st space p ≡ true
  cell_used p q c there here e a b =
      let at = level_of (levels st) p (ok.places p there) in
      key_passes (space_at st space) q c (λ page. is_above (levels st) space page 1 p) e
      (has_above (levels st) space q 1 p q at.0 at.1 (omega (arith, ok.few_levels)) (to_range q 1 q (omega arith) (omega arith))
      (span_has_page p space q (omega (arith, at.1, ok.few_levels)) here (to_range (span_first p) (span_count p) q a b)))

  -- and one that has none is not
  pub empty_unused : (p : Place) → set.contains st.tables p ≡ true → ((q : ℕ) → span_first p ≤ q → q < span_first p + span_count p → fin.get (space_at st space) q ≡ None) → has_key st space p ≡ false
  empty_unused p there none = false_from_ne_true _ (λ h.
      let one = one_passes (λ q. (c : Cell) × (fin.get (space_at st space) q ≡ Some c)) (λ page. is_above (levels st) space page 1 p) (fin.keys (space_at st space))
      (each_key (λ q. (c : Cell) × (fin.get (space_at st space) q ≡ Some c)) (space_at st space) (λ q c e. (c, e))) h in
      let at = level_of (levels st) p (ok.places p there) in
      let page = above_has (levels st) space one.0 1 p (omega arith) (omega (arith, ok.few_levels)) one.2 in
      let inside = in_range (span_first p) (span_count p) page.0 (page_in_span p space page.0 (omega (arith, at.1, ok.few_levels)) page.2) in
      let same = only one.0 page.0 (in_range one.0 1 page.0 page.1) in
      not_none (sym one.1.1 ∙ ap (fin.get (space_at st space)) (sym same) ∙ none page.0 inside.0 inside.1))
    where
      only : (a b : ℕ) → (a ≤ b) × (b < a + 1) → b ≡ a
      only a b h = omega (arith, h.0, h.1)

  -- ---- the copies

  module _ (new : ℕ) (items : List Place) (uses : Place → Bool) (listed : set.from_list items ≡ set.retain st.tables (λ p. nat_eq p.space space))
      (right : (p : Place) → set.contains st.tables p ≡ true → p.space ≡ space → uses p ≡ has_key st space p) where
    abbrev copies : List Place
    copies = root (levels st) new ∷ map (copied_to new) (filter uses items)

    item : (p : Place) → is_wanted items p ≡ (set.contains st.tables p && nat_eq p.space space)
    item p =
        sym (contains-from_list place_total items p) ∙ ap (λ s. set.contains s p) listed
        ∙ contains-retain st.tables (λ p. nat_eq p.space space) p (alike place_total place_exact (λ p. nat_eq p.space space) p)

    to_used : (p : Place) → is_wanted (filter uses items) p ≡ true → is_wanted (used st space) p ≡ true
    to_used p h =
        let both = and_parts (is_wanted items p) (uses p) (sym (wanted_filter uses items p) ∙ h) in
        let of_space = and_parts (set.contains st.tables p) (nat_eq p.space space) (sym (item p) ∙ both.0) in
        is_used_one st space p of_space.0 (sym (right p of_space.0 (eqb-true p.space space of_space.1)) ∙ both.1)

    from_used : (p : Place) → is_wanted (used st space) p ≡ true → is_wanted (filter uses items) p ≡ true
    from_used p h =
        let is = used_is st space p h in
        let one = one_passes (λ _. Unit {0}) (λ page. is_above (levels st) space page 1 p) (fin.keys (space_at st space)) (each_key (λ _. Unit {0}) (space_at st space) (λ _ _ _. tt)) is.1 in
        let here = (above_parts (levels st) space one.0 1 p one.2).same_space in
        wanted_filter uses items p ∙ and_from _ _ (item p ∙ and_from _ _ is.0 (eq-eqb p.space space here)) (right p is.0 here ∙ is.1)

    same_test : (a b : Bool) → (a ≡ true → b ≡ true) → (b ≡ true → a ≡ true) → a ≡ b
    same_test true b f g = sym (f refl)
    same_test false true f g = absurd (true≢false (sym (g refl)))
    same_test false false f g = refl

    carried : (xs ys : List Place) → ((p : Place) → is_wanted xs p ≡ true → is_wanted ys p ≡ true) → (q : Place) → is_wanted (map (copied_to new) xs) q ≡ true → is_wanted (map (copied_to new) ys) q ≡ true
    carried xs ys gives q h =
        let at = copy_from new xs q h in
        subst (λ x. is_wanted (map (copied_to new) ys) x ≡ true) (sym at.2) (copy_to new ys at.0 (gives at.0 at.1))

    -- the copies of the used ones among the tables of the source are those of the fork
    pub copies_are : set.from_list {R = place_cmp} copies ≡ set.from_list (copied_tables st space new)
    unfolding copied_tables
    copies_are = same_set place_total place_exact _ _ (λ q.
        contains-from_list place_total copies q
        ∙ ap (λ b. eq_by_cmp place_cmp q (root (levels st) new) || b)
        (same_test (is_wanted (map (copied_to new) (filter uses items)) q) (is_wanted (map (copied_to new) (used st space)) q)
        (carried (filter uses items) (used st space) to_used q) (carried (used st space) (filter uses items) from_used q))
        ∙ sym (contains-from_list place_total (root (levels st) new ∷ map (copied_to new) (used st space)) q))

  -- none of them is there
  module _ (new : ℕ) (absent : is_present st new ≡ false) where
    copy_space : (q : Place) → is_wanted (copied_tables st space new) q ≡ true → q.space ≡ new
    unfolding copied_tables
    copy_space q h = elim (or_cases (eq_by_cmp place_cmp q (root (levels st) new)) (is_wanted (map (copied_to new) (used st space)) q) h) [
      | inl a ↦ ap (λ (p : Place). p.space) (root_is (levels st) new q (or_left _ false a))
      | inr b ↦ ap (λ (p : Place). p.space) (copy_from new (used st space) q b).2
    ]

    pub copies_missing : missing (copied_tables st space new) st.tables ≡ set.from_list (copied_tables st space new)
    copies_missing = same_set place_total place_exact _ _ (λ q.
        contains-difference place_total (set.from_list (copied_tables st space new)) st.tables q
        ∙ by_test q (set.contains (set.from_list {R = place_cmp} (copied_tables st space new)) q) (set.contains st.tables q) refl refl)
      where
        both : (q : Place) → set.contains (set.from_list {R = place_cmp} (copied_tables st space new)) q ≡ true → set.contains st.tables q ≡ true → ⊥
        both q h g = true≢false (sym (ap (is_present st) (sym (copy_space q (sym (contains-from_list place_total (copied_tables st space new) q) ∙ h))) ∙ ok.absent q g) ∙ absent)

        by_test : (q : Place) (a b : Bool) → set.contains (set.from_list {R = place_cmp} (copied_tables st space new)) q ≡ a → set.contains st.tables q ≡ b →
            (set.contains (set.from_list {R = place_cmp} (copied_tables st space new)) q && not (set.contains st.tables q)) ≡ set.contains (set.from_list {R = place_cmp} (copied_tables st space new)) q
        by_test q true true e f = absurd (both q e f)
        by_test q true false e f = (λ i. e i && not (f i)) ∙ sym e
        by_test q false b e f = (λ i. e i && not (f i)) ∙ sym e

    pub copies_need : need (copied_tables st space new) st.tables ≡ set.len (set.from_list {R = place_cmp} (copied_tables st space new))
    copies_need = ap set.len copies_missing
