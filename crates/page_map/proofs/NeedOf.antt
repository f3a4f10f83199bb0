-- What a call lacks, in the words of ranges that cut tables. A table below the root is missing only where its span is alike,
-- so of the tables that a change of ranges lacks each has a page that changes, and a page beside it that does not go on from it.
use Rattle.std.proofs.Common.{◌≡◌, ℕ, zero, suc, ◌+◌, ◌-◌, ◌^◌, ◌<◌, ◌≤◌, Bool, true, false, cond, not, ◌&&◌, ◌⊎◌, inl, inr, List, [], refl, sym, ap, ◌∙◌, arith}
use mathlib.Core.Bool.{true≢false}
use Rattle.std.specs.Prelude.{Option, Some, None, nat_le}
use Rattle.std.specs.Option.{option_map}
use Rattle.std.specs.List.{list_any, flat_map, range_with_len}
use Rattle.std.specs.Ordering.{eq_by_cmp}
use Rattle.std.specs.FinMap as fin
use Rattle.std.specs.FinSet as set
use Rattle.std.specs.FinSet.{same_set, contains-difference, contains-from_list}
use Rattle.std.proofs.lemmas.Bool.{and_parts, and_from, or_cases, or_left, or_right, leb-true, le-leb, not-true, not_from_false, false_from_ne_true, cases_lt, cases_eq}
use Rattle.corten_base.specs.declared.calls.TxnOp.{TxnOp}
use Rattle.table_place.specs.declared.Place.{Place}
use Rattle.table_place.specs.Range.{within, lies_in}
use Rattle.table_place.specs.Place.{place_cmp, above, cut_by, span_first, span_count}
use Rattle.table_place.proofs.Spans.{span_pos, span_up}
use Rattle.table_place.proofs.Tables.{in_range, to_range, above_parts}
use Rattle.table_place.proofs.Entries.{above_has, page_in_span}
use Rattle.page_map.specs.declared.cell.Cell.{Cell}
use Rattle.page_map.specs.declared.cell.Cell.TheVariants.{Anon, File, Mapped, Swapped}
use Rattle.page_map.specs.Cell.{AddressSpace}
use Rattle.page_map.specs.Alike.{continues, is_alike, is_unlike, unlike_tables}
use Rattle.page_map.specs.Cutting.{Changes}
use Rattle.page_map.specs.Takes.{Grant}
use Rattle.page_map.specs.Access.{Access, first_page, page_count, touched, after_access}
use Rattle.page_map.specs.Tables.{missing}
use Rattle.page_map.specs.Mapping.{op_first, op_pages, after_op}
use Rattle.page_map.specs.State.{State, IsConsistent, levels, space_at}
use Rattle.page_map.proofs.Range.{get-change}
use Rattle.page_map.proofs.Steps.{not_none}
use Rattle.page_map.proofs.Places.{place_total, place_exact}
use Rattle.page_map.proofs.Above.{any_flat}
use Rattle.page_map.proofs.Wanted.{is_wanted, wanted_above}
use Rattle.page_map.proofs.Unlike.{wanted_filter, cut_is_wanted, unlike_is_wanted}
use Rattle.page_map.proofs.Alike.{has_no_number, onward, continues_is, alike_at, alike_unnumbered, part_alike, same_alike, gap_unlike, number_unlike}
use Rattle.page_map.proofs.TableLaws.{unlike_listed}
use Rattle.page_map.proofs.Mappings.{inside_alike, leaves_out}

-- ---- tables that are cut

-- what is said of a table that a range cuts: a page of the range in its span, and that the span doesn't lie in the range
pub record IsCut (levels space first count : ℕ) (p : Place) : Type 0 where
  pub same_space : p.space ≡ space
  pub low : 1 ≤ p.level
  pub high : p.level < levels
  pub page : ℕ
  pub within_range : within first count page ≡ true
  pub from : span_first p ≤ page
  pub to : page < span_first p + span_count p
  pub outside : (span_first p < first) ⊎ (first + count < span_first p + span_count p)

pub reaches_out : (a b first count : ℕ) → lies_in a b first count ≡ false → (a < first) ⊎ (first + count < a + b)
reaches_out a b first count h = by_order (cases_lt a first) (cases_lt (first + count) (a + b))
  where
    by_order : (a < first) ⊎ (first ≤ a) → (first + count < a + b) ⊎ (a + b ≤ first + count) → (a < first) ⊎ (first + count < a + b)
    by_order (inl l) other = inl l
    by_order (inr m) (inl l) = inr l
    by_order (inr m) (inr k) = absurd (true≢false (sym (and_from _ _ (le-leb first a m) (le-leb (a + b) (first + count) k)) ∙ h))

lies_not : (a b first count : ℕ) → (a < first) ⊎ (first + count < a + b) → lies_in a b first count ≡ false
lies_not a b first count h = false_from_ne_true _ (λ l. let both = and_parts (nat_le first a) (nat_le (a + b) (first + count)) l in clash h (leb-true first a both.0) (leb-true (a + b) (first + count) both.1))
  where
    clash : (a < first) ⊎ (first + count < a + b) → first ≤ a → a + b ≤ first + count → ⊥
    clash (inl l) m n = omega (arith, l, m)
    clash (inr l) m n = omega (arith, l, n)

pub cut_parts : (levels space first count : ℕ) (p : Place) → levels ≤ 5 → 1 ≤ count → is_wanted (cut_by levels space first count) p ≡ true → IsCut levels space first count p
unfolding cut_by
cut_parts levels space first count p few some h =
    let both = and_parts (is_wanted (above (levels - 1) space first count) p) (not (lies_in (span_first p) (span_count p) first count))
    (sym (wanted_filter (λ p. not (lies_in (span_first p) (span_count p) first count)) (above (levels - 1) space first count) p) ∙ h) in
    let up = sym (wanted_above (levels - 1) space first count p) ∙ both.0 in
    let at = above_parts (levels - 1) space first count p up in
    let one = above_has (levels - 1) space first count p some (omega (arith, few)) up in
    let there = in_range (span_first p) (span_count p) one.0 (page_in_span p space one.0 (omega (arith, at.high, few)) one.2) in
    record {
      same_space = at.same_space;
      low = at.low;
      high = below at.low at.high;
      page = one.0;
      within_range = one.1;
      from = there.0;
      to = there.1;
      outside = reaches_out (span_first p) (span_count p) first count (false_from_ne_true _ (λ l. true≢false (sym l ∙ not-true _ both.1)));
    }
  where
    below : {k n : ℕ} → 1 ≤ k → k ≤ n - 1 → k < n
    below a b = omega arith

pub cut_from : (levels space first count : ℕ) (p : Place) → levels ≤ 5 → IsCut levels space first count p → is_wanted (cut_by levels space first count) p ≡ true
cut_from levels space first count p few h =
    cut_is_wanted levels space first count p h.page few h.same_space h.low h.high h.within_range h.from h.to (lies_not (span_first p) (span_count p) first count h.outside)

-- ---- cells that are alike before and after

-- from two cells that go on to one, as many pages further, both being without a number
onward_same : (a b : Option Cell) (i : ℕ) → has_no_number a ≡ true → has_no_number b ≡ true → onward i a ≡ onward i b → a ≡ b
onward_same None None i h g e = refl
onward_same None (Some c) i h g e = absurd (not_none (sym e))
onward_same (Some c) None i h g e = absurd (not_none e)
onward_same (Some (Anon p)) (Some (Anon q)) i h g e = e
onward_same (Some (Anon p)) (Some (File q f n)) i h g e = cc
onward_same (Some (Anon p)) (Some (Mapped q o f b)) i h g e = absurd (true≢false (sym g))
onward_same (Some (Anon p)) (Some (Swapped q o f b)) i h g e = absurd (true≢false (sym g))
onward_same (Some (File p f n)) (Some (Anon q)) i h g e = cc
onward_same (Some (File p f n)) (Some (File q k m)) i h g e =
    let perms : p ≡ q = cc in
    let files : f ≡ k = cc in
    let sums : n + i ≡ m + i = cc in
    let indexes : n ≡ m = omega (arith, sums) in
    λ j. Some (File (perms j) (files j) (indexes j))
onward_same (Some (File p f n)) (Some (Mapped q o l b)) i h g e = absurd (true≢false (sym g))
onward_same (Some (File p f n)) (Some (Swapped q o l b)) i h g e = absurd (true≢false (sym g))
onward_same (Some (Mapped p o f b)) c i h g e = absurd (true≢false (sym h))
onward_same (Some (Swapped p o f b)) c i h g e = absurd (true≢false (sym h))

module _ (old new : AddressSpace) (low n : ℕ) (was : is_alike old low n ≡ true) (is : is_alike new low n ≡ true) where
  -- a span that is alike before and after changes at each page or at none
  pub all_or_none : (q r : ℕ) → low ≤ q → q < low + n → low ≤ r → r < low + n → fin.get new q ≡ fin.get old q → fin.get new r ≡ fin.get old r
  all_or_none q r a b a' b' same =
      let first_page : low < low + n = omega (arith, a, b) in
      let starts = onward_same (fin.get new low) (fin.get old low) (q - low)
      (alike_unnumbered new low n is low (omega arith) first_page) (alike_unnumbered old low n was low (omega arith) first_page)
      (sym (continues_is (fin.get new low) (q - low) (fin.get new q) (alike_at new low n is q a b)) ∙ same ∙ continues_is (fin.get old low) (q - low) (fin.get old q) (alike_at old low n was q a b)) in
      continues_is (fin.get new low) (r - low) (fin.get new r) (alike_at new low n is r a' b')
      ∙ ap (onward (r - low)) starts
      ∙ sym (continues_is (fin.get old low) (r - low) (fin.get old r) (alike_at old low n was r a' b'))

module _ (cells : AddressSpace) (low n : ℕ) (is : is_alike cells low n ≡ true) where
  -- of a span that is alike the next page goes on from each
  pub alike_next : (q : ℕ) → low ≤ q → q + 1 < low + n → continues (fin.get cells q) 1 (fin.get cells (q + 1)) ≡ true
  alike_next q a b = ap (λ i. continues (fin.get cells q) i (fin.get cells (q + 1))) (one q) ∙ alike_at cells q 2 (part_alike cells low n q 2 (λ x c d. (omega (arith, a, c), omega (arith, b, d))) is) (q + 1) (omega arith) (omega arith)
    where
      one : (q : ℕ) → 1 ≡ q + 1 - q
      one q = omega arith

  -- it has cells everywhere or nowhere
  pub none_everywhere : (q r : ℕ) → low ≤ q → q < low + n → low ≤ r → r < low + n → fin.get cells q ≡ None → fin.get cells r ≡ None
  none_everywhere q r a b a' b' none = go (fin.get cells r) refl
    where
      go : (o : Option Cell) → fin.get cells r ≡ o → fin.get cells r ≡ None
      go None e = e
      go (Some c) e = absurd (true≢false (sym is ∙ not-true _ (gap_unlike cells low n r q c a' b' a b e none)))

-- ---- the missing ones of two lists

module _ (st : State) (space : ℕ) (ok : IsConsistent st) where
  -- a table that is missing below the root had a span that was alike
  pub missing_alike : (p : Place) → p.space ≡ space → 1 ≤ p.level → p.level < levels st → set.contains st.tables p ≡ false → is_alike (space_at st space) (span_first p) (span_count p) ≡ true
  missing_alike p here low high gone = go (is_alike (space_at st space) (span_first p) (span_count p)) refl
    where
      go : (b : Bool) → is_alike (space_at st space) (span_first p) (span_count p) ≡ b → is_alike (space_at st space) (span_first p) (span_count p) ≡ true
      go true e = e
      go false e = absurd (true≢false (sym (ok.unlike p low high (ap (λ s. is_unlike (space_at st s) p) here ∙ not_from_false _ e)) ∙ gone))

  module _ (new : AddressSpace) (wanted : List Place) where
    -- what is known of a missing table that is below the root
    pub record IsMissing (p : Place) : Type 0 where
      pub same_space : p.space ≡ space
      pub low : 1 ≤ p.level
      pub high : p.level < levels st
      pub alike : is_alike (space_at st space) (span_first p) (span_count p) ≡ true

    pub missing_is : (p : Place) → p.space ≡ space → 1 ≤ p.level → p.level < levels st → set.contains st.tables p ≡ false → IsMissing p
    missing_is p here low high gone = record { same_space = here; low = low; high = high; alike = missing_alike p here low high gone }

    -- where the missing ones of a list are those that are not alike afterwards, both lists lack the same
    pub same_lack : ((p : Place) → IsMissing p → is_unlike new p ≡ true → is_wanted wanted p ≡ true) →
        ((p : Place) → set.contains st.tables p ≡ false → is_wanted wanted p ≡ true → IsMissing p × (is_unlike new p ≡ true)) →
        missing (unlike_tables (levels st) space new) st.tables ≡ missing wanted st.tables
    same_lack to from = same_set place_total place_exact _ _ (λ p.
        contains-difference place_total (set.from_list (unlike_tables (levels st) space new)) st.tables p
        ∙ (λ i. contains-from_list place_total (unlike_tables (levels st) space new) p i && not (set.contains st.tables p))
        ∙ by_test p (set.contains st.tables p) refl
        ∙ sym (contains-difference place_total (set.from_list wanted) st.tables p ∙ ap (λ b. b && not (set.contains st.tables p)) (contains-from_list place_total wanted p)))
      where
        both_ways : (a b : Bool) → (a ≡ true → b ≡ true) → (b ≡ true → a ≡ true) → a ≡ b
        both_ways true b f g = sym (f refl)
        both_ways false true f g = absurd (true≢false (sym (g refl)))
        both_ways false false f g = refl

        never : (a b : Bool) → (a && false) ≡ (b && false)
        never true true = refl
        never true false = refl
        never false true = refl
        never false false = refl

        by_test : (p : Place) (b : Bool) → set.contains st.tables p ≡ b →
            (is_wanted (unlike_tables (levels st) space new) p && not (set.contains st.tables p)) ≡ (is_wanted wanted p && not (set.contains st.tables p))
        by_test p true e =
            ap (λ b. is_wanted (unlike_tables (levels st) space new) p && not b) e
            ∙ never (is_wanted (unlike_tables (levels st) space new) p) (is_wanted wanted p)
            ∙ sym (ap (λ b. is_wanted wanted p && not b) e)
        by_test p false gone = ap (λ b. b && not (set.contains st.tables p)) (both_ways (is_wanted (unlike_tables (levels st) space new) p) (is_wanted wanted p)
            (λ h. let is = unlike_listed (levels st) space new p (contains-from_list place_total (unlike_tables (levels st) space new) p ∙ h) in to p (missing_is p is.0 is.1 is.2 gone) is.3)
            (λ h. let is = from p gone h in unlike_is_wanted (levels st) space new p ok.few_levels is.0.same_space is.0.low is.0.high is.1))

-- ---- a change of one range

module _ (st : State) (space : ℕ) (ok : IsConsistent st) (new : AddressSpace) where
  abbrev old : AddressSpace
  old = space_at st space

  -- where no page changes, none is lacked
  pub unchanged_lack : ((q : ℕ) → fin.get new q ≡ fin.get old q) → missing (unlike_tables (levels st) space new) st.tables ≡ missing [] st.tables
  unchanged_lack same = same_lack st space ok new []
      (λ p is h. absurd (true≢false (sym (same_alike old new (span_first p) (span_count p) (λ q _ _. same q) is.alike) ∙ not-true _ h)))
      (λ p gone h. absurd (true≢false (sym h)))

  module _ (first count : ℕ) (change : Changes old new first count) where
    -- a page before the range, and one behind it
    before : (q : ℕ) → q < first → within first count q ≡ false
    before q h = false_from_ne_true _ (λ w. clash (in_range first count q w).0)
      where
        clash : first ≤ q → ⊥
        clash a = omega arith

    behind : (q : ℕ) → first + count ≤ q → within first count q ≡ false
    behind q h = false_from_ne_true _ (λ w. clash (in_range first count q w).1)
      where
        clash : q < first + count → ⊥
        clash a = omega arith

    to_cut : (p : Place) → IsMissing st space ok new (cut_by (levels st) space first count) p → is_unlike new p ≡ true → is_wanted (cut_by (levels st) space first count) p ≡ true
    to_cut p is h = by_place (lies_in (span_first p) (span_count p) first count) refl
      where
        stays : is_alike new (span_first p) (span_count p) ≡ true → is_wanted (cut_by (levels st) space first count) p ≡ true
        stays alike = absurd (true≢false (sym alike ∙ not-true _ h))

        apart : ((q : ℕ) → span_first p ≤ q → q < span_first p + span_count p → within first count q ≡ false) → is_wanted (cut_by (levels st) space first count) p ≡ true
        apart none = stays (same_alike old new (span_first p) (span_count p) (λ q a b. change.out q (none q a b)) is.alike)

        meets : (q : ℕ) → first ≤ q → q < first + count → span_first p ≤ q → q < span_first p + span_count p → lies_in (span_first p) (span_count p) first count ≡ false → is_wanted (cut_by (levels st) space first count) p ≡ true
        meets q a b a' b' out = cut_is_wanted (levels st) space first count p q ok.few_levels is.same_space is.low is.high (to_range first count q a b) a' b' out

        ahead : lies_in (span_first p) (span_count p) first count ≡ false → span_first p < first → (first < span_first p + span_count p) ⊎ (span_first p + span_count p ≤ first) → is_wanted (cut_by (levels st) space first count) p ≡ true
        ahead out less (inl near) = meets first (omega arith) (omega (arith, change.some)) (omega (arith, less)) near out
        ahead out less (inr far) = apart (λ q a b. before q (omega (arith, b, far)))

        after : lies_in (span_first p) (span_count p) first count ≡ false → first ≤ span_first p → (span_first p < first + count) ⊎ (first + count ≤ span_first p) → is_wanted (cut_by (levels st) space first count) p ≡ true
        after out less (inl near) = meets (span_first p) less near (omega arith) (omega (arith, span_pos p.level)) out
        after out less (inr far) = apart (λ q a b. behind q (omega (arith, a, far)))

        by_place : (b : Bool) → lies_in (span_first p) (span_count p) first count ≡ b → is_wanted (cut_by (levels st) space first count) p ≡ true
        by_place true inside = stays (change.alike (span_first p) (span_count p) inside is.alike)
        by_place false out = elim (cases_lt (span_first p) first) [
          | inl less ↦ ahead out less (cases_lt first (span_first p + span_count p))
          | inr more ↦ after out more (cases_lt (span_first p) (first + count))
        ]

    from_cut : (p : Place) → IsCut (levels st) space first count p → is_alike old (span_first p) (span_count p) ≡ true → is_alike new (span_first p) (span_count p) ≡ true → ⊥
    from_cut p cut was is = by_side cut.outside
      where
        at : (first ≤ cut.page) × (cut.page < first + count)
        at = in_range first count cut.page cut.within_range

        by_side : (span_first p < first) ⊎ (first + count < span_first p + span_count p) → ⊥
        by_side (inl left) = change.starts (all_or_none old new (span_first p) (span_count p) was is (first - 1) first
            (omega (arith, left)) (omega (arith, at.0, cut.to)) (omega (arith, left)) (omega (arith, at.0, cut.to)) (change.out (first - 1) (before (first - 1) (omega (arith, left)))))
        by_side (inr right) = change.stops (all_or_none old new (span_first p) (span_count p) was is (first + count) (first + count - 1)
            (omega (arith, cut.from, at.1)) right (last cut.from at.1) (omega (arith, right)) (change.out (first + count) (behind (first + count) (omega arith))))
          where
            last : {a b e : ℕ} → a ≤ b → b < e → a ≤ e - 1
            last h g = omega (arith, h, g)

    -- what it lacks is what its range cuts
    pub changed_lack : missing (unlike_tables (levels st) space new) st.tables ≡ missing (cut_by (levels st) space first count) st.tables
    changed_lack = same_lack st space ok new (cut_by (levels st) space first count) to_cut (λ p gone h.
        let cut = cut_parts (levels st) space first count p ok.few_levels change.some h in
        let is = missing_is st space ok new (cut_by (levels st) space first count) p cut.same_space cut.low cut.high gone in
        (is, not_from_false _ (false_from_ne_true _ (λ alike. from_cut p cut is.alike alike))))

-- a mapping operation, on the pages from the first that it changes to the last
pub op_changes : (o : TxnOp) (cells : AddressSpace) (first count : ℕ) → 1 ≤ count → lies_in first count (op_first o) (op_pages o) ≡ true →
    ((q : ℕ) → within (op_first o) (op_pages o) q ≡ true → within first count q ≡ false → fin.get (after_op o cells) q ≡ fin.get cells q) →
    (fin.get (after_op o cells) first ≡ fin.get cells first → ⊥) → (fin.get (after_op o cells) (first + count - 1) ≡ fin.get cells (first + count - 1) → ⊥) →
    Changes cells (after_op o cells) first count
op_changes o cells first count some inside same starts stops = record {
  some = some;
  out = λ q w. out q w (within (op_first o) (op_pages o) q) refl;
  alike = λ low n h was. inside_alike o cells low n (deeper low n h) was;
  starts = starts;
  stops = stops;
}
  where
    out : (q : ℕ) → within first count q ≡ false → (b : Bool) → within (op_first o) (op_pages o) q ≡ b → fin.get (after_op o cells) q ≡ fin.get cells q
    out q w true e = same q e w
    out q w false e = leaves_out o cells q e

    deeper : (low n : ℕ) → lies_in low n first count ≡ true → lies_in low n (op_first o) (op_pages o) ≡ true
    deeper low n h =
        let inner = and_parts (nat_le first low) (nat_le (low + n) (first + count)) h in
        let outer = and_parts (nat_le (op_first o) first) (nat_le (first + count) (op_first o + op_pages o)) inside in
        and_from _ _ (le-leb (op_first o) low (omega (arith, leb-true first low inner.0, leb-true (op_first o) first outer.0)))
        (le-leb (low + n) (op_first o + op_pages o) (omega (arith, leb-true (low + n) (first + count) inner.1, leb-true (first + count) (op_first o + op_pages o) outer.1)))

-- What a mapping operation lacks: nothing where it changes no page, and else what the pages cut from the first that it changes to the last.
pub op_lack : (st : State) (space : ℕ) (o : TxnOp) (first count : ℕ) → IsConsistent st → Changes (space_at st space) (after_op o (space_at st space)) first count →
    missing (unlike_tables (levels st) space (after_op o (space_at st space))) st.tables ≡ missing (cut_by (levels st) space first count) st.tables
op_lack st space o first count ok change = changed_lack st space ok (after_op o (space_at st space)) first count change

pub op_lacks_none : (st : State) (space : ℕ) (o : TxnOp) → IsConsistent st →
    ((q : ℕ) → within (op_first o) (op_pages o) q ≡ true → fin.get (after_op o (space_at st space)) q ≡ fin.get (space_at st space) q) →
    missing (unlike_tables (levels st) space (after_op o (space_at st space))) st.tables ≡ missing [] st.tables
op_lacks_none st space o ok same = unchanged_lack st space ok (after_op o (space_at st space)) (λ q. by_test q (within (op_first o) (op_pages o) q) refl)
  where
    by_test : (q : ℕ) (b : Bool) → within (op_first o) (op_pages o) q ≡ b → fin.get (after_op o (space_at st space)) q ≡ fin.get (space_at st space) q
    by_test q true e = same q e
    by_test q false e = leaves_out o (space_at st space) q e

-- ---- spans and ranges

-- a span has a page of a range, or no page of it
pub meets_or_not : (a n first count : ℕ) → 0 < n → ((q : ℕ) × (within first count q ≡ true) × (a ≤ q) × (q < a + n)) ⊎ ((q : ℕ) → a ≤ q → q < a + n → within first count q ≡ false)
meets_or_not a n first count some = by_order (cases_lt a first)
  where
    apart : ((q : ℕ) → a ≤ q → q < a + n → first ≤ q → q < first + count → ⊥) → (q : ℕ) → a ≤ q → q < a + n → within first count q ≡ false
    apart clash q b c = false_from_ne_true _ (λ w. clash q b c (in_range first count q w).0 (in_range first count q w).1)

    before : first ≤ a → first + count ≤ a → (q : ℕ) → a ≤ q → q < a + n → first ≤ q → q < first + count → ⊥
    before l h q b c d e = omega (arith, h, b, e)

    behind : a + n ≤ first → (q : ℕ) → a ≤ q → q < a + n → first ≤ q → q < first + count → ⊥
    behind h q b c d e = omega (arith, h, c, d)

    empty : count ≤ 0 → (q : ℕ) → a ≤ q → q < a + n → first ≤ q → q < first + count → ⊥
    empty h q b c d e = omega (arith, h, d, e)

    by_order : (a < first) ⊎ (first ≤ a) → ((q : ℕ) × (within first count q ≡ true) × (a ≤ q) × (q < a + n)) ⊎ ((q : ℕ) → a ≤ q → q < a + n → within first count q ≡ false)
    by_order (inl l) = ahead (cases_lt first (a + n)) (cases_lt 0 count)
      where
        ahead : (first < a + n) ⊎ (a + n ≤ first) → (0 < count) ⊎ (count ≤ 0) → ((q : ℕ) × (within first count q ≡ true) × (a ≤ q) × (q < a + n)) ⊎ ((q : ℕ) → a ≤ q → q < a + n → within first count q ≡ false)
        ahead (inl near) (inl there) = inl (first, to_range first count first (omega arith) (omega (arith, there)), omega (arith, l), near)
        ahead (inl near) (inr none) = inr (apart (empty none))
        ahead (inr far) other = inr (apart (behind far))
    by_order (inr m) = there (cases_lt a (first + count))
      where
        there : (a < first + count) ⊎ (first + count ≤ a) → ((q : ℕ) × (within first count q ≡ true) × (a ≤ q) × (q < a + n)) ⊎ ((q : ℕ) → a ≤ q → q < a + n → within first count q ≡ false)
        there (inl near) = inl (a, to_range first count a m near, omega arith, omega (arith, some))
        there (inr far) = inr (apart (before m far))

-- one of a range that passes
pub some_in : (t : ℕ → Bool) (low n q : ℕ) → low ≤ q → q < low + n → t q ≡ true → list_any t (range_with_len low n) ≡ true
some_in t low zero q a b h = absurd (omega (arith, a, b))
some_in t low (suc n) q a b h = elim (cases_eq q low) [
  | inl here ↦ or_left (t low) (list_any t (range_with_len (low + 1) n)) (ap t (sym here) ∙ h)
  | inr later ↦ or_right (t low) (list_any t (range_with_len (low + 1) n)) (some_in t (low + 1) n q (next q low a later) (omega (arith, b)) h)
]
  where
    next : (q low : ℕ) → low ≤ q → (q ≡ low → ⊥) → low + 1 ≤ q
    next q low a ne = omega arith

pub some_of : (t : ℕ → Bool) (low n : ℕ) → list_any t (range_with_len low n) ≡ true → (q : ℕ) × (within low n q ≡ true) × (t q ≡ true)
some_of t low zero h = absurd (true≢false (sym h))
some_of t low (suc n) h = elim (or_cases (t low) (list_any t (range_with_len (low + 1) n)) h) [
  | inl here ↦ (low, to_range low (suc n) low (omega arith) (omega arith), here)
  | inr later ↦ (let at = some_of t (low + 1) n later in let w = in_range (low + 1) n at.0 at.1 in
      (at.0, to_range low (suc n) at.0 (omega (arith, w.0)) (omega (arith, w.1)), at.2))
]

-- a table has more than one page in its span
pub wide : (k : ℕ) → 1 ≤ k → 2 ≤ 512 ^ k
wide k low = omega (arith, ap (λ n. 512 ^ n) (next k low), span_up (k - 1), span_pos (k - 1))
  where
    next : (k : ℕ) → 1 ≤ k → k - 1 + 1 ≡ k
    next k low = omega arith

-- ---- an access

module _ (st : State) (space : ℕ) (ok : IsConsistent st) (new : AddressSpace) (first count : ℕ) where
  abbrev above_each : List Place
  above_each = flat_map (λ page. cut_by (levels st) space page 1) (range_with_len first count)

  abbrev cuts : Place → ℕ → Bool
  cuts p page = is_wanted (cut_by (levels st) space page 1) p

  listed : (p : Place) (q : ℕ) → within first count q ≡ true → cuts p q ≡ true → is_wanted above_each p ≡ true
  listed p q w h =
      let at = in_range first count q w in
      any_flat (eq_by_cmp place_cmp p) (λ page. cut_by (levels st) space page 1) (range_with_len first count) ∙ some_in (cuts p) first count q at.0 at.1 h

  two_pages : (a n q : ℕ) → 2 ≤ n → a ≤ q → q < a + n → (a < q) ⊎ (q + 1 < a + n)
  two_pages a n q two low high = go (cases_lt a q)
    where
      go : (a < q) ⊎ (q ≤ a) → (a < q) ⊎ (q + 1 < a + n)
      go (inl l) = inl l
      go (inr m) = inr (omega (arith, two, low, m))

  -- A change after which each page of the range has a number lacks the tables above its pages.
  pub numbered_lack : ((q : ℕ) → within first count q ≡ false → fin.get new q ≡ fin.get (space_at st space) q) → ((q : ℕ) → within first count q ≡ true → has_no_number (fin.get new q) ≡ false) →
      missing (unlike_tables (levels st) space new) st.tables ≡ missing above_each st.tables
  numbered_lack out numbered = same_lack st space ok new above_each to from
    where
      to : (p : Place) → IsMissing st space ok new above_each p → is_unlike new p ≡ true → is_wanted above_each p ≡ true
      to p is h = elim (meets_or_not (span_first p) (span_count p) first count (span_pos p.level)) [
        | inl at ↦ listed p at.0 at.1 (cut_from (levels st) space at.0 1 p ok.few_levels (record {
          same_space = is.same_space;
          low = is.low;
          high = is.high;
          page = at.0;
          within_range = to_range at.0 1 at.0 (omega arith) (omega arith);
          from = at.2;
          to = at.3;
          outside = two_pages (span_first p) (span_count p) at.0 (wide p.level is.low) at.2 at.3;
        }))
        | inr none ↦ absurd (true≢false (sym (same_alike (space_at st space) new (span_first p) (span_count p) (λ q a b. out q (none q a b)) is.alike) ∙ not-true _ h))
      ]

      only : (a b : ℕ) → (a ≤ b) × (b < a + 1) → b ≡ a
      only a b h = omega (arith, h.0, h.1)

      from : (p : Place) → set.contains st.tables p ≡ false → is_wanted above_each p ≡ true → IsMissing st space ok new above_each p × (is_unlike new p ≡ true)
      from p gone h =
          let at = some_of (cuts p) first count (sym (any_flat (eq_by_cmp place_cmp p) (λ page. cut_by (levels st) space page 1) (range_with_len first count)) ∙ h) in
          let cut = cut_parts (levels st) space at.0 1 p ok.few_levels (omega arith) at.2 in
          let here = only at.0 cut.page (in_range at.0 1 cut.page cut.within_range) in (
            missing_is st space ok new above_each p cut.same_space cut.low cut.high gone,
            number_unlike new (span_first p) (span_count p) cut.page cut.from cut.to (ap (λ q. has_no_number (fin.get new q)) here ∙ numbered at.0 at.1),
          )

-- An access of pages that all have cells lacks the tables above them.
module _ (st : State) (space : ℕ) (grants : Grant) (a : Access) (ok : IsConsistent st) where
  abbrev touch : ℕ → Option Cell → Option Cell
  touch q o = option_map (touched st.files grants a q) o

  left_at : (q : ℕ) → fin.get (after_access st.files grants a (space_at st space)) q ≡ cond (within (first_page a) (page_count a) q) (touch q (fin.get (space_at st space) q)) (fin.get (space_at st space) q)
  unfolding after_access
  left_at q = get-change (space_at st space) (first_page a) (page_count a) (λ page. option_map (touched st.files grants a page)) q

  touch_numbered : (q : ℕ) (o : Option Cell) → (o ≡ None → ⊥) → has_no_number (touch q o) ≡ false
  touch_numbered q None h = absurd (h refl)
  touch_numbered q (Some c) h = refl

  pub access_lack : ((q : ℕ) → within (first_page a) (page_count a) q ≡ true → fin.get (space_at st space) q ≡ None → ⊥) →
      missing (unlike_tables (levels st) space (after_access st.files grants a (space_at st space))) st.tables
      ≡ missing (flat_map (λ page. cut_by (levels st) space page 1) (range_with_len (first_page a) (page_count a))) st.tables
  access_lack mapped = numbered_lack st space ok (after_access st.files grants a (space_at st space)) (first_page a) (page_count a)
      (λ q w. left_at q ∙ ap (λ b. cond b (touch q (fin.get (space_at st space) q)) (fin.get (space_at st space) q)) w)
      (λ q w. ap has_no_number (left_at q ∙ ap (λ b. cond b (touch q (fin.get (space_at st space) q)) (fin.get (space_at st space) q)) w) ∙ touch_numbered q (fin.get (space_at st space) q) (mapped q w))
