-- What a range of another length lacks: where it moves, the tables that its old place cuts, and at its new place those that its
-- pieces cut, each of pages that go on from one another; where it stays, those that the pages cut that it leaves or gets.
use Rattle.std.proofs.Common.{◌≡◌, ℕ, ◌+◌, ◌-◌, ◌<◌, ◌≤◌, Bool, true, false, not, ◌⊎◌, inl, inr, List, [], ◌∷◌, ◌++◌, refl, sym, ap, ◌∙◌, arith}
use mathlib.Core.Bool.{true≢false}
use Rattle.std.specs.Prelude.{Option, Some, None, nat_le}
use Rattle.std.specs.List.{list_any, flat_map, AllByRecursion}
use Rattle.std.specs.Ordering.{eq_by_cmp}
use Rattle.std.specs.FinMap as fin
use Rattle.std.proofs.lemmas.Bool.{and_parts, or_cases, or_left, or_right, leb-true, not-true, not_from_false, false_from_ne_true, cases_lt}
use Rattle.table_place.specs.declared.Place.{Place}
use Rattle.table_place.specs.Range.{within, lies_in}
use Rattle.table_place.specs.Place.{place_cmp, cut_by, span_first, span_count}
use Rattle.table_place.proofs.Spans.{span_pos}
use Rattle.table_place.proofs.Tables.{in_range, to_range}
use Rattle.page_map.specs.declared.cell.Cell.{Cell}
use Rattle.page_map.specs.declared.cell.Cell.TheVariants.{Anon, File, Mapped, Swapped}
use Rattle.page_map.specs.Cell.{AddressSpace}
use Rattle.page_map.specs.Alike.{continues, is_alike, is_unlike, unlike_tables}
use Rattle.page_map.specs.Cutting.{IsMove, IsPiece, ArePieces}
use Rattle.page_map.specs.Tables.{missing}
use Rattle.page_map.specs.Remap.{moves}
use Rattle.page_map.specs.State.{State, IsConsistent, levels, space_at}
use Rattle.page_map.proofs.Above.{any_append, any_flat}
use Rattle.page_map.proofs.Wanted.{is_wanted}
use Rattle.page_map.proofs.Alike.{has_no_number, onward, onward_twice, continues_is, continues_from, alike_at, alike_from, alike_unnumbered, none_alike, part_alike, same_alike}
use Rattle.page_map.proofs.NeedOf.{IsCut, cut_parts, cut_from, reaches_out, alike_next, none_everywhere, IsMissing, missing_is, same_lack, meets_or_not, wide}

-- ---- pages that go on from one another

-- a page without a number is alike
pub one_alike : (cells : AddressSpace) (q : ℕ) → has_no_number (fin.get cells q) ≡ true → is_alike cells q 1 ≡ true
one_alike cells q plain = alike_from cells q 1 (λ x a b.
    let same = only x a b in
    continues_from (fin.get cells q) (x - q) (fin.get cells x) plain (ap (fin.get cells) same ∙ itself (fin.get cells q) plain ∙ ap (λ i. onward i (fin.get cells q)) (none x same)))
  where
    only : (x : ℕ) → q ≤ x → x < q + 1 → x ≡ q
    only x a b = omega (arith, a, b)

    none : (x : ℕ) → x ≡ q → 0 ≡ x - q
    none x e = omega (arith, e)

    itself : (o : Option Cell) → has_no_number o ≡ true → o ≡ onward 0 o
    itself None h = refl
    itself (Some (Anon perm)) h = refl
    itself (Some (File perm file index)) h = ap (λ n. Some (File perm file n)) (plus index)
      where
        plus : (n : ℕ) → n ≡ n + 0
        plus n = omega arith
    itself (Some (Mapped perm origin frame bytes)) h = absurd (true≢false (sym h))
    itself (Some (Swapped perm origin slot bytes)) h = absurd (true≢false (sym h))

-- and a page that goes on from the last of a span is alike with it
pub longer_alike : (cells : AddressSpace) (low n : ℕ) → 1 ≤ n → is_alike cells low n ≡ true → continues (fin.get cells (low + n - 1)) 1 (fin.get cells (low + n)) ≡ true → is_alike cells low (n + 1) ≡ true
longer_alike cells low n some was next = alike_from cells low (n + 1) (λ x a b. elim (cases_lt x (low + n)) [
  | inl l ↦ alike_at cells low n was x a l
  | inr m ↦ (let same = only x b m in
      continues_from (fin.get cells low) (x - low) (fin.get cells x) (alike_unnumbered cells low n was low (omega arith) (omega (arith, some)))
      (ap (fin.get cells) same ∙ continues_is (fin.get cells (low + n - 1)) 1 (fin.get cells (low + n)) next
      ∙ ap (onward 1) (continues_is (fin.get cells low) (low + n - 1 - low) (fin.get cells (low + n - 1)) (alike_at cells low n was (low + n - 1) (omega (arith, some)) (omega (arith, some))))
      ∙ onward_twice (fin.get cells low) (low + n - 1 - low) 1 (x - low) (sum x same)))
])
  where
    only : (x : ℕ) → x < low + (n + 1) → low + n ≤ x → x ≡ low + n
    only x a b = omega (arith, a, b)

    sum : (x : ℕ) → x ≡ low + n → low + n - 1 - low + 1 ≡ x - low
    sum x e = omega (arith, e, some)

-- ---- pieces of a range

module _ {A : Type 0} (first_of count_of : A → ℕ) (cells : AddressSpace) where
  pub ends_late : (at end : ℕ) (rs : List A) → ArePieces first_of count_of cells at end rs → at ≤ end
  ends_late at end [] h = omega (arith, h)
  ends_late at end (r ∷ rs) h = omega (arith, h.0.fits)

  -- a piece among the others of a range from `to` on
  pub record Stands (to end : ℕ) (r : A) : Type 0 where
    pub some : 1 ≤ count_of r
    pub from : to ≤ first_of r
    pub fits : first_of r + count_of r ≤ end
    pub whole : (is_alike cells (first_of r) (count_of r) ≡ true) ⊎ (count_of r ≡ 1)
    pub before : (first_of r ≡ to) ⊎ (continues (fin.get cells (first_of r - 1)) 1 (fin.get cells (first_of r)) ≡ false)
    pub behind : (first_of r + count_of r ≡ end) ⊎ (continues (fin.get cells (first_of r + count_of r - 1)) 1 (fin.get cells (first_of r + count_of r)) ≡ false)

  pub Starts : ℕ → ℕ → ℕ → Type 0
  Starts to end at = at < end → (at ≡ to) ⊎ (continues (fin.get cells (at - 1)) 1 (fin.get cells at) ≡ false)

  one_stands : (to at end : ℕ) (r : A) → to ≤ at → Starts to end at → IsPiece first_of count_of cells at end r → Stands to end r
  unfolding Starts
  one_stands to at end r low starts h = record {
    some = h.some;
    from = omega (arith, low, h.here);
    fits = omega (arith, h.fits, h.here);
    whole = ap_whole h.whole;
    before = ap_before (starts (omega (arith, h.some, h.fits)));
    behind = by_end (cases_lt (at + count_of r) end);
  }
    where
      ap_whole : (is_alike cells at (count_of r) ≡ true) ⊎ (count_of r ≡ 1) → (is_alike cells (first_of r) (count_of r) ≡ true) ⊎ (count_of r ≡ 1)
      ap_whole (inl a) = inl (ap (λ n. is_alike cells n (count_of r)) h.here ∙ a)
      ap_whole (inr b) = inr b

      ap_before : (at ≡ to) ⊎ (continues (fin.get cells (at - 1)) 1 (fin.get cells at) ≡ false) → (first_of r ≡ to) ⊎ (continues (fin.get cells (first_of r - 1)) 1 (fin.get cells (first_of r)) ≡ false)
      ap_before (inl a) = inl (h.here ∙ a)
      ap_before (inr b) = inr (ap (λ n. continues (fin.get cells (n - 1)) 1 (fin.get cells n)) h.here ∙ b)

      by_end : (at + count_of r < end) ⊎ (end ≤ at + count_of r) → (first_of r + count_of r ≡ end) ⊎ (continues (fin.get cells (first_of r + count_of r - 1)) 1 (fin.get cells (first_of r + count_of r)) ≡ false)
      by_end (inl l) = inr (ap (λ n. continues (fin.get cells (n + count_of r - 1)) 1 (fin.get cells (n + count_of r))) h.here ∙ h.parts l)
      by_end (inr m) = inl (omega (arith, m, h.fits, h.here))

  pub stands : (to at end : ℕ) (rs : List A) → to ≤ at → Starts to end at → ArePieces first_of count_of cells at end rs → AllByRecursion (Stands to end) rs
  unfolding Starts
  stands to at end [] low starts h = tt
  stands to at end (r ∷ rs) low starts h = (one_stands to at end r low starts h.0, stands to (at + count_of r) end rs (omega (arith, low)) (λ l. inr (h.0.parts l)) h.1)

  pub all_stand : (to end : ℕ) (rs : List A) → ArePieces first_of count_of cells to end rs → AllByRecursion (Stands to end) rs
  unfolding Starts
  all_stand to end rs h = stands to to end rs (omega arith) (λ _. inl refl) h

  -- each page of the range is in a piece
  pub in_piece : (P : A → Type 0) (t : A → Bool) (at end q : ℕ) (rs : List A) → ArePieces first_of count_of cells at end rs → AllByRecursion P rs → at ≤ q → q < end →
      ((r : A) → P r → first_of r ≤ q → q < first_of r + count_of r → t r ≡ true) → list_any t rs ≡ true
  in_piece P t at end q [] h all low high passes = absurd (omega (arith, h, low, high))
  in_piece P t at end q (r ∷ rs) h all low high passes = elim (cases_lt q (at + count_of r)) [
    | inl here ↦ or_left (t r) (list_any t rs) (passes r all.0 (omega (arith, low, h.0.here)) (omega (arith, here, h.0.here)))
    | inr later ↦ or_right (t r) (list_any t rs) (in_piece P t (at + count_of r) end q rs h.1 all.1 later high passes)
  ]

  -- one piece more, behind the others
  pub one_piece_more : (at end : ℕ) (rs : List A) (r : A) → ArePieces first_of count_of cells at end rs → first_of r ≡ end → 1 ≤ count_of r → (is_alike cells end (count_of r) ≡ true) ⊎ (count_of r ≡ 1) →
      (at < end → continues (fin.get cells (end - 1)) 1 (fin.get cells end) ≡ false) → ArePieces first_of count_of cells at (end + count_of r) (rs ++ r ∷ [])
  one_piece_more at end [] r h here some whole parts = (
    record {
      here = here ∙ sym h;
      some = some;
      fits = omega (arith, h);
      whole = elim whole [ inl a ↦ inl (ap (λ n. is_alike cells n (count_of r)) h ∙ a) | inr b ↦ inr b ];
      parts = λ l. absurd (omega (arith, h, l));
    },
    ap (λ n. n + count_of r) h,
  )
  one_piece_more at end (x ∷ rs) r h here some whole parts = (
    record {
      here = h.0.here;
      some = h.0.some;
      fits = omega (arith, h.0.fits);
      whole = h.0.whole;
      parts = λ _. by_end (cases_lt (at + count_of x) end);
    },
    one_piece_more (at + count_of x) end rs r h.1 here some whole (λ l. parts (omega (arith, l))),
  )
    where
      by_end : (at + count_of x < end) ⊎ (end ≤ at + count_of x) → continues (fin.get cells (at + count_of x - 1)) 1 (fin.get cells (at + count_of x)) ≡ false
      by_end (inl l) = h.0.parts l
      by_end (inr m) =
          let same : at + count_of x ≡ end = omega (arith, m, h.0.fits) in
          ap (λ n. continues (fin.get cells (n - 1)) 1 (fin.get cells n)) same ∙ parts (omega (arith, h.0.some, same))

  -- the last piece apart
  pub last_apart : (at end : ℕ) (rs : List A) (r : A) → ArePieces first_of count_of cells at end (rs ++ r ∷ []) →
      ArePieces first_of count_of cells at (first_of r) rs × (first_of r + count_of r ≡ end) × ((is_alike cells (first_of r) (count_of r) ≡ true) ⊎ (count_of r ≡ 1))
      × (at < first_of r → continues (fin.get cells (first_of r - 1)) 1 (fin.get cells (first_of r)) ≡ false) × (1 ≤ count_of r)
  last_apart at end [] r h = (
    sym h.0.here,
    ap (λ n. n + count_of r) h.0.here ∙ h.1,
    elim h.0.whole [ inl a ↦ inl (ap (λ n. is_alike cells n (count_of r)) h.0.here ∙ a) | inr b ↦ inr b ],
    λ l. absurd (omega (arith, l, h.0.here)),
    h.0.some,
  )
  last_apart at end (x ∷ rs) r h =
      let rest = last_apart (at + count_of x) end rs r h.1 in
      let room = up_to rest.0 in (
        (record { here = h.0.here; some = h.0.some; fits = room; whole = h.0.whole; parts = λ l. h.0.parts (omega (arith, l, rest.1, rest.4)) }, rest.0),
        rest.1,
        rest.2,
        λ _. by_start room (cases_lt (at + count_of x) (first_of r)) rest.3 (omega (arith, rest.1, rest.4)),
        rest.4,
      )
    where
      up_to : ArePieces first_of count_of cells (at + count_of x) (first_of r) rs → at + count_of x ≤ first_of r
      up_to h = ends_late (at + count_of x) (first_of r) rs h

      by_start : at + count_of x ≤ first_of r → (at + count_of x < first_of r) ⊎ (first_of r ≤ at + count_of x) →
          (at + count_of x < first_of r → continues (fin.get cells (first_of r - 1)) 1 (fin.get cells (first_of r)) ≡ false) → first_of r < end → continues (fin.get cells (first_of r - 1)) 1 (fin.get cells (first_of r)) ≡ false
      by_start room (inl l) later below = later l
      by_start room (inr m) later below =
          let same : at + count_of x ≡ first_of r = omega (arith, m, room) in
          ap (λ n. continues (fin.get cells (n - 1)) 1 (fin.get cells n)) (sym same) ∙ h.0.parts (omega (arith, same, below))

-- one that passes, of a list each of which has a property
pub one_of : {A : Type 0} (P : A → Type 0) (t : A → Bool) (xs : List A) → AllByRecursion P xs → list_any t xs ≡ true → (x : A) × P x × (t x ≡ true)
one_of P t [] all h = absurd (true≢false (sym h))
one_of P t (x ∷ xs) all h = elim (or_cases (t x) (list_any t xs) h) [
  | inl here ↦ (x, all.0, here)
  | inr later ↦ one_of P t xs all.1 later
]

-- ---- a range that moves

module _ (st : State) (space : ℕ) (ok : IsConsistent st) (new : AddressSpace) (from n to m : ℕ) (move : IsMove (space_at st space) new from n to m) where
  abbrev old : AddressSpace
  old = space_at st space

  -- a page that was filled or left stands in one of the two ranges
  not_filled : (q : ℕ) → (fin.get old q ≡ None → ⊥) → within to m q ≡ false
  not_filled q h = false_from_ne_true _ (λ w. h (move.free q w))

  not_left : (q : ℕ) → fin.get old q ≡ None → within from n q ≡ false
  not_left q h = false_from_ne_true _ (λ w. move.stood q w h)

  module _ {A : Type 0} (first_of count_of : A → ℕ) (ps : List A) (pieces : ArePieces first_of count_of new to (to + m) ps) where
    abbrev cut_at : A → List Place
    cut_at r = cut_by (levels st) space (first_of r) (count_of r)

    abbrev wanted : List Place
    wanted = cut_by (levels st) space from n ++ flat_map cut_at ps

    in_old : (p : Place) → is_wanted (cut_by (levels st) space from n) p ≡ true → is_wanted wanted p ≡ true
    in_old p h = any_append (eq_by_cmp place_cmp p) (cut_by (levels st) space from n) (flat_map cut_at ps) ∙ or_left _ _ h

    in_new : (p : Place) → list_any (λ r. is_wanted (cut_at r) p) ps ≡ true → is_wanted wanted p ≡ true
    in_new p h = any_append (eq_by_cmp place_cmp p) (cut_by (levels st) space from n) (flat_map cut_at ps) ∙ or_right _ _ (any_flat (eq_by_cmp place_cmp p) cut_at ps ∙ h)

    to_cut : (p : Place) → IsMissing st space ok new wanted p → is_unlike new p ≡ true → is_wanted wanted p ≡ true
    to_cut p is h = by_old (meets_or_not (span_first p) (span_count p) from n (span_pos p.level))
      where
        unlike : is_alike new (span_first p) (span_count p) ≡ true → ⊥
        unlike alike = true≢false (sym alike ∙ not-true _ h)

        inside : (low k q : ℕ) → lies_in (span_first p) (span_count p) low k ≡ true → span_first p ≤ q → q < span_first p + span_count p → (low ≤ q) × (q < low + k)
        inside low k q l a b =
            let ends = and_parts (nat_le low (span_first p)) (nat_le (span_first p + span_count p) (low + k)) l in
            (omega (arith, leb-true low (span_first p) ends.0, a), omega (arith, leb-true (span_first p + span_count p) (low + k) ends.1, b))

        cut : (low k q : ℕ) → within low k q ≡ true → span_first p ≤ q → q < span_first p + span_count p → (lies_in (span_first p) (span_count p) low k ≡ true → ⊥) → is_wanted (cut_by (levels st) space low k) p ≡ true
        cut low k q w a b out = cut_from (levels st) space low k p ok.few_levels (record {
          same_space = is.same_space;
          low = is.low;
          high = is.high;
          page = q;
          within_range = w;
          from = a;
          to = b;
          outside = reaches_out (span_first p) (span_count p) low k (false_from_ne_true _ out);
        })

        piece_out : (r : A) → Stands first_of count_of new to (to + m) r → lies_in (span_first p) (span_count p) (first_of r) (count_of r) ≡ true → ⊥
        piece_out r s l = by_whole s.whole
          where
            by_whole : (is_alike new (first_of r) (count_of r) ≡ true) ⊎ (count_of r ≡ 1) → ⊥
            by_whole (inl alike) = unlike (part_alike new (first_of r) (count_of r) (span_first p) (span_count p) (λ q a b. inside (first_of r) (count_of r) q l a b) alike)
            by_whole (inr one) =
                let ends = and_parts (nat_le (first_of r) (span_first p)) (nat_le (span_first p + span_count p) (first_of r + count_of r)) l in
                omega (arith, leb-true (first_of r) (span_first p) ends.0, leb-true (span_first p + span_count p) (first_of r + count_of r) ends.1, one, wide p.level is.low)

        by_old : ((q : ℕ) × (within from n q ≡ true) × (span_first p ≤ q) × (q < span_first p + span_count p)) ⊎ ((q : ℕ) → span_first p ≤ q → q < span_first p + span_count p → within from n q ≡ false) → is_wanted wanted p ≡ true
        by_old (inl at) = in_old p (cut from n at.0 at.1 at.2 at.3 (λ l. unlike (none_alike new (span_first p) (span_count p) (λ q a b.
            let w = inside from n q l a b in move.left q (to_range from n q w.0 w.1)))))
        by_old (inr none) = by_new (meets_or_not (span_first p) (span_count p) to m (span_pos p.level))
          where
            by_new : ((q : ℕ) × (within to m q ≡ true) × (span_first p ≤ q) × (q < span_first p + span_count p)) ⊎ ((q : ℕ) → span_first p ≤ q → q < span_first p + span_count p → within to m q ≡ false) → is_wanted wanted p ≡ true
            by_new (inl at) =
                let w = in_range to m at.0 at.1 in
                in_new p (in_piece first_of count_of new (Stands first_of count_of new to (to + m)) (λ r. is_wanted (cut_at r) p) to (to + m) at.0 ps pieces (all_stand first_of count_of new to (to + m) ps pieces) w.0 w.1
                (λ r s a b. cut (first_of r) (count_of r) at.0 (to_range (first_of r) (count_of r) at.0 a b) at.2 at.3 (piece_out r s)))
            by_new (inr also) = absurd (unlike (same_alike old new (span_first p) (span_count p) (λ q a b. move.out q (none q a b) (also q a b)) is.alike))

    module _ (p : Place) (was : is_alike old (span_first p) (span_count p) ≡ true) (is : is_alike new (span_first p) (span_count p) ≡ true) where
      -- a page of the span that was filled before goes, and one that was not comes
      both_kinds : (q r : ℕ) → span_first p ≤ q → q < span_first p + span_count p → span_first p ≤ r → r < span_first p + span_count p → (fin.get new q ≡ None → ⊥) → fin.get new r ≡ None → ⊥
      both_kinds q r a b a' b' some none = some (none_everywhere new (span_first p) (span_count p) is r q a' b' a b none)

      -- beside the pages that leave
      old_clash : (q x : ℕ) → within from n q ≡ true → span_first p ≤ q → q < span_first p + span_count p → within from n x ≡ false → span_first p ≤ x → x < span_first p + span_count p → ⊥
      old_clash q x w a b out a' b' =
          let there = λ (none : fin.get old x ≡ None). move.stood q w (none_everywhere old (span_first p) (span_count p) was x q a' b' a b none) in
          both_kinds x q a' b' a b (λ none. there (sym (move.out x out (not_filled x there)) ∙ none)) (move.left q w)

      from_old : IsCut (levels st) space from n p → ⊥
      from_old cut = by_side cut.outside
        where
          at : (from ≤ cut.page) × (cut.page < from + n)
          at = in_range from n cut.page cut.within_range

          early : {a : ℕ} → a < from → from ≤ from - 1 → ⊥
          early l e = omega (arith, l, e)

          by_side : (span_first p < from) ⊎ (from + n < span_first p + span_count p) → ⊥
          by_side (inl l) = old_clash cut.page (from - 1) cut.within_range cut.from cut.to (false_from_ne_true _ (λ w. early l (in_range from n (from - 1) w).0)) (omega (arith, l)) (omega (arith, at.0, cut.to))
          by_side (inr l) = old_clash cut.page (from + n) cut.within_range cut.from cut.to (false_from_ne_true _ (λ w. omega (arith, (in_range from n (from + n) w).1))) (omega (arith, cut.from, at.1)) l

      -- beside the pages that come
      new_clash : (q x : ℕ) → within to m q ≡ true → span_first p ≤ q → q < span_first p + span_count p → within to m x ≡ false → span_first p ≤ x → x < span_first p + span_count p → ⊥
      new_clash q x w a b out a' b' =
          let none = none_everywhere old (span_first p) (span_count p) was q x a b a' b' (move.free q w) in
          both_kinds q x a b a' b' (move.filled q w) (move.out x (not_left x none) out ∙ none)

      from_new : (r : A) → Stands first_of count_of new to (to + m) r → IsCut (levels st) space (first_of r) (count_of r) p → ⊥
      from_new r s cut = by_side cut.outside
        where
          at : (first_of r ≤ cut.page) × (cut.page < first_of r + count_of r)
          at = in_range (first_of r) (count_of r) cut.page cut.within_range

          there : within to m cut.page ≡ true
          there = to_range to m cut.page (omega (arith, s.from, at.0)) (omega (arith, s.fits, at.1))

          back : {a f : ℕ} → a < f → f - 1 + 1 ≡ f
          back l = omega (arith, l)

          early : {a f : ℕ} → a < f → f ≡ to → to ≤ f - 1 → ⊥
          early l e g = omega (arith, l, e, g)

          by_before : span_first p < first_of r → (first_of r ≡ to) ⊎ (continues (fin.get new (first_of r - 1)) 1 (fin.get new (first_of r)) ≡ false) → ⊥
          by_before l (inl edge) = new_clash cut.page (first_of r - 1) there cut.from cut.to (false_from_ne_true _ (λ w. early l edge (in_range to m (first_of r - 1) w).0)) (omega (arith, l)) (omega (arith, at.0, cut.to))
          by_before l (inr apart) = true≢false (sym (alike_next new (span_first p) (span_count p) is (first_of r - 1) (omega (arith, l)) (omega (arith, l, at.0, cut.to)))
              ∙ ap (λ x. continues (fin.get new (first_of r - 1)) 1 (fin.get new x)) (back l) ∙ apart)

          by_behind : first_of r + count_of r < span_first p + span_count p → (first_of r + count_of r ≡ to + m) ⊎ (continues (fin.get new (first_of r + count_of r - 1)) 1 (fin.get new (first_of r + count_of r)) ≡ false) → ⊥
          by_behind l (inl edge) = new_clash cut.page (first_of r + count_of r) there cut.from cut.to (false_from_ne_true _ (λ w. omega (arith, edge, (in_range to m (first_of r + count_of r) w).1))) (omega (arith, cut.from, at.1)) l
          by_behind l (inr apart) = true≢false (sym (alike_next new (span_first p) (span_count p) is (first_of r + count_of r - 1) (last cut.from at.1) (omega (arith, l, back s.some)))
              ∙ ap (λ x. continues (fin.get new (first_of r + count_of r - 1)) 1 (fin.get new x)) (again (first_of r) (count_of r) s.some) ∙ apart)
            where
              last : {a b e : ℕ} → a ≤ b → b < e → a ≤ e - 1
              last h g = omega (arith, h, g)

              again : (f c : ℕ) → 1 ≤ c → f + c - 1 + 1 ≡ f + c
              again f c h = omega (arith, h)

          by_side : (span_first p < first_of r) ⊎ (first_of r + count_of r < span_first p + span_count p) → ⊥
          by_side (inl l) = by_before l s.before
          by_side (inr l) = by_behind l s.behind

    -- What it lacks is what its old place cuts, and what its pieces cut at the new one.
    pub move_lack : missing (unlike_tables (levels st) space new) st.tables ≡ missing wanted st.tables
    move_lack = same_lack st space ok new wanted to_cut (λ p gone h.
        elim (or_cases (is_wanted (cut_by (levels st) space from n) p) (is_wanted (flat_map cut_at ps) p) (sym (any_append (eq_by_cmp place_cmp p) (cut_by (levels st) space from n) (flat_map cut_at ps)) ∙ h)) [
          | inl a ↦ (let cut = cut_parts (levels st) space from n p ok.few_levels move.some a in
              let is = missing_is st space ok new wanted p cut.same_space cut.low cut.high gone in
              (is, not_from_false _ (false_from_ne_true _ (λ alike. from_old p is.alike alike cut))))
          | inr b ↦ (let one = one_of (Stands first_of count_of new to (to + m)) (λ r. is_wanted (cut_at r) p) ps (all_stand first_of count_of new to (to + m) ps pieces) (sym (any_flat (eq_by_cmp place_cmp p) cut_at ps) ∙ b) in
              let cut = cut_parts (levels st) space (first_of one.0) (count_of one.0) p ok.few_levels one.1.some one.2 in
              let is = missing_is st space ok new wanted p cut.same_space cut.low cut.high gone in
              (is, not_from_false _ (false_from_ne_true _ (λ alike. from_new p is.alike alike one.0 one.1 cut))))
        ])
