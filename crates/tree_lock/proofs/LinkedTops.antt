-- Each zone of pages has one top, and what the cover of a zone has: row 0 alone where the space is absent, and each row with a page of the zone that is not above the top.
use Rattle.std.proofs.Common.{◌≡◌, ℕ, zero, suc, ◌+◌, ◌-◌, ◌<◌, ◌≤◌, ◌⊎◌, ◌↔◌, true, false, Bool, List, sym, refl, ap, ◌∙◌, subst, inl, inr, ⊎_elim, arith}
use Rattle.std.specs.Prelude.{slice_index}
use Rattle.std.proofs.lemmas.Bool.{cases_lt, false≢true}
use mathlib.Core.Logic.{dite}
use native.Mathlib.Decide.{ℕ_discrete}
use Rattle.table_place.specs.declared.Place.{Place}
use Rattle.table_place.specs.Place.{root, entry_place, span_first, span_count, has_page}
use Rattle.table_place.proofs.Spans.{span_pos, quotient_le, user_first}
use Rattle.table_place.proofs.Tables.{in_range, to_range}
use Rattle.table_place.proofs.Entries.{page_parts, page_from, page_in_span, span_has_page, first_page}
use Rattle.walk_core.specs.Words.{entry_at, is_link, link_row}
use Rattle.row_table.specs.Rows.{place_at}
use Rattle.row_table.specs.Close.{IsReached}
use Rattle.tree_lock.specs.declared.zone.Zone.{Zone}
use Rattle.tree_lock.specs.declared.zone.Zone.TheVariants.{Pages, Space, Directory}
use Rattle.tree_lock.specs.Zone.{ZoneHas, IsZone, HasAll, LiesIn, Meets, Spans}
use Rattle.tree_lock.specs.Linked.{Links, IsBelow, IsTopRow, IsInCover, HasOneTop, IsAbsent}
use Rattle.tree_lock.proofs.LinkedTree.{IsLinkTree, level_at, one_under, under, first_link, low_level, top_level, below_or_same}
use Rattle.tree_lock.proofs.LinkedCover.{some_page, is_top, one_top}

-- Whether a span may cover a zone of pages

module _ (levels s f n : ℕ) (b : Bool) (z : IsZone levels (Pages s f n b)) (p : Place) (low : p.level < 6) where
  last_page : ZoneHas (Pages s f n b) s (f + n - 1)
  last_page = let some = z.1 in (refl, omega arith, omega arith)

  -- a span with the first and the last page has all
  all_between : has_page p s f ≡ true → has_page p s (f + n - 1) ≡ true → HasAll (Pages s f n b) p
  all_between h k space page has =
      let one = page_parts p s f low h in let end = page_parts p s (f + n - 1) low k in let from = quotient_le f page p.level has.1 in
      let to = quotient_le page (f + n - 1) p.level (let past = has.2 in omega arith) in
      page_from p space page low (one.0 ∙ sym has.0) (omega arith)

  has_all : HasAll (Pages s f n b) p ⊎ ¬ HasAll (Pages s f n b) p
  has_all = go (has_page p s f) (has_page p s (f + n - 1)) refl refl
    where
      go : (one end : Bool) → has_page p s f ≡ one → has_page p s (f + n - 1) ≡ end → HasAll (Pages s f n b) p ⊎ ¬ HasAll (Pages s f n b) p
      go true true h k = inl (all_between h k)
      go false end h k = inr (λ all. false≢true (sym h ∙ all s f (some_page levels s f n b z)))
      go true false h k = inr (λ all. false≢true (sym k ∙ all s (f + n - 1) last_page))

  -- a span within the range lies in the zone
  lies_between : p.space ≡ s → f ≤ span_first p → span_first p + span_count p ≤ f + n → LiesIn p (Pages s f n b)
  lies_between same from to space page h =
      let is = page_parts p space page low h in let at = in_range (span_first p) (span_count p) page (page_in_span p space page low h) in
      (sym is.0 ∙ same, (let least = at.0 in omega arith), (let most = at.1 in omega arith))

  span_ends : LiesIn p (Pages s f n b) → (f ≤ span_first p) × (span_first p + span_count p ≤ f + n)
  span_ends lies =
      let some = span_pos p.level in
      let one = lies p.space (span_first p) (span_has_page p p.space (span_first p) low refl (to_range (span_first p) (span_count p) (span_first p) (omega arith) (omega arith))) in
      let end = lies p.space (span_first p + span_count p - 1) (span_has_page p p.space (span_first p + span_count p - 1) low refl (to_range (span_first p) (span_count p) (span_first p + span_count p - 1) (omega arith) (omega arith))) in
      (one.1, (let past = end.2 in omega arith))

  lies_in_zone : p.space ≡ s → LiesIn p (Pages s f n b) ⊎ ¬ LiesIn p (Pages s f n b)
  lies_in_zone same = ⊎_elim
      (λ (out : span_first p < f). inr (λ lies. let ends = (span_ends lies).0 in omega arith))
      (λ (from : f ≤ span_first p). ⊎_elim
      (λ (out : f + n < span_first p + span_count p). inr (λ lies. let ends = (span_ends lies).1 in omega arith))
      (λ (to : span_first p + span_count p ≤ f + n). inl (lies_between same from to))
      (cases_lt (f + n) (span_first p + span_count p)))
      (cases_lt (span_first p) f)

  pub may_cover : Spans (Pages s f n b) p ⊎ ¬ Spans (Pages s f n b) p
  may_cover = ⊎_elim (λ (all : HasAll (Pages s f n b) p). by_kind all b refl) (λ (no : ¬ HasAll (Pages s f n b) p). inr (λ spans. no spans.all)) has_all
    where
      by_kind : HasAll (Pages s f n b) p → (strict : Bool) → b ≡ strict → Spans (Pages s f n b) p ⊎ ¬ Spans (Pages s f n b) p
      by_kind all false e = inl (record { all = all; greater = λ strict lies. absurd (false≢true (sym e ∙ strict)) })
      by_kind all true e = ⊎_elim
          (λ (lies : LiesIn p (Pages s f n b)). inr (λ spans. spans.greater e lies))
          (λ (out : ¬ LiesIn p (Pages s f n b)). inl (record { all = all; greater = λ strict lies. out lies }))
          (lies_in_zone (page_parts p s f low (all s f (some_page levels s f n b z))).0)

module _ {levels : ℕ} (words : List ℕ) (t : IsLinkTree levels words) where
  root_reached : IsReached words 0
  root_reached = (0, refl)

  -- The top of a zone of pages

  module _ (s f n : ℕ) (b : Bool) (z : IsZone levels (Pages s f n b)) where
    -- a row that one of so many entries links, and whose span may cover the zone
    abbrev Next : ℕ → ℕ → Type 0
    Next row count = (r : ℕ) × (l : Links words row r) × (l.index < count) × Spans (Pages s f n b) (place_at words r)

    at_entry : (row i : ℕ) → IsReached words row → i < 512 → ((r : ℕ) × (l : Links words row r) × (l.index ≡ i) × Spans (Pages s f n b) (place_at words r)) ⊎ ((r : ℕ) (l : Links words row r) → l.index ≡ i → ¬ Spans (Pages s f n b) (place_at words r))
    at_entry row i o few = go (is_link (slice_index words (entry_at row i))) refl
      where
        go : (link : Bool) → is_link (slice_index words (entry_at row i)) ≡ link
            → ((r : ℕ) × (l : Links words row r) × (l.index ≡ i) × Spans (Pages s f n b) (place_at words r)) ⊎ ((r : ℕ) (l : Links words row r) → l.index ≡ i → ¬ Spans (Pages s f n b) (place_at words r))
        go false e = inr (λ r l same spans. false≢true (sym e ∙ (ap (λ (j : ℕ). is_link (slice_index words (entry_at row j))) (sym same) ∙ l.link)))
        go true e =
            let child : ℕ = link_row (slice_index words (entry_at row i)) in let l : Links words row child = record { index = i; inside = few; link = e; to_row = refl } in
            let at = one_under words t row child o l in let low = low_level words t child at.not_root at.reached in ⊎_elim
            (λ (spans : Spans (Pages s f n b) (place_at words child)). inl (child, l, refl, spans))
            (λ (no : ¬ Spans (Pages s f n b) (place_at words child)). inr (λ r m same spans.
            no (subst (λ (q : ℕ). Spans (Pages s f n b) (place_at words q)) (sym m.to_row ∙ ap (λ (j : ℕ). link_row (slice_index words (entry_at row j))) same) spans)))
            (may_cover levels s f n b z (place_at words child) (omega arith))

    search_next : (row count : ℕ) → IsReached words row → count ≤ 512 → Next row count ⊎ ((r : ℕ) (l : Links words row r) → l.index < count → ¬ Spans (Pages s f n b) (place_at words r))
    search_next row zero o few = inr (λ r l less. absurd (omega arith))
    search_next row (suc count) o few = ⊎_elim
        (λ (found : Next row count). inl (found.0, found.1, (let less = found.2 in omega arith), found.3))
        (λ (none : (r : ℕ) (l : Links words row r) → l.index < count → ¬ Spans (Pages s f n b) (place_at words r)). ⊎_elim
        (λ (here : (r : ℕ) × (l : Links words row r) × (l.index ≡ count) × Spans (Pages s f n b) (place_at words r)). inl (here.0, here.1, (let same = here.2 in omega arith), here.3))
        (λ (other : (r : ℕ) (l : Links words row r) → l.index ≡ count → ¬ Spans (Pages s f n b) (place_at words r)). inr (λ r l less.
        dite (ℕ_discrete l.index count) (λ e. other r l e) (λ ne. none r l (omega arith))))
        (at_entry row count o (omega arith)))
        (search_next row count o (omega arith))

    -- a row that links none whose span may cover the zone is the top
    last_is_top : (row : ℕ) → IsReached words row → Spans (Pages s f n b) (place_at words row) → ((r : ℕ) (l : Links words row r) → l.index < 512 → ¬ Spans (Pages s f n b) (place_at words r)) → (top : ℕ) × IsTopRow (Pages s f n b) words top
    last_is_top row o spans none = (row, is_top words t s f n b row z o (record { spans = spans; lowest = λ r l. none r l l.inside }))

    go_down : (m row : ℕ) → level_at words row ≤ m → IsReached words row → Spans (Pages s f n b) (place_at words row) → (top : ℕ) × IsTopRow (Pages s f n b) words top
    go_down zero row low o spans = ⊎_elim
        (λ (next : Next row 512). let at = one_under words t row next.0 o next.1 in let less = at.level in absurd (omega arith))
        (last_is_top row o spans) (search_next row 512 o (omega arith))
    go_down (suc m) row low o spans = ⊎_elim
        (λ (next : Next row 512). let at = one_under words t row next.0 o next.1 in go_down m next.0 (let less = at.level in omega arith) at.reached next.3)
        (last_is_top row o spans) (search_next row 512 o (omega arith))

    root_spans : Spans (Pages s f n b) (place_at words 0)
    root_spans = subst (Spans (Pages s f n b)) (sym t.top) (record {
      all = λ space page has. refl;
      greater = λ strict lies. let low = (lies s 0 refl).1 in let least = user_first levels f n z.2 in omega arith;
    })

    pub has_top : (top : ℕ) × IsTopRow (Pages s f n b) words top
    has_top = go_down (level_at words 0) 0 (omega arith) root_reached root_spans

  pub one_top_alone : (s f n : ℕ) (b : Bool) → IsZone levels (Pages s f n b) → HasOneTop (Pages s f n b) words
  one_top_alone s f n b z = let top = has_top s f n b z in record { top = top.0; is_top = top.1; only = λ row h. one_top words t s f n b row top.0 z h top.1 }

  -- The cover of an absent space

  -- no row below row 0 has a page of it
  absent_row : (s x r : ℕ) → IsAbsent words s → IsReached words r → has_page (place_at words r) s x ≡ true → r ≡ 0
  absent_row s x r absent o h = ⊎_elim (λ (e : r ≡ 0). e) (λ (way : IsBelow words 0 r). absurd (no_way way))
      (below_or_same words t 0 r s x root_reached o (at_most r o) (ap (λ (p : Place). has_page p s x) t.top) h)
    where
      at_most : (r : ℕ) → IsReached words r → level_at words r ≤ level_at words 0
      at_most r o = let top = top_level words t in dite (ℕ_discrete r 0) (λ e. let same = ap (level_at words) e in omega arith) (λ ne. let low = low_level words t r ne o in omega arith)

      no_way : IsBelow words 0 r → ⊥
      no_way way =
          let child = first_link words t 0 r root_reached way in let l = child.1 in
          let place : place_at words child.0 ≡ root levels l.index = (t.leads 0 child.0 root_reached l).1 ∙ ap (λ (p : Place). entry_place levels p l.index) t.top in
          let same : l.index ≡ s = (page_parts (root levels l.index) s x (omega arith) (ap (λ (p : Place). has_page p s x) (sym place) ∙ child.2 s x h)).0 in
          false≢true (sym absent ∙ (ap (λ (i : ℕ). is_link (slice_index words (entry_at 0 i))) (sym same) ∙ l.link))

  pub absent_cover : (zone : Zone) (space page : ℕ) → IsZone levels zone → ZoneHas zone space page → IsAbsent words space → (row : ℕ) → IsInCover zone words row ↔ (row ≡ 0)
  absent_cover (Pages s f n b) space page z has absent row = (λ cover. there cover.0 cover.1 cover.2, λ e. let top = has_top s f n b z in (top.0, top.1, inl (e ∙ sym (top_root top.0 top.1))))
    where
      top_root : (top : ℕ) → IsTopRow (Pages s f n b) words top → top ≡ 0
      top_root top h = absent_row space page top absent h.reached (h.spans.all space page has)

      there : (top : ℕ) → IsTopRow (Pages s f n b) words top → (row ≡ top) ⊎ (IsBelow words top row × Meets (Pages s f n b) (place_at words row)) → row ≡ 0
      there top h (inl e) = e ∙ top_root top h
      there top h (inr way) = let m = way.1 in
          absent_row space m.page row absent (under words t top row h.reached way.0).reached (ap (λ (i : ℕ). has_page (place_at words row) i m.page) (has.0 ∙ sym m.of_zone.0) ∙ m.of_span)
  absent_cover (Space s) space page z has absent row = (there, inl)
    where
      there : (row ≡ 0) ⊎ (IsReached words row × ((place_at words row).space ≡ s)) → row ≡ 0
      there (inl e) = e
      there (inr at) = dite (ℕ_discrete row 0) (λ e. e) (λ ne. let low = low_level words t row ne at.0 in
          absent_row space (span_first (place_at words row)) row absent at.0
          (ap (λ (i : ℕ). has_page (place_at words row) i (span_first (place_at words row))) (has ∙ sym at.1) ∙ first_page (place_at words row) (omega arith)))
  absent_cover Directory space page z has absent row = absurd has

  -- a row of the cover whose span has the page; the cover has each row with the page whose level is not above this row's
  pub record IsFullTo (zone : Zone) (space page row : ℕ) : Type 0 where
    pub reached : IsReached words row
    pub has : has_page (place_at words row) space page ≡ true
    pub full : (r : ℕ) → IsReached words r → level_at words r ≤ level_at words row → has_page (place_at words r) space page ≡ true → IsInCover zone words r

  pub full_to : (zone : Zone) (space page : ℕ) → IsZone levels zone → ZoneHas zone space page → (row : ℕ) × IsFullTo zone space page row
  full_to (Pages s f n b) space page z has = let top = has_top s f n b z in let h = top.1 in (
    top.0,
    record {
      reached = h.reached;
      has = h.spans.all space page has;
      full = λ r o low k. (
        top.0,
        h,
        ⊎_elim
            (λ (e : r ≡ top.0). inl e)
            (λ (way : IsBelow words top.0 r). inr (way, record { space = space; page = page; of_zone = has; of_span = k }))
            (below_or_same words t top.0 r space page h.reached o low (h.spans.all space page has) k),
      );
    },
  )
  full_to (Space s) space page z has = (
    0,
    record {
      reached = root_reached;
      has = ap (λ (p : Place). has_page p space page) t.top;
      full = λ r o low k. dite (ℕ_discrete r 0) (λ e. inl e)
          (λ ne. let at = low_level words t r ne o in inr (o, (page_parts (place_at words r) space page (omega arith) k).0 ∙ has));
    },
  )
  full_to Directory space page z has = absurd has
