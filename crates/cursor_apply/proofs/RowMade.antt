-- A row of which some entries are changed agrees with the state afterwards.
--     may_make      a row that agrees may be changed
--     row_made      and agrees then
use Rattle.std.specs.Prelude.{◌≡◌, ◌≢◌, ℕ, ◌+◌, ◌-◌, ◌*◌, ◌^◌, ◌<◌, ◌≤◌, ◌⊎◌, ◌&&◌, Bool, true, false, cond, not, nat_eq, nat_le, nat_lt, List, map, length, slice_get, slice_index, Option, Some}
use Rattle.std.specs.List.{Contains}
use Rattle.std.specs.FinSet as set
use Rattle.std.specs.FinSet.{FinSet}
use Rattle.std.proofs.Common.{sym, refl, ◌∙◌, ap, subst, arith, inl, inr, eq-eqb, mul-one}
use Rattle.std.proofs.lemmas.Bool.{true≢false, false≢true, leb-true, leb-false, ltb-true, ltb-false}
use mathlib.Core.Logic.{dite}
use native.Mathlib.Decide.{ℕ_discrete}
use Rattle.page_map.specs.State.{State, levels, cell_at}
use Rattle.row_cells.specs.declared.Cell.{Cell}
use Rattle.row_cells.specs.declared.Cell.TheVariants.{Invalid, Table, Anon, File, Mapped, Swapped}
use Rattle.row_table.specs.declared.view.PassView.{PassView}
use Rattle.row_table.specs.declared.view.HeldRow.{HeldRow as KnownRow}
use Rattle.row_table.specs.Moves.{NotInHand}
use Rattle.walk_core.proofs.RowLists.{in_map}
use Rattle.table_place.specs.declared.Place.{Place}
use Rattle.table_place.specs.Place.{root, directory, has_page, span_first, span_count, place_cmp}
use Rattle.table_place.specs.Range.{within}
use Rattle.table_place.proofs.Entries.{below_is, level_of, page_parts}
use Rattle.table_place.proofs.Tables.{in_range}
use Rattle.walk_core.specs.Words.{is_link}
use Rattle.machine_plan.specs.Agrees.{below, HasBytes, IsTableOf, IsNoTable, Shows, Spells}
use Rattle.machine_plan.specs.Books.{BookData, state_of}
use Rattle.machine_plan.specs.HeldRows.{Row, is_table}
use Rattle.machine_plan.proofs.Covering.{cell_there}
use Rattle.cursor_detach.specs.Cutting.{with_words}
use Rattle.cursor_detach.specs.Left.{came_from, drawn_cell}
use Rattle.cursor_apply.specs.declared.becoming.Making.{Making}
use Rattle.cursor_apply.specs.declared.becoming.Making.TheVariants.{Back, Clear, Permit, GiveBack}
use Rattle.cursor_apply.specs.declared.becoming.RangeChange.{RangeChange}
use Rattle.corten_base.specs.declared.permissions.Perm.{Perm}
use Rattle.corten_base.specs.declared.calls.Backing.{Backing}
use Rattle.corten_base.specs.declared.calls.Backing.TheVariants as backing
use Rattle.cursor_apply.specs.Changing.{mark_from, cell_made, word_made, behind_at, pages_before, IsSmall, IsPart, IsInside, IsMade, MayMake, Passing, Makes}
use Rattle.cursor_apply.specs.Changed.{IsOld, IsLow, IsEntryOf, IsRowOf, LiesIn, IsChange, clean}
use Rattle.cursor_apply.proofs.Words.{made_small, made_no_table, word_spells, spelled_no_link}
use Rattle.cursor_apply.proofs.Marks.{no_table_there, shows_same, shows_made}

pub in_part : (from to index : ℕ) → ((from ≤ index) × (index < to)) ⊎ (from ≤ index → index < to → ⊥)
in_part from to index = go (nat_le from index) refl (nat_lt index to) refl
  where
    go : (s : Bool) → nat_le from index ≡ s → (t : Bool) → nat_lt index to ≡ t → ((from ≤ index) × (index < to)) ⊎ (from ≤ index → index < to → ⊥)
    go true e true f = inl (leb-true from index e, ltb-true index to f)
    go false e t f = inr (λ ge lt. let less = leb-false from index e in omega arith)
    go true e false f = inr (λ ge lt. let more = ltb-false index to f in omega arith)

-- a page is its own span
pub one_page : (first count : ℕ) (q : Place) → q.level ≡ 0 → (first ≤ q.prefix) × (q.prefix < first + count) → LiesIn q first count
one_page first count q zero both =
    let s : span_count q ≡ 1 = ap (λ k. 512 ^ k) zero in
    let f : span_first q ≡ q.prefix = ap (λ n. q.prefix * n) s ∙ mul-one q.prefix in
    (subst (λ n. first ≤ n) (sym f) both.0, (let l = both.1 in omega arith))

-- ---- what a change keeps of a cell

mark_low : (b : Backing) (perm : Perm) (behind : ℕ) → IsLow (mark_from b perm behind)
mark_low backing.Zero perm behind = tt
mark_low (backing.File file index) perm behind = tt

origin_low : (origin : Backing) (perm : Perm) → IsLow (came_from origin perm)
origin_low backing.Zero perm = tt
origin_low (backing.File file index) perm = tt

pub made_low : (making : Making) (behind : ℕ) (cell : Cell) → IsLow cell → IsLow (cell_made making behind cell)
made_low (Back perm b) behind cell low = mark_low b perm behind
made_low Clear behind cell low = tt
made_low (Permit perm) behind Invalid low = tt
made_low (Permit perm) behind Table low = tt
made_low (Permit perm) behind (Anon old) low = tt
made_low (Permit perm) behind (File old file index) low = tt
made_low (Permit perm) behind (Mapped old origin frame) low = low
made_low (Permit perm) behind (Swapped old origin slot) low = low
made_low GiveBack behind Invalid low = tt
made_low GiveBack behind Table low = tt
made_low GiveBack behind (Anon old) low = tt
made_low GiveBack behind (File old file index) low = tt
made_low GiveBack behind (Mapped old origin frame) low = origin_low origin old
made_low GiveBack behind (Swapped old origin slot) low = origin_low origin old

module _ (b : BookData) where
  mark_kept : (back : Backing) (perm : Perm) (behind : ℕ) → HasBytes b (mark_from back perm behind)
  mark_kept backing.Zero perm behind = tt
  mark_kept (backing.File file index) perm behind = tt

  origin_kept : (origin : Backing) (perm : Perm) → HasBytes b (came_from origin perm)
  origin_kept backing.Zero perm = tt
  origin_kept (backing.File file index) perm = tt

  pub made_kept : (making : Making) (behind : ℕ) (cell : Cell) → HasBytes b cell → HasBytes b (cell_made making behind cell)
  made_kept (Back perm back) behind cell kept = mark_kept back perm behind
  made_kept Clear behind cell kept = tt
  made_kept (Permit perm) behind Invalid kept = tt
  made_kept (Permit perm) behind Table kept = tt
  made_kept (Permit perm) behind (Anon old) kept = tt
  made_kept (Permit perm) behind (File old file index) kept = tt
  made_kept (Permit perm) behind (Mapped old origin frame) kept = kept
  made_kept (Permit perm) behind (Swapped old origin slot) kept = kept
  made_kept GiveBack behind Invalid kept = tt
  made_kept GiveBack behind Table kept = tt
  made_kept GiveBack behind (Anon old) kept = tt
  made_kept GiveBack behind (File old file index) kept = tt
  made_kept GiveBack behind (Mapped old origin frame) kept = origin_kept origin old
  made_kept GiveBack behind (Swapped old origin slot) kept = origin_kept origin old

-- a cell above level 1 that is no link has no word
no_word : (st bs : State) (q : Place) (cell : Cell) (word : ℕ) → 1 ≤ q.level → is_table cell ≡ false → Shows st q cell → Spells bs cell word → word ≡ 0
no_word st bs q Invalid word high none shows spells = spells
no_word st bs q Table word high none shows spells = absurd (true≢false none)
no_word st bs q (Anon perm) word high none shows spells = spells
no_word st bs q (File perm file index) word high none shows spells = spells
no_word st bs q (Mapped perm origin frame) word high none shows spells = absurd (omega (arith, shows.1))
no_word st bs q (Swapped perm origin slot) word high none shows spells = spells

-- and such a cell may stand beside none
high_spells : (st bs : State) (q : Place) (cell : Cell) → 1 ≤ q.level → is_table cell ≡ false → Shows st q cell → Spells bs cell 0
high_spells st bs q Invalid high none shows = refl
high_spells st bs q Table high none shows = absurd (true≢false none)
high_spells st bs q (Anon perm) high none shows = refl
high_spells st bs q (File perm file index) high none shows = refl
high_spells st bs q (Mapped perm origin frame) high none shows = absurd (omega (arith, shows.1))
high_spells st bs q (Swapped perm origin slot) high none shows = refl

pub free_entry : (b : BookData) (st : State) (is_old : ℕ → Bool) (q : Place) (word : ℕ) (cell : Cell) → IsEntryOf b st is_old q word cell → is_table cell ≡ false → (is_link word ≡ false) × IsSmall cell
free_entry b st is_old q word cell is none = elim is.spells [
  | inl spells ↦ (spelled_no_link (state_of b) cell word none is.small spells, is.small)
  | inr old ↦ (old.no_link, is.small)
]

-- ---- one entry

module _ (b : BookData) (change : RangeChange) (space : ℕ) (st now : State) (is : IsChange change space st now) (is_old : ℕ → Bool) (q : Place) where
  abbrev is_old' : ℕ → Bool
  is_old' = clean change.first change.count is_old

  -- whose pages all lie in the range
  module _ (word word' : ℕ) (was : Cell) (low : q.level < 6) (of_space : q.space ≡ space) (lies : LiesIn q change.first change.count) (none : is_table was ≡ false) (e : IsEntryOf b st is_old q word was) where
    abbrev behind : ℕ
    behind = span_first q - change.first

    abbrev new : Cell
    new = cell_made change.making behind was

    none_now : is_table new ≡ false
    none_now = made_no_table change.making behind was none

    shows_new : Shows now q new
    shows_new = shows_made change space st now is q low of_space lies was none e.low e.shows

    zero_word : 1 ≤ q.level → word ≡ 0
    zero_word high = elim e.spells [
      | inl spells ↦ no_word st (state_of b) q was word high none e.shows spells
      | inr old ↦ absurd (let zero = old.low in omega arith)
    ]

    more : (n : ℕ) → (n ≡ 0 → ⊥) → 1 ≤ n
    more n ne = omega arith

    entry_made : (q.level ≡ 0 → word' ≡ word_made new) → (1 ≤ q.level → word' ≡ word) → IsEntryOf b now is_old' q word' new
    entry_made at_page above = record {
      shows = shows_new;
      spells = inl (dite (ℕ_discrete q.level 0)
          (λ zero. subst (Spells (state_of b) new) (sym (at_page zero)) (word_spells (state_of b) new none_now))
          (λ ne. let high : 1 ≤ q.level = more q.level ne in
          subst (Spells (state_of b) new) (sym (above high ∙ zero_word high)) (high_spells now (state_of b) q new high none_now shows_new)));
      kept = made_kept b change.making behind was e.kept;
      small = made_small change.making behind was e.small;
      low = made_low change.making behind was e.low;
    }

  -- that is a link, or of whose pages none is changed
  entry_kept : (word : ℕ) (cell : Cell) → (is_table cell ≡ false → (s p : ℕ) → has_page q s p ≡ true → cell_at now s p ≡ cell_at st s p) → (is_table cell ≡ false → q.level ≡ 0 → within change.first change.count q.prefix ≡ false)
      → IsEntryOf b st is_old q word cell → IsEntryOf b now is_old' q word cell
  entry_kept word cell same apart e = record {
    shows = shows_same st now q is.same_tables cell same e.shows;
    spells = elim e.spells [
      | inl spells ↦ inl spells
      | inr old ↦ inr (record {
        low = old.low;
        old = ap (λ t. is_old q.prefix && not t) (apart old.no_table old.low) ∙ and_true (is_old q.prefix) ∙ old.old;
        no_link = old.no_link;
        no_table = old.no_table;
      })
    ];
    kept = e.kept;
    small = e.small;
    low = e.low;
  }
    where
      and_true : (t : Bool) → (t && true) ≡ t
      and_true true = refl
      and_true false = refl

-- ---- a row

module _ {B E : Type 0} (b : BookData) (change : RangeChange) (space : ℕ) (st now : State) (is : IsChange change space st now) (is_old : ℕ → Bool) where
  pub may_make : (v : PassView (List Cell) B E) (x : Row) → ((h : KnownRow (List Cell)) → Contains v.rows h → length h.words ≡ 512) → NotInHand v x.row
      → ((h k : KnownRow (List Cell)) → Contains v.rows h → Contains v.rows k → h.row ≡ k.row → h ≡ k) → IsRowOf b st is_old v.rows x → MayMake x.row x.place x.content v
  may_make v x whole linked one r = record {
    known = r.row;
    held = r.held;
    same_row = r.same_row;
    same_place = r.same_place;
    only = λ h has same. one h r.row has r.held (same ∙ sym r.same_row);
    linked = linked;
    whole = r.whole;
    long = whole r.row r.held;
    free = λ index cell inside there none. free_entry b st is_old (below (levels st) x.place index) (slice_index r.row.words index) cell (r.entries index cell inside there) none;
  }

  module _ (v w : PassView (List Cell) B E) (x : Row) (content : List Cell) (r : IsRowOf b st is_old v.rows x) (m : Makes change x.row x.place v x.content w content)
      (one : (h k : KnownRow (List Cell)) → Contains v.rows h → Contains v.rows k → h.row ≡ k.row → h ≡ k) (of_space : x.place.level < 6 → x.place.space ≡ space) where
    abbrev first : ℕ
    first = change.first

    abbrev count : ℕ
    count = change.count

    abbrev p : Passing change.making first x.place x.row m.from m.to v x.content w content
    p = m.passing

    same_known : p.may.known ≡ r.row
    same_known = one p.may.known r.row p.may.held r.held (p.may.same_row ∙ sym r.same_row)

    abbrev row_now : KnownRow (List Cell)
    row_now = record p.may.known { words = p.words }

    row_there : Contains w.rows row_now
    row_there = subst (λ (u : PassView (List Cell) B E). Contains u.rows row_now) (sym p.view)
        (subst (Contains (map (with_words x.row p.words) v.rows)) (ap (λ t. cond t row_now p.may.known) (eq-eqb p.may.known.row x.row p.may.same_row)) (in_map (with_words x.row p.words) v.rows p.may.known p.may.held))

    deep : x.place.level < 6 → 1 ≤ x.place.level
    deep low = go r.table
      where
        go : IsTableOf st x.place → 1 ≤ x.place.level
        go (inl top) = omega (arith, ap (λ (z : Place). z.level) top)
        go (inr there) = (level_of (levels st) x.place (is.places x.place there)).0

    module _ (index : ℕ) (inside : index < 512) where
      abbrev q : Place
      q = below (levels st) x.place index

      was : (c : Cell) × (slice_get x.content index ≡ Some c)
      was = cell_there x.content index (subst (λ n. index < n) (sym r.whole) inside)

      old_word : slice_index p.may.known.words index ≡ slice_index r.row.words index
      old_word = ap (λ (h : KnownRow (List Cell)). slice_index h.words index) same_known

      entry_was : IsEntryOf b st is_old q (slice_index p.may.known.words index) was.0
      entry_was = subst (λ n. IsEntryOf b st is_old q n was.0) (sym old_word) (r.entries index was.0 inside was.1)

      module _ (low : x.place.level < 6) where
        is_below : q ≡ record { space = x.place.space; level = x.place.level - 1; prefix = 512 * x.place.prefix + index }
        is_below = below_is (levels st) x.place index low

        first_of : span_first q ≡ pages_before x.place index
        first_of = ap span_first is_below

        end_of : span_first q + span_count q ≡ pages_before x.place (index + 1)
        end_of = ap (λ (z : Place). span_first z + span_count z) is_below ∙ one_more (512 * x.place.prefix) (512 ^ (x.place.level - 1))
          where
            one_more : (a s : ℕ) → (a + index) * s + s ≡ (a + (index + 1)) * s
            one_more a s = omega arith

        lies : IsInside x.place first count index → LiesIn q first count
        lies h = (subst (λ n. first ≤ n) (sym first_of) h.0, subst (λ n. n ≤ first + count) (sym end_of) h.1)

        lies_back : LiesIn q first count → IsInside x.place first count index
        lies_back h = (subst (λ n. first ≤ n) first_of h.0, subst (λ n. n ≤ first + count) end_of h.1)

        level_is : q.level ≡ x.place.level - 1
        level_is = ap (λ (z : Place). z.level) is_below

        space_is : q.space ≡ space
        space_is = ap (λ (z : Place). z.space) is_below ∙ of_space low

      -- in the part
      changed_entry : (cell : Cell) → m.from ≤ index → index < m.to → slice_get content index ≡ Some cell → IsEntryOf b now (clean first count is_old) q (slice_index p.words index) cell
      changed_entry cell ge lt at = go (is_table was.0) refl
        where
          low : x.place.level < 6
          low = m.part.low (omega (arith, ge, lt))

          made : IsMade change.making (behind_at first x.place index) x.place.level was.0 (slice_index p.may.known.words index) (slice_get content index) (slice_index p.words index)
          made = p.done index was.0 ge lt inside was.1

          same_behind : behind_at first x.place index ≡ span_first q - first
          same_behind = ap (λ n. n - first) (sym (first_of low))

          go : (t : Bool) → is_table was.0 ≡ t → IsEntryOf b now (clean first count is_old) q (slice_index p.words index) cell
          go true e =
              let same : was.0 ≡ cell = (let both : Some was.0 ≡ Some cell = sym (made.link e).0 ∙ at in cc) in
              subst (IsEntryOf b now (clean first count is_old) q (slice_index p.words index)) same
              (subst (λ n. IsEntryOf b now (clean first count is_old) q n was.0) (sym (made.link e).1)
              (entry_kept b change space st now is is_old q (slice_index p.may.known.words index) was.0 (λ none. absurd (true≢false (sym e ∙ none))) (λ none. absurd (true≢false (sym e ∙ none))) entry_was))
          go false e =
              let new : Cell = cell_made change.making (span_first q - first) was.0 in
              let same : new ≡ cell = (let both : Some new ≡ Some cell = ap (λ n. Some (cell_made change.making n was.0)) (sym same_behind) ∙ (sym (made.made e) ∙ at) in cc) in
              subst (IsEntryOf b now (clean first count is_old) q (slice_index p.words index)) same
              (entry_made b change space st now is is_old q (slice_index p.may.known.words index) (slice_index p.words index) was.0
              (let l = level_is low in omega arith) (space_is low) (lies low (m.part.inside index ge lt)) e entry_was
              (λ zero. made.leaf e (let l = level_is low in let d = deep low in omega arith) ∙ ap (λ n. word_made (cell_made change.making n was.0)) same_behind)
              (λ high. made.above e (λ z. let l = level_is low in omega arith)))

      -- beside it
      kept_entry : (cell : Cell) → (m.from ≤ index → index < m.to → ⊥) → slice_get content index ≡ Some cell → IsEntryOf b now (clean first count is_old) q (slice_index p.words index) cell
      kept_entry cell never at =
          let k = p.kept index inside never in
          let same : was.0 ≡ cell = (let both : Some was.0 ≡ Some cell = sym was.1 ∙ (sym k.0 ∙ at) in cc) in
          subst (IsEntryOf b now (clean first count is_old) q (slice_index p.words index)) same
          (subst (λ n. IsEntryOf b now (clean first count is_old) q n was.0) (sym k.1)
          (entry_kept b change space st now is is_old q (slice_index p.may.known.words index) was.0 same_pages apart entry_was))
        where
          by_level : (P : Type 0) → (x.place.level < 6 → P) → (x.place ≡ directory → P) → P
          by_level P below_it top_it = go r.table
            where
              go : IsTableOf st x.place → P
              go (inl top) = top_it top
              go (inr there) = below_it (let l = level_of (levels st) x.place (is.places x.place there) in let f = is.few_levels in omega (arith, l.1))

          outside : x.place.level < 6 → LiesIn q first count → ⊥
          outside low h = m.part.outside index inside low never (lies_back low h)

          same_pages : is_table was.0 ≡ false → (s n : ℕ) → has_page q s n ≡ true → cell_at now s n ≡ cell_at st s n
          same_pages none s n has = by_level (cell_at now s n ≡ cell_at st s n) at_low at_top
            where
              no_table : IsNoTable st q
              no_table = no_table_there st q was.0 none entry_was.shows

              shallow : x.place.level < 6 → q.level < levels st
              shallow low = go r.table
                where
                  go : IsTableOf st x.place → q.level < levels st
                  go (inl top) = absurd (let e = ap (λ (z : Place). z.level) top in omega arith)
                  go (inr there) = let d = level_of (levels st) x.place (is.places x.place there) in let l = level_is low in omega (arith, d.0, d.1)

              at_low : x.place.level < 6 → cell_at now s n ≡ cell_at st s n
              at_low low =
                  let same : space ≡ s = sym (space_is low) ∙ (page_parts q s n (let l = level_is low in omega arith) has).0 in
                  subst (λ z. cell_at now z n ≡ cell_at st z n) same (is.edges q (space_is low) (shallow low) no_table (outside low) n (subst (λ z. has_page q z n ≡ true) (sym same) has))

              at_top : x.place ≡ directory → cell_at now s n ≡ cell_at st s n
              at_top top = is.others s n (λ here.
                  let q_is : q ≡ root (levels st) index = ap (λ (z : Place). below (levels st) z index) top in
                  let of : index ≡ s = (page_parts (root (levels st) index) s n is.few_levels (subst (λ (z : Place). has_page z s n ≡ true) q_is has)).0 in
                  let there : set.contains st.tables q ≡ true = ap (set.contains st.tables) (q_is ∙ ap (root (levels st)) (of ∙ here)) ∙ is.top in
                  absurd (false≢true (sym no_table ∙ there)))

          apart : is_table was.0 ≡ false → q.level ≡ 0 → within first count q.prefix ≡ false
          apart none zero = by_level (within first count q.prefix ≡ false) at_low at_top
            where
              at_low : x.place.level < 6 → within first count q.prefix ≡ false
              at_low low = go (within first count q.prefix) refl
                where
                  go : (t : Bool) → within first count q.prefix ≡ t → t ≡ false
                  go false e = refl
                  go true e = absurd (outside low (one_page first count q zero (in_range first count q.prefix e)))

              at_top : x.place ≡ directory → within first count q.prefix ≡ false
              at_top top = absurd (let l : q.level ≡ levels st = ap (λ (z : Place). (below (levels st) z index).level) top in let d = (level_of (levels st) (root (levels st) space) (is.places (root (levels st) space) is.top)).0 in omega arith)

    pub row_made : IsRowOf b now (clean first count is_old) w.rows (record x { content = content })
    row_made = record {
      row = row_now;
      held = row_there;
      same_row = p.may.same_row;
      same_place = p.may.same_place;
      table = table_now r.table;
      whole = p.whole;
      entries = λ index cell inside at. subst (λ l. IsEntryOf b now (clean first count is_old) (below l x.place index) (slice_index p.words index) cell) (sym is.same_levels) (by_part index inside cell at);
    }
      where
        table_now : IsTableOf st x.place → IsTableOf now x.place
        table_now (inl top) = inl top
        table_now (inr there) = inr (ap (λ (t : FinSet place_cmp). set.contains t x.place) is.same_tables ∙ there)

        by_part : (index : ℕ) (inside : index < 512) (cell : Cell) → slice_get content index ≡ Some cell → IsEntryOf b now (clean first count is_old) (below (levels st) x.place index) (slice_index p.words index) cell
        by_part index inside cell at = elim (in_part m.from m.to index) [
          | inl both ↦ changed_entry index inside cell both.0 both.1 at
          | inr never ↦ kept_entry index inside cell never at
        ]
