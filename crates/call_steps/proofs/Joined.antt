-- From the give to the apply.
--     may_detach      the rows that a plan left may be detached after the commit
--     may_apply      what detach and give leave is what an apply asks
--     may_link      and what it asks further of a call that was granted rows
use Rattle.std.specs.Prelude.{◌≡◌, ℕ, ◌+◌, ◌*◌, ◌<◌, ◌≤◌, ◌&&◌, not, Bool, false, cond, List, [], ◌++◌, map, length, nat_eq, slice_index, is_none, Some, None, IsNone}
use Rattle.std.specs.List.{Contains, range_with_len}
use Rattle.std.proofs.Common.{sym, refl, ◌∙◌, ap, subst, arith, inl}
use Rattle.std.proofs.lemmas.List.{map-append}
use Rattle.corten_base.specs.declared.calls.Call.{Call}
use Rattle.page_map.specs.Effect.{space_of}
use Rattle.page_map.specs.Step.{arguments}
use Rattle.row_cells.specs.declared.Cell.{Cell}
use Rattle.row_table.specs.declared.view.HandRow.{HandRow}
use Rattle.row_table.specs.declared.view.HeldRow.{HeldRow as KnownRow}
use Rattle.row_table.specs.Books.{given, hand_rows, taken_rows, put_list, Gives}
use Rattle.row_table.specs.Moves.{NotInHand}
use Rattle.row_table.specs.Rule.{SameRows, row_part}
use Rattle.row_table.specs.Vacant.{vacant_entries}
use Rattle.row_table.proofs.Turns.{contained_map, same_parts, whole}
use Rattle.row_table.proofs.Views.{has_row}
use Rattle.table_place.specs.declared.Place.{Place}
use Rattle.tree_lock.specs.Linked.{ShowsCover}
use Rattle.tree_lock.specs.Release.{HoldsExactly}
use Rattle.walk_core.specs.declared.pass.GrantedRow.{GrantedRow}
use Rattle.walk_core.specs.declared.pass.UnlinkedRow.{UnlinkedRow}
use Rattle.walk_core.specs.Core.{granted_rows, unlinked_rows}
use Rattle.walk_core.specs.Events.{newly_granted}
use Rattle.walk_core.specs.Lists.{times, Has, among, minus}
use Rattle.walk_core.specs.Words.{is_link}
use Rattle.walk_core.proofs.RowLists.{times-filter, times-append, in_map, has_contained, range_above}
use Rattle.epoch_grace.proofs.Gives.{map_filter, minus_le}
use Rattle.machine_plan.specs.declared.kit.Kit.{Kit}
use Rattle.machine_plan.specs.Books.{BookData, state_of}
use Rattle.machine_plan.specs.Cover.{HasCover, HasLevelsOf}
use Rattle.machine_plan.specs.Follows.{machine}
use Rattle.machine_plan.specs.Held.{AllGiven, ListHolds}
use Rattle.machine_plan.specs.HeldRows.{Row, AreOf}
use Rattle.machine_plan.specs.Uses.{uses_page, zone_of}
use Rattle.machine_plan.specs.Whole.{IsBook}
use Rattle.machine_plan.proofs.Holding.{give_gives_all}
use Rattle.machine_plan.proofs.Whole.{book_is_consistent}
use Rattle.cursor_detach.specs.Left.{drawn_cell, IsCommitted, AreLeft}
use Rattle.cursor_detach.specs.Detaching.{IsDetachable, Detached}
use Rattle.cursor_apply.specs.Applying.{hand_row, IsApplicable}
use Rattle.call_steps.specs.Ready.{View, KeepsRows}

-- ---- the detach

pub may_detach : (m b : BookData) (thread : ℕ) (c : Call) (v : View) (rows : List Row) (kit : Kit) → thread < 8 → IsBook m → HasLevelsOf m v → HoldsExactly rows v.core.held v.rows → AreLeft m m thread c kit v rows → ((s : ℕ) → space_of c ≡ Some s → AreOf s rows) → length rows ≤ 1024
    → (IsNone (arguments (state_of m) c) → ShowsCover v.layout (zone_of thread c) v × HasCover (zone_of thread c) (state_of m) (ListHolds rows)) → IsCommitted m b thread c kit → IsDetachable m b thread c v rows kit
may_detach m b thread c v rows kit few is same exact left space few_rows cover committed = record {
  exact = exact;
  rows_left = left;
  links = λ none h has. (cover none).0.covers.links h has;
  cover = λ none. (cover none).1;
  one_space = space;
  few_rows = few_rows;
  consistent = book_is_consistent m is;
  same_levels = same;
  few = few;
  committed = committed;
}

-- ---- the pass after the give

-- d: the pass after the detach. e: with samples. w: after the give of g, of which old was found
module _ (d e w : View) (old g : BookData) (generation : ℕ → ℕ) (keeps : KeepsRows d e) (after : w ≡ Rattle.row_table.specs.Books.gave machine e old g generation) where
  abbrev taken : List ℕ
  taken = taken_rows machine old g

  rows_are : w.rows ≡ map given d.rows
  rows_are = ap (λ (u : View). u.rows) after ∙ ap (map given) keeps.rows

  held_is : w.core.held ≡ d.core.held
  held_is = ap (λ (u : View). u.core.held) after ∙ keeps.held

  pub layout_is : w.layout ≡ d.layout
  layout_is = ap (λ (u : View). u.layout) after ∙ keeps.layout

  granted_are : granted_rows w.core ≡ granted_rows d.core ++ taken
  granted_are = ap (λ (u : View). granted_rows u.core) after ∙ (map-append (λ (x : GrantedRow). x.row) e.core.granted (map newly_granted taken)
      ∙ (λ i. map (λ (x : GrantedRow). x.row) (keeps.granted i) ++ (same_parts newly_granted (λ (x : GrantedRow). x.row) (λ (r : ℕ). r) (λ r. refl) taken ∙ whole taken) i))

  unlinked_are : unlinked_rows w.core ≡ minus (map (λ k. k.row) (put_list machine old g)) (unlinked_rows d.core)
  unlinked_are = ap (λ (u : View). unlinked_rows u.core) after
      ∙ (map_filter (λ (y : UnlinkedRow). y.row) (λ r. not (among (map (λ k. k.row) (put_list machine old g)) r)) e.core.unlinked
      ∙ ap (minus (map (λ k. k.row) (put_list machine old g))) keeps.unlinked)

  hand_is : map hand_row w.hand ≡ map hand_row d.hand ++ taken
  hand_is = ap (λ (u : View). map hand_row u.hand) after ∙ (map-append hand_row e.hand (hand_rows machine generation old g taken)
      ∙ (λ i. map hand_row (keeps.hand i) ++ (same_parts (λ (r : ℕ). record { row = r; generation = generation r; low = old.next_generation; high = g.next_generation; place = None }) hand_row (λ (r : ℕ). r) (λ r. refl) taken ∙ whole taken) i))

  pub exact_given : (rows : List Row) → HoldsExactly rows d.core.held d.rows → HoldsExactly rows w.core.held w.rows
  exact_given rows exact = record {
    held = λ r. exact.held r ∙ ap (times r) (sym held_is);
    shown = ap (map row_part) rows_are ∙ (same_parts given row_part row_part (λ h. refl) d.rows ∙ (exact.shown ∙ sym held_is));
  }

  pub not_in_hand : (r : ℕ) → times r taken ≡ 0 → NotInHand d r → NotInHand w r
  not_in_hand r none linked =
      let a = ap (times r) granted_are ∙ times-append r (granted_rows d.core) taken in
      let b = ap (times r) unlinked_are in
      let l = minus_le (map (λ k. k.row) (put_list machine old g)) (unlinked_rows d.core) r in
      omega (arith, a, b, l, none, linked)

  known_given : (h : KnownRow (List Cell)) → Contains d.rows h → Contains w.rows (given h)
  known_given h has = subst (λ (l : List (KnownRow (List Cell))). Contains l (given h)) (sym rows_are) (in_map given d.rows h has)

  pub left_given : (m b : BookData) (thread : ℕ) (c : Call) (kit kit' : Kit) (rows : List Row) → kit' ≡ record kit { gone = kit'.gone } → ((r : ℕ) → Has d.core.held r → times r taken ≡ 0) → HoldsExactly rows d.core.held d.rows → AreLeft m b thread c kit d rows → AreLeft m b thread c kit' w rows
  left_given m b thread c kit kit' rows same apart exact left x has =
      let l = left x has in
      let early : kit'.early ≡ kit.early = ap (λ (k : Kit). k.early) same in
      record {
        known = given l.known;
        held = known_given l.known l.held;
        same_row = l.same_row;
        same_place = l.same_place;
        linked = not_in_hand x.row (apart x.row (subst (λ (r : ℕ). Has d.core.held r) l.same_row (subst (λ (rs : List ℕ). Has rs l.known.row) exact.shown (has_row d.rows l.known l.held)))) l.linked;
        old_words = l.old_words;
        old_cells = l.old_cells;
        agreed = l.agreed;
        whole = l.whole;
        cut = l.cut;
        word = l.word;
        cell = λ index cell inside stays there. l.cell index cell inside stays there
            ∙ ap Some (λ i. cond (is_none (sym early i) && (nat_eq x.place.level 1 && uses_page (state_of m) thread c x.place.space (512 * x.place.prefix + index))) (drawn_cell cell) cell);
      }

  pub all_given : AllGiven w
  all_given = subst (λ (u : View). AllGiven u) (sym after) (give_gives_all e old g generation).0

  pub last_is : w.last ≡ Some g
  last_is = ap (λ (u : View). u.last) after

  pub vacant_given : (h : KnownRow (List Cell)) (index : ℕ) → Contains w.rows h → index < 512 → is_link (slice_index h.words index) ≡ false → Has h.vacant index
  unfolding vacant_entries
  vacant_given h index has inside none =
      let o = contained_map given d.rows h (subst (λ (l : List (KnownRow (List Cell))). Contains l h) rows_are has) in
      let words : o.0.words ≡ h.words = ap (λ (k : KnownRow (List Cell)). k.words) o.2 in
      subst (λ (k : KnownRow (List Cell)). Has k.vacant index) o.2 (there o.0.words (ap (λ (ws : List ℕ). is_link (slice_index ws index)) words ∙ none))
    where
      there : (words : List ℕ) → is_link (slice_index words index) ≡ false → Has (vacant_entries words) index
      there words free =
          let all = range_above 0 512 index (omega arith) (omega (arith, inside)) in
          let count = times-filter (λ i. not (is_link (slice_index words i))) index (range_with_len 0 512) ∙ ap (λ (t : Bool). cond (not t) (times index (range_with_len 0 512)) 0) free in
          omega (arith, all, count)

  pub each_granted : (rows bound next : ℕ) → d.hand ≡ [] → rows ≤ 1024 → ((r : ℕ) → Has taken r → generation r < old.next_generation) → ((r : ℕ) → Has taken r → r < rows) → old.next_generation ≡ bound → g.next_generation ≡ next
      → (x : HandRow) → Contains w.hand x → (x.row < 1024) × (x.generation < bound) × (x.low ≤ bound) × (next ≤ x.high)
  each_granted rows bound next none few low there first last x has =
      let hand : w.hand ≡ hand_rows machine generation old g taken = ap (λ (u : View). u.hand) after ∙ ap (λ (l : List HandRow). l ++ hand_rows machine generation old g taken) (keeps.hand ∙ none) in
      let o = contained_map (λ (r : ℕ). record { row = r; generation = generation r; low = old.next_generation; high = g.next_generation; place = None }) taken x (subst (λ (l : List HandRow). Contains l x) hand has) in
      let is = has_contained taken o.0 o.1 in
      let small = there o.0 is in
      let lower = low o.0 is in
      let row : x.row ≡ o.0 = ap (λ (y : HandRow). y.row) (sym o.2) in
      let gen : x.generation ≡ generation o.0 = ap (λ (y : HandRow). y.generation) (sym o.2) in
      let xl : x.low ≡ old.next_generation = ap (λ (y : HandRow). y.low) (sym o.2) in
      let xh : x.high ≡ g.next_generation = ap (λ (y : HandRow). y.high) (sym o.2) in
      (omega (arith, small, few, row), omega (arith, lower, gen, first), omega (arith, xl, first), omega (arith, xh, last))

  pub hand_same : (numbers : List ℕ) → d.hand ≡ [] → SameRows taken numbers → SameRows (map hand_row w.hand) numbers
  hand_same numbers none same r = ap (times r) (hand_is ∙ ap (λ (l : List HandRow). map hand_row l ++ taken) none) ∙ same r

  pub granted_same : (numbers : List ℕ) → d.core.granted ≡ [] → SameRows taken numbers → SameRows (granted_rows w.core) numbers
  granted_same numbers none same r = ap (times r) (granted_are ∙ ap (λ (l : List GrantedRow). map (λ (x : GrantedRow). x.row) l ++ taken) none) ∙ same r

-- ---- what an apply asks

module _ (m b : BookData) (thread : ℕ) (c : Call) (v d e w : View) (rows rows' : List Row) (kit kit' : Kit) (old g : BookData) (generation : ℕ → ℕ) (is_m : IsBook m) (is_b : IsBook b) (same_levels : HasLevelsOf b v) (detached : Detached m b thread c v d rows rows' kit kit') (committed : IsCommitted m b thread c kit)
    (keeps : KeepsRows d e) (after : w ≡ Rattle.row_table.specs.Books.gave machine e old g generation) (apart : (r : ℕ) → Has d.core.held r → times r (taken_rows machine old g) ≡ 0) where
  space_left : ((s : ℕ) → space_of c ≡ Some s → AreOf s rows) → (s : ℕ) → space_of c ≡ Some s → AreOf s rows'
  space_left of s is y has low =
      let o = detached.from y has in
      let level = ap (λ (p : Place). p.level) o.3 in
      sym (ap (λ (p : Place). p.space) o.3) ∙ of s is o.0 o.1 (omega (arith, low, level))

  -- `hand_same` and `granted_same` give how often each row is in the hand and among the granted ones
  pub may_apply : ((s : ℕ) → space_of c ≡ Some s → AreOf s rows) → SameRows (map hand_row w.hand) (map (λ (x : ℕ × ℕ). x.0) kit'.rows.items) → SameRows (granted_rows w.core) (map (λ (x : ℕ × ℕ). x.0) kit'.rows.items) → IsApplicable m b thread c w rows' kit'
  may_apply space hand granted = record {
    exact = exact_given d e w old g generation keeps after rows' detached.exact;
    rows_left = left_given d e w old g generation keeps after m b thread c kit kit' rows' detached.kit_is apart detached.exact detached.rows_left;
    given = all_given d e w old g generation keeps after;
    not_book = ap (λ (u : View). u.core.has_book) after;
    consistent = book_is_consistent b is_b;
    same_levels = ap (λ (k : _). k.levels) (layout_is d e w old g generation keeps after ∙ detached.leaves.layout) ∙ same_levels;
    books = (is_m, is_b);
    one_space = space_left space;
    answered = kit;
    same_kit = detached.kit_is;
    committed = inl committed;
    hand = hand;
    granted = granted;
    room = detached.room;
  }
