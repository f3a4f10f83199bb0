-- One granted row more is linked.
--     may_link      the next row may be linked at a position that is missing
--     one_more      then so many rows and one more are linked
use Rattle.std.specs.Prelude.{◌≡◌, ◌≢◌, ℕ, suc, ◌+◌, ◌-◌, ◌*◌, ◌/◌, ◌^◌, ◌<◌, ◌≤◌, ◌⊎◌, not, Bool, true, false, cond, List, [], ◌∷◌, ◌++◌, map, drop, length, nat_eq, slice_get, slice_index, slice_index_or, slice_set, Some, None}
use Rattle.std.specs.List.{Contains, filter}
use Rattle.std.specs.FinSet as set
use Rattle.std.proofs.Common.{sym, refl, ◌∙◌, ap, subst, arith, inl, inr, eq-eqb, ne_eqb, get_or-set_other}
use Rattle.std.proofs.lemmas.Bool.{true≢false}
use Rattle.std.proofs.lemmas.List.{length-set, map-append, get_or-set_same}
use Rattle.std.proofs.lemmas.List.Elements.{Contains-append_left, Contains-append_right, Contains-append_cases, Contains-get_or}
use mathlib.Core.Logic.{dite}
use native.Mathlib.Decide.{ℕ_discrete}
use Rattle.corten_base.specs.declared.calls.Call.{Call}
use Rattle.page_map.specs.State.{levels}
use Rattle.page_map.specs.Tables.{Tables}
use Rattle.walk_core.specs.declared.pass.GrantedRow.{GrantedRow}
use Rattle.walk_core.specs.declared.pass.UnlinkedRow.{UnlinkedRow}
use Rattle.walk_core.specs.Core.{granted_rows, unlinked_rows}
use Rattle.walk_core.specs.Lists.{times, Has, IsDistinct, without}
use Rattle.walk_core.specs.Words.{is_link, link_word}
use Rattle.walk_core.proofs.RowLists.{times-nil, times-cons, times-cons_same, times-cons_other, times-append, times-map-filter, times_without_other, head_or_later, in_head, in_map, among_true, has_part, range_above}
use Rattle.walk_core.proofs.Spellings.{zero_no_link, is_link-link_word}
use Rattle.row_table.specs.declared.view.PassView.{PassView}
use Rattle.row_table.specs.declared.view.HandRow.{HandRow}
use Rattle.row_table.specs.declared.view.HeldRow.{HeldRow as KnownRow}
use Rattle.row_table.specs.Known.{AreWhole}
use Rattle.row_table.specs.Links.{with_word, with_link, newly_linked}
use Rattle.row_table.specs.Moves.{NotInHand}
use Rattle.row_table.specs.Openings.{MaySetUp, opened_row}
use Rattle.row_table.specs.Rule.{SameRows, row_part}
use Rattle.row_table.specs.Vacant.{all_entries, blank_words}
use Rattle.row_table.proofs.Blank.{blank_zero}
use Rattle.row_table.proofs.Hands.{same_maps}
use Rattle.row_table.proofs.Turns.{contained_map}
use Rattle.row_table.proofs.Views.{kept}
use Rattle.row_cells.specs.declared.Cell.{Cell}
use Rattle.row_cells.specs.declared.Cell.TheVariants.{Invalid, Table, Anon, File, Mapped, Swapped}
use Rattle.table_place.specs.declared.Place.{Place}
use Rattle.table_place.specs.Place.{directory, parent, is_place}
use Rattle.table_place.proofs.Entries.{level_of, below_is}
use Rattle.tree_lock.specs.Held.{IsInOrder, IsInserted, row_numbers, with_content}
use Rattle.tree_lock.specs.Zone.{IsTable}
use Rattle.tree_lock.proofs.Rows.{numbers_inserted, not_there}
use Rattle.machine_plan.specs.declared.kit.Kit.{Kit}
use Rattle.machine_plan.specs.Agrees.{below, HasBytes, IsTableOf, Shows, Spells}
use Rattle.machine_plan.specs.Books.{BookData, state_of}
use Rattle.machine_plan.specs.Given.{IsRemoved}
use Rattle.machine_plan.specs.Held.{ListHolds}
use Rattle.machine_plan.specs.HeldRows.{Row}
use Rattle.machine_plan.proofs.Covering.{cell_there}
use Rattle.machine_plan.proofs.Near.{level_below}
use Rattle.cursor_detach.specs.Cutting.{above_place, above_index}
use Rattle.cursor_detach.specs.Left.{drawn_cell, is_taken}
use Rattle.cursor_detach.proofs.Lists.{get_same, get_other}
use Rattle.cursor_detach.proofs.Positions.{leads_there, index_inside, one_entry}
use Rattle.cursor_detach.proofs.RowLists.{one_place, one_number, with_numbers, with_length}
use Rattle.cursor_apply.specs.Applying.{hand_row}
use Rattle.cursor_apply.specs.Linking.{spread_cell, new_row, linked_view, MayLinkAt, LinksAt, IsLinking, IsNext, LinkedSoFar, LinksNext}
use Rattle.cursor_apply.specs.Staging.{with_tables, IsStagedCell, IsStaged, AreStaged}
use Rattle.cursor_apply.proofs.StagedCells.{now_there, still_there, came_there, not_there as new_not_there, one_fewer, shows_more, IsMark, is_mark, spread_shows}
use Rattle.cursor_apply.proofs.StagedLists.{part_had, times_drop, drop_next, all_rows, inserted_here, inserted_in, inserted_cases, inserted_length, content_cases, content_kept, content_was}

abbrev numbers : Kit → List ℕ
numbers kit = map (λ (g : ℕ × ℕ). g.0) kit.rows.items

all_vacant : (i : ℕ) → i < 512 → Has all_entries i
unfolding all_entries
all_vacant i within = range_above 0 512 i (omega arith) (omega (arith, within))

pub next_there : {B E : Type 0} (a b : BookData) (thread : ℕ) (c : Call) (kit : Kit) (next : ℕ) (v : PassView (List Cell) B E) (rows : List Row) (w : PassView (List Cell) B E) (rows' : List Row) (q : Place) → IsNext a b thread c kit next v rows w rows' q → next < length kit.rows.items
next_there a b thread c kit next v rows w rows' q is = let m = is.so_far.missing in let f = one_fewer is.so_far.tables q (state_of b).tables is.wanted is.absent in omega (arith, m, f)

module _ {B E : Type 0} (a b : BookData) (thread : ℕ) (c : Call) (kit : Kit) (v : PassView (List Cell) B E) (rows : List Row) (count room : ℕ) (ready : IsLinking count room a b thread c kit v rows)
    (next : ℕ) (w : PassView (List Cell) B E) (rows' : List Row) (so : LinkedSoFar a b thread c kit next v rows w rows') (q : Place) (wanted : set.contains (state_of b).tables q ≡ true) (absent : set.contains so.tables q ≡ false)
    (g : ℕ × ℕ) (is_g : (d : ℕ × ℕ) → slice_index_or kit.rows.items next d ≡ g) where
  abbrev L : ℕ
  L = levels (state_of a)

  few : L < 6
  few = let most = ready.before.few_levels in omega arith

  some : 1 ≤ L
  some = let least = ready.before.some_levels in omega arith

  placed : is_place L q ≡ true
  placed = subst (λ n. is_place n q ≡ true) ready.same (ready.after.places q wanted)

  depth : (1 ≤ q.level) × (q.level ≤ L)
  depth = level_of L q placed

  high : q.level < 6
  high = let d = depth.1 in let f = few in omega arith

  index : ℕ
  index = above_index L q

  inside : above_index L q < 512
  inside = index_inside L q placed

  leads : below L (above_place L q) (above_index L q) ≡ q
  leads = leads_there L q few placed

  pub next_in : next < length kit.rows.items
  next_in = let m = so.missing in let f = one_fewer so.tables q (state_of b).tables wanted absent in omega arith

  rest_is : drop next (numbers kit) ≡ g.0 ∷ drop (suc next) (numbers kit)
  rest_is = drop_next kit.rows.items next g next_in is_g

  -- the row stands once among those that are left
  not_later : times g.0 (drop (suc next) (numbers kit)) ≡ 0
  not_later =
      let here = ap (times g.0) rest_is ∙ times-cons_same g.0 g.0 (drop (suc next) (numbers kit)) refl in
      let all = times_drop g.0 next (numbers kit) in let once = ready.list.once g.0 in omega arith

  here_now : 0 < times g.0 (drop next (numbers kit))
  here_now = let here = ap (times g.0) rest_is ∙ times-cons_same g.0 g.0 (drop (suc next) (numbers kit)) refl in omega arith

  in_hand : Has (map hand_row w.hand) g.0
  in_hand = let same = so.hand g.0 in let some = here_now in omega arith

  in_granted : Has (granted_rows w.core) g.0
  in_granted = let same = so.granted g.0 in let some = here_now in omega arith

  known : (x : HandRow) × Contains w.hand x × (x.row ≡ g.0)
  known = part_had hand_row w.hand g.0 in_hand

  not_linked : (n : ℕ) → NotInHand w n → n ≢ g.0
  not_linked n linked same = let some = subst (λ k. Has (granted_rows w.core) k) (sym same) in_granted in absurd (omega (arith, linked, some))

  other_row : (x : Row) → Contains rows' x → x.row ≢ g.0
  other_row x has = not_linked x.row (so.staged x has).linked

  closed : times g.0 w.core.held ≡ 0
  closed = sym (so.exact.held g.0) ∙ not_there rows' g.0 (all_rows (λ h. h.row ≢ g.0) rows' other_row)

  table_is : (p : Place) → IsTableOf (with_tables (state_of a) so.tables) p → IsTable L p
  table_is p (inl top) = inl top
  table_is p (inr there) = inr (subst (λ n. is_place n p ≡ true) ready.same (ready.after.places p (so.within p there)))

  other_place : (x : Row) → Contains rows' x → x.place ≢ q
  other_place x has same = go (so.staged x has).table
    where
      go : IsTableOf (with_tables (state_of a) so.tables) x.place → ⊥
      go (inl top) = let level : 6 ≡ q.level = ap (λ (p : Place). p.level) (sym top ∙ same) in let h = high in absurd (omega (arith, level, h))
      go (inr there) = true≢false (sym there ∙ (ap (set.contains so.tables) same ∙ absent))

  still_removed : (p : Place) → p ≡ q → ¬ IsRemoved (state_of a) (state_of b) p
  still_removed p same gone = true≢false (sym wanted ∙ (ap (set.contains (state_of b).tables) (sym same) ∙ gone.1))

  not_before : set.contains (state_of a).tables q ≡ false
  not_before = go (set.contains (state_of a).tables q) refl
    where
      go : (t : Bool) → set.contains (state_of a).tables q ≡ t → set.contains (state_of a).tables q ≡ false
      go false e = e
      go true e = absurd (true≢false (sym (so.left q e wanted) ∙ absent))

  same_layout : w.layout.levels ≡ L
  same_layout = ap (λ (u : PassView (List Cell) B E). u.layout.levels) so.view ∙ ready.layout

  may_set_up : MaySetUp w g.0 q g.1
  may_set_up =
      let k = known in
      let e = ready.new.each k.0 (so.of_hand k.0 k.1) in
      let m = ready.list.each next g next_in in
      let at : (a.next_generation ≤ g.1) × (g.1 < b.next_generation) = subst (λ (x : ℕ × ℕ). (a.next_generation ≤ x.1) × (x.1 < b.next_generation)) (is_g g) m in
      record {
        known = k.0;
        in_hand = k.1;
        same_row = k.2;
        closed = closed;
        is_place = subst (λ n. is_place n q ≡ true) (sym same_layout) placed;
        above = omega (arith, e.1, at.0);
        low = omega (arith, e.2, at.0);
        high = omega (arith, e.3, at.1);
      }

  small : g.0 < 1024
  small = let k = known in subst (λ n. n < 1024) k.2 (ready.new.each k.0 (so.of_hand k.0 k.1)).0

  below_most : g.1 < 2 ^ 30
  below_most =
      let at : g.1 < b.next_generation = subst (λ (x : ℕ × ℕ). x.1 < b.next_generation) (is_g g) (ready.list.each next g next_in).1 in
      let most = ready.list.low in omega (arith, at, most)

  module _ (x : Row) (x_there : Contains rows' x) (x_up : x.place ≡ above_place L q) where
    st : IsStaged a b so.tables thread c kit w x
    st = so.staged x x_there

    x_leads : below L x.place (above_index L q) ≡ q
    x_leads = ap (λ p. below L p (above_index L q)) x_up ∙ leads

    cell : (m : Cell) × (slice_get x.content (above_index L q) ≡ Some m)
    cell = cell_there x.content (above_index L q) (subst (λ n. above_index L q < n) (sym st.whole) inside)

    mark : IsMark (state_of a) so.tables q (slice_index st.known.words (above_index L q)) cell.0
    mark =
        let s = st.cells (above_index L q) cell.0 inside (still_removed (below L x.place (above_index L q)) x_leads) cell.1 in
        is_mark (state_of a) so.tables q (slice_index st.known.words (above_index L q)) s.was cell.0 (is_taken (state_of a) thread c kit x.place (above_index L q)) depth.0 absent
        (subst (λ p. Shows (with_tables (state_of a) so.tables) p s.was) x_leads s.shows) s.spells s.is

    pub may_link : MayLinkAt L g.0 g.1 q rows' w
    may_link = record {
      may = may_set_up;
      place = placed;
      same_levels = same_layout;
      small = small;
      low = below_most;
      up = x;
      there = x_there;
      is_up = x_up;
      mark = cell.0;
      marked = cell.1;
      fits = mark.fits;
      linker = st.known;
      linker_held = st.held;
      linker_row = st.same_row;
      linker_place = st.same_place;
      linked = st.linked;
      free = ap is_link mark.none ∙ zero_no_link;
      other_rows = all_rows (λ h. h.row ≢ g.0) rows' other_row;
      other_places = all_rows (λ h. h.place ≢ q) rows' other_place;
    }

    module _ (order : IsInOrder rows') (once : IsDistinct (row_numbers rows')) (whole : AreWhole w) (rows'' : List Row) (z : PassView (List Cell) B E) (links : LinksAt L g.0 g.1 q rows' w rows'' z) where
      abbrev idx : ℕ
      idx = above_index L q

      abbrev K : KnownRow (List Cell)
      K = st.known

      abbrev W : ℕ
      W = link_word g.0 g.1

      abbrev child : KnownRow (List Cell)
      child = opened_row g.0 q g.1

      abbrev V : PassView (List Cell) B E
      V = linked_view w st.known (above_index L q) g.0 q g.1

      abbrev change : KnownRow (List Cell) → KnownRow (List Cell)
      change h = with_link K idx g.0 (with_word K.row idx W h)

      at_there : Contains rows' links.is_at.row
      at_there = subst (Contains rows') (links.is_at.is links.is_at.row) (Contains-get_or rows' links.at links.is_at.row links.is_at.inside)

      at_is : links.is_at.row ≡ x
      at_is = one_place rows' links.is_at.row x order at_there x_there (links.is_at.place ∙ sym x_up)

      here : (d : Row) → slice_index_or rows' links.at d ≡ x
      here d = links.is_at.is d ∙ at_is

      mark_is : links.mark ≡ cell.0
      mark_is = let e : Some links.mark ≡ Some cell.0 = sym links.marked ∙ (ap (λ (y : Row). slice_get y.content idx) at_is ∙ cell.1) in cc

      view_is : z ≡ V
      view_is = links.view st.known st.held (st.same_row ∙ ap (λ (y : Row). y.row) (sym at_is))

      abbrev content : List Cell
      content = slice_set x.content (above_index L q) Table

      abbrev between : List Row
      between = with_content rows' links.at content

      between_is : with_content rows' links.at (slice_set links.is_at.row.content idx Table) ≡ between
      between_is = ap (λ (y : Row). with_content rows' links.at (slice_set y.content idx Table)) at_is

      abbrev made : Row
      made = new_row g.0 q g.1 links.content

      inserted : IsInserted made between rows''
      inserted = subst (λ (l : List Row). IsInserted made l rows'') between_is links.inserted

      -- ---- the rows of the view

      linker_other : K.row ≢ g.0
      linker_other e = other_row x x_there (sym st.same_row ∙ e)

      change_other : (h : KnownRow (List Cell)) → h.row ≢ K.row → h.row ≢ g.0 → change h ≡ h
      change_other h up new =
          ap (λ t. with_link K idx g.0 (cond t (record h { words = slice_set h.words idx W }) h)) (ne_eqb h.row K.row up)
          ∙ (ap (λ t. cond t (newly_linked K idx h) (cond (nat_eq h.row K.row) (record h { vacant = without idx h.vacant }) h)) (ne_eqb h.row g.0 new)
          ∙ ap (λ t. cond t (record h { vacant = without idx h.vacant }) h) (ne_eqb h.row K.row up))

      abbrev upper : KnownRow (List Cell) → KnownRow (List Cell)
      upper h = record h { words = slice_set h.words idx W; vacant = without idx h.vacant }

      change_up : (h : KnownRow (List Cell)) → h.row ≡ K.row → change h ≡ upper h
      change_up h up =
          let mid : KnownRow (List Cell) = record h { words = slice_set h.words idx W } in
          ap (λ t. with_link K idx g.0 (cond t mid h)) (eq-eqb h.row K.row up)
          ∙ (ap (λ t. cond t (newly_linked K idx mid) (cond (nat_eq h.row K.row) (upper h) mid)) (ne_eqb h.row g.0 (λ e. linker_other (sym up ∙ e)))
          ∙ ap (λ t. cond t (upper h) mid) (eq-eqb h.row K.row up))

      abbrev linked_child : KnownRow (List Cell)
      linked_child = record child { found = None; is_given = true; vacant = all_entries }

      change_new : change child ≡ linked_child
      change_new =
          let mid : KnownRow (List Cell) = record child { words = slice_set blank_words idx W } in
          ap (λ t. with_link K idx g.0 (cond t mid child)) (ne_eqb g.0 K.row (λ e. linker_other (sym e)))
          ∙ (ap (λ t. cond t (newly_linked K idx child) (cond (nat_eq g.0 K.row) (record child { vacant = without idx [] }) child)) (eq-eqb g.0 g.0 refl)
          ∙ ap (λ t. record child { found = None; is_given = t; vacant = cond t all_entries [] }) (among_true K.vacant idx (so.vacant K idx st.held inside (ap is_link mark.none ∙ zero_no_link))))

      change_row : (h : KnownRow (List Cell)) → (change h).row ≡ h.row
      change_row h = go (nat_eq h.row K.row) (nat_eq h.row g.0)
        where
          last : (k : KnownRow (List Cell)) (s t : Bool) → (cond s (newly_linked K idx k) (cond t (record k { vacant = without idx k.vacant }) k)).row ≡ k.row
          last k true t = refl
          last k false true = refl
          last k false false = refl

          go : (s t : Bool) → (with_link K idx g.0 (cond s (record h { words = slice_set h.words idx W }) h)).row ≡ h.row
          go true t = last (record h { words = slice_set h.words idx W }) (nat_eq h.row g.0) (nat_eq h.row K.row)
          go false t = last h (nat_eq h.row g.0) (nat_eq h.row K.row)

      held_row : (h : KnownRow (List Cell)) → Contains w.rows h → h.row ≢ g.0
      held_row h has e =
          let some = subst (Has w.core.held) e (subst (λ (l : List ℕ). Has l h.row) so.exact.shown (has_part row_part w.rows h has)) in
          let none = closed in absurd (omega arith)

      in_now : (h : KnownRow (List Cell)) → Contains w.rows h → Contains V.rows (change h)
      in_now h has = in_map change (w.rows ++ child ∷ []) h (Contains-append_left w.rows (child ∷ []) h has)

      child_now : Contains V.rows linked_child
      child_now = subst (Contains V.rows) change_new (in_map change (w.rows ++ child ∷ []) child (Contains-append_right w.rows (child ∷ []) child (in_head child [])))

      -- each row of the view is as before, or the one above, or the new one
      by_row : (P : KnownRow (List Cell) → Type 0) → ((h : KnownRow (List Cell)) → Contains w.rows h → P h) → ((h : KnownRow (List Cell)) → Contains w.rows h → h.row ≡ K.row → P (upper h)) → P linked_child → (h : KnownRow (List Cell)) → Contains V.rows h → P h
      by_row P other up new h has =
          let o = contained_map change (w.rows ++ child ∷ []) h has in
          elim (Contains-append_cases w.rows (child ∷ []) o.0 o.1) [
            | inl old ↦ dite (ℕ_discrete o.0.row K.row)
                (λ e. subst P (sym (change_up o.0 e) ∙ o.2) (up o.0 old e))
                (λ ne. subst P (sym (change_other o.0 ne (held_row o.0 old)) ∙ o.2) (other o.0 old))
            | inr last ↦ elim (head_or_later child [] o.0 last) [
              | inl e ↦ subst P (sym (ap change (sym e) ∙ change_new) ∙ o.2) new
              | inr none ↦ let h = none.1 in absurd (omega arith)
            ]
          ]

      -- ---- the hand

      left_once : (n : ℕ) → times n (drop next (numbers kit)) ≡ times n (g.0 ∷ drop (suc next) (numbers kit))
      left_once n = ap (times n) rest_is

      without_row : {X : Type 0} (f : X → ℕ) (xs : List X) → ((n : ℕ) → times n (map f xs) ≡ times n (drop next (numbers kit))) → (n : ℕ) → times n (map f (filter (λ y. not (nat_eq (f y) g.0)) xs)) ≡ times n (drop (suc next) (numbers kit))
      without_row f xs same n = times-map-filter f (λ m. not (nat_eq m g.0)) n xs ∙ dite (ℕ_discrete n g.0)
          (λ e. ap (λ t. cond (not t) (times n (map f xs)) 0) (eq-eqb n g.0 e) ∙ (sym not_later ∙ ap (λ m. times m (drop (suc next) (numbers kit))) (sym e)))
          (λ ne. ap (λ t. cond (not t) (times n (map f xs)) 0) (ne_eqb n g.0 ne) ∙ (same n ∙ (left_once n ∙ times-cons_other n g.0 (drop (suc next) (numbers kit)) (λ e. ne (sym e)))))

      hand_now : SameRows (map hand_row V.hand) (drop (suc next) (numbers kit))
      hand_now = without_row hand_row w.hand so.hand

      granted_now : SameRows (granted_rows V.core) (drop (suc next) (numbers kit))
      granted_now = without_row (λ (y : GrantedRow). y.row) w.core.granted so.granted

      none_unlinked : w.core.unlinked ≡ []
      none_unlinked = ap (λ (u : PassView (List Cell) B E). u.core.unlinked) so.view ∙ ready.new.unlinked

      linked_now : (n : ℕ) → NotInHand w n → NotInHand V n
      linked_now n linked =
          let less = times-map-filter (λ (y : GrantedRow). y.row) (λ m. not (nat_eq m g.0)) n w.core.granted in
          let most = at_most (not (nat_eq n g.0)) (times n (granted_rows w.core)) in
          omega (arith, less, most, linked)
        where
          at_most : (t : Bool) (m : ℕ) → cond t m 0 ≤ m
          at_most true m = omega arith
          at_most false m = omega arith

      new_linked : NotInHand V g.0
      new_linked =
          let none = granted_now g.0 in let later = not_later in
          let free : times g.0 (unlinked_rows w.core) ≡ 0 = ap (λ (l : List UnlinkedRow). times g.0 (map (λ (u : UnlinkedRow). u.row) l)) none_unlinked ∙ times-nil g.0 in
          omega (arith, none, later, free)

      -- ---- the list

      abbrev tables' : Tables
      tables' = set.insert so.tables q

      in_list : (y : Row) → Contains between y → Contains rows'' y
      in_list = inserted_in made between rows'' inserted

      kept_row : (y : Row) → Contains rows' y → (u : Row) × Contains rows'' u × (u.row ≡ y.row) × (u.place ≡ y.place)
      kept_row y has = let u = content_kept rows' links.at x content links.is_at.inside here y has in (u.0, in_list u.0 u.1, u.2, u.3)

      listed : (p : Place) → ListHolds rows' p → ListHolds rows'' p
      listed p l = let u = kept_row l.0 l.1 in (u.0, u.1, u.3 ∙ l.2)

      table_more : (p : Place) → IsTableOf (with_tables (state_of a) so.tables) p → IsTableOf (with_tables (state_of a) tables') p
      table_more p (inl top) = inl top
      table_more p (inr there) = inr (still_there so.tables q p there)

      -- ---- the cells

      more_cell : (p : Place) (i word : ℕ) (m : Cell) → (below L p i ≡ q → ⊥) → IsStagedCell a so.tables thread c kit p i word m → IsStagedCell a tables' thread c kit p i word m
      more_cell p i word m other s = record { was = s.was; shows = shows_more (state_of a) so.tables q (below L p i) s.was other s.shows; spells = s.spells; bytes = s.bytes; is = s.is }

      other_staged : (y : Row) → Contains rows' y → (y.place ≡ x.place → ⊥) → IsStaged a b tables' thread c kit V y
      other_staged y has apart =
          let s = so.staged y has in
          let far : s.known.row ≢ K.row = (λ e. apart (ap (λ (u : Row). u.place) (one_number rows' y x once has x_there (sym s.same_row ∙ (e ∙ st.same_row))))) in
          record {
            known = s.known;
            held = subst (Contains V.rows) (change_other s.known far (held_row s.known s.held)) (in_now s.known s.held);
            same_row = s.same_row;
            same_place = s.same_place;
            linked = linked_now y.row s.linked;
            table = table_more y.place s.table;
            whole = s.whole;
            cut = s.cut;
            cells = λ i m within stays there. more_cell y.place i (slice_index s.known.words i) m
                (λ e. apart (one_entry L y.place x.place i idx few some (table_is y.place s.table) (table_is x.place st.table) within inside (e ∙ sym x_leads)).0)
                (s.cells i m within stays there);
          }

      long_words : idx < length K.words
      long_words = subst (λ n. idx < n) (sym (whole K st.held)) inside

      long_cells : idx < length x.content
      long_cells = subst (λ n. idx < n) (sym st.whole) inside

      word_now : slice_index (slice_set K.words idx W) idx ≡ W
      word_now = get_or-set_same K.words idx W 0 long_words

      table_cell : (word : ℕ) → is_link word ≡ true → IsStagedCell a tables' thread c kit x.place idx word Table
      table_cell word link = record {
        was = Table;
        shows = subst (λ p. set.contains tables' p ≡ true) (sym x_leads) (now_there so.tables q);
        spells = link;
        bytes = tt;
        is = go (is_taken (state_of a) thread c kit x.place idx);
      }
        where
          go : (t : Bool) → Table ≡ cond t Table Table
          go true = refl
          go false = refl

      up_staged : IsStaged a b tables' thread c kit V (record x { content = content })
      up_staged = record {
        known = upper K;
        held = subst (Contains V.rows) (change_up K refl) (in_now K st.held);
        same_row = st.same_row;
        same_place = st.same_place;
        linked = linked_now x.row st.linked;
        table = table_more x.place st.table;
        whole = length-set x.content idx Table ∙ st.whole;
        cut = λ i within gone.
            let other : i ≢ idx = (λ e. still_removed (below L x.place i) (ap (below L x.place) e ∙ x_leads) gone) in
            let was = st.cut i within gone in
            (get_other x.content idx i Table other ∙ was.0, get_or-set_other K.words idx i W 0 other ∙ was.1);
        cells = λ i m within stays there. dite (ℕ_discrete i idx)
            (λ e.
            let is : Some m ≡ Some Table = sym there ∙ (ap (slice_get content) e ∙ get_same x.content idx Table long_cells) in
            let same : m ≡ Table = cc in
            subst (λ (n : Cell). IsStagedCell a tables' thread c kit x.place i (slice_index (slice_set K.words idx W) i) n) (sym same)
            (subst (λ n. IsStagedCell a tables' thread c kit x.place n (slice_index (slice_set K.words idx W) n) Table) (sym e)
            (table_cell (slice_index (slice_set K.words idx W) idx) (ap is_link word_now ∙ is_link-link_word g.0 g.1 small below_most))))
            (λ ne. subst (λ n. IsStagedCell a tables' thread c kit x.place i n m) (sym (get_or-set_other K.words idx i W 0 ne))
            (more_cell x.place i (slice_index K.words i) m
            (λ e. ne (one_entry L x.place x.place i idx few some (table_is x.place st.table) (table_is x.place st.table) within inside (e ∙ sym x_leads)).1)
            (st.cells i m within stays (sym (get_other x.content idx i Table ne) ∙ there))));
      }

      -- below the new table there is no table yet
      none_below : (i : ℕ) → i < 512 → set.contains so.tables (below L q i) ≡ true → ⊥
      none_below i within there =
          let low = level_below L q i high in
          let d = depth in
          let up = so.parents (below L q i) there (omega (arith, low, d.0, d.1)) in
          true≢false (sym up ∙ (ap (set.contains so.tables) (parent_below i within) ∙ absent))
        where
          parent_below : (i : ℕ) → i < 512 → parent (below L q i) ≡ q
          parent_below i within =
              let is = below_is L q i high in
              let level : q.level - 1 + 1 ≡ q.level = (let d = depth.0 in omega (arith, d)) in
              let prefix : (512 * q.prefix + i) / 512 ≡ q.prefix = omega (arith, within) in
              ap parent is ∙ (λ k. record { space = q.space; level = level k; prefix = prefix k })

      new_below : (i : ℕ) → i < 512 → set.contains tables' (below L q i) ≡ false
      new_below i within = new_not_there so.tables q (below L q i)
          (λ e. let low = level_below L q i high in let same = ap (λ (p : Place). p.level) e in let d = depth.0 in absurd (omega (arith, low, same, d)))
          (go (set.contains so.tables (below L q i)) refl)
        where
          go : (t : Bool) → set.contains so.tables (below L q i) ≡ t → set.contains so.tables (below L q i) ≡ false
          go false e = e
          go true e = absurd (none_below i within e)

      -- what was below a removed position would have its parent in the state before
      never_removed : (i : ℕ) → i < 512 → ¬ IsRemoved (state_of a) (state_of b) (below L q i)
      never_removed i within gone =
          let low = level_below L q i high in
          let d = depth in
          let up = ready.before.parents (below L q i) gone.0 (omega (arith, low, d.0, d.1)) in
          true≢false (sym up ∙ (ap (set.contains (state_of a).tables) (parent_below i within) ∙ not_before))
        where
          parent_below : (i : ℕ) → i < 512 → parent (below L q i) ≡ q
          parent_below i within =
              let is = below_is L q i high in
              let level : q.level - 1 + 1 ≡ q.level = (let d = depth.0 in omega (arith, d)) in
              let prefix : (512 * q.prefix + i) / 512 ≡ q.prefix = omega (arith, within) in
              ap parent is ∙ (λ k. record { space = q.space; level = level k; prefix = prefix k })

      spread_spells : (m : Cell) (n i word : ℕ) → word ≡ 0 → Spells (state_of a) (spread_cell m n i) word
      spread_spells Invalid n i word none = none
      spread_spells Table n i word none = none
      spread_spells (Anon perm) n i word none = none
      spread_spells (File perm file first) n i word none = none
      spread_spells (Mapped perm origin frame) n i word none = none
      spread_spells (Swapped perm origin slot) n i word none = none

      spread_bytes : (m : Cell) (n i : ℕ) → HasBytes a (spread_cell m n i)
      spread_bytes Invalid n i = tt
      spread_bytes Table n i = tt
      spread_bytes (Anon perm) n i = tt
      spread_bytes (File perm file first) n i = tt
      spread_bytes (Mapped perm origin frame) n i = tt
      spread_bytes (Swapped perm origin slot) n i = tt

      drawn_same : (m : Cell) (n i : ℕ) → drawn_cell (spread_cell m n i) ≡ spread_cell m n i
      drawn_same Invalid n i = refl
      drawn_same Table n i = refl
      drawn_same (Anon perm) n i = refl
      drawn_same (File perm file first) n i = refl
      drawn_same (Mapped perm origin frame) n i = refl
      drawn_same (Swapped perm origin slot) n i = refl

      spread_drawn : (m : Cell) (n i : ℕ) (t : Bool) → spread_cell m n i ≡ cond t (drawn_cell (spread_cell m n i)) (spread_cell m n i)
      spread_drawn m n i true = sym (drawn_same m n i)
      spread_drawn m n i false = refl

      new_staged : IsStaged a b tables' thread c kit V made
      new_staged = record {
        known = linked_child;
        held = child_now;
        same_row = refl;
        same_place = refl;
        linked = new_linked;
        table = inr (now_there so.tables q);
        whole = links.spread.whole;
        cut = λ i within gone. absurd (never_removed i within gone);
        cells = λ i m within stays there.
            let is : Some m ≡ Some (spread_cell links.mark (512 ^ (q.level - 1)) i) = sym there ∙ links.spread.each i within in
            let same : m ≡ spread_cell cell.0 (512 ^ (q.level - 1)) i = (let e : m ≡ spread_cell links.mark (512 ^ (q.level - 1)) i = cc in e ∙ ap (λ (n : Cell). spread_cell n (512 ^ (q.level - 1)) i) mark_is) in
            subst (λ (n : Cell). IsStagedCell a tables' thread c kit q i (slice_index blank_words i) n) (sym same) (record {
              was = spread_cell cell.0 (512 ^ (q.level - 1)) i;
              shows = spread_shows (state_of a) so.tables L q i depth.0 high within (slice_index st.known.words idx) cell.0 mark (new_below i within);
              spells = spread_spells cell.0 (512 ^ (q.level - 1)) i (slice_index blank_words i) (blank_zero i within);
              bytes = spread_bytes cell.0 (512 ^ (q.level - 1)) i;
              is = spread_drawn cell.0 (512 ^ (q.level - 1)) i (is_taken (state_of a) thread c kit q i);
            });
      }

      staged_now : AreStaged a b tables' thread c kit V rows''
      staged_now y has = elim (inserted_cases made between rows'' inserted y has) [
        | inl e ↦ subst (IsStaged a b tables' thread c kit V) e new_staged
        | inr old ↦ elim (content_cases rows' links.at x content links.is_at.inside here order y old) [
          | inl e ↦ subst (IsStaged a b tables' thread c kit V) (sym e) up_staged
          | inr apart ↦ other_staged y apart.0 apart.1
        ]
      ]

      -- ---- all of it

      numbers_now : SameRows (row_numbers rows'') (w.core.held ++ g.0 ∷ [])
      numbers_now n =
          let all = numbers_inserted made between rows'' inserted n in
          let same = ap (times n) (with_numbers rows' links.at content) in
          let was = so.exact.held n in
          let more = times-append n w.core.held (g.0 ∷ []) in
          let one = times-cons n g.0 [] in
          let none = times-nil n in
          omega (arith, all, same, was, more, one, none)

      shown_now : map row_part V.rows ≡ w.core.held ++ g.0 ∷ []
      shown_now = same_maps change row_part row_part change_row (w.rows ++ child ∷ []) ∙ (map-append row_part w.rows (child ∷ []) ∙ ap (λ (l : List ℕ). l ++ g.0 ∷ []) so.exact.shown)

      only_now : (y : Row) → Contains rows'' y → ListHolds rows y.place ⊎ ((set.contains (state_of a).tables y.place ≡ false) × (set.contains (state_of b).tables y.place ≡ true))
      only_now y has = elim (inserted_cases made between rows'' inserted y has) [
        | inl e ↦ inr (ap (λ (u : Row). set.contains (state_of a).tables u.place) (sym e) ∙ not_before, ap (λ (u : Row). set.contains (state_of b).tables u.place) (sym e) ∙ wanted)
        | inr old ↦
            let u = content_was rows' links.at x content links.is_at.inside here y old in
            subst (λ p. ListHolds rows p ⊎ ((set.contains (state_of a).tables p ≡ false) × (set.contains (state_of b).tables p ≡ true))) u.3 (so.only u.0 u.1)
      ]

      made_now : (p : Place) → set.contains (state_of a).tables p ≡ false → set.contains tables' p ≡ true → ListHolds rows'' p
      made_now p before there = elim (came_there so.tables q p there) [
        | inl e ↦ (made, inserted_here made between rows'' inserted, sym e)
        | inr old ↦ listed p (so.made p before old)
      ]

      within_now : (p : Place) → set.contains tables' p ≡ true → set.contains (state_of b).tables p ≡ true
      within_now p there = elim (came_there so.tables q p there) [
        | inl e ↦ ap (set.contains (state_of b).tables) e ∙ wanted
        | inr old ↦ so.within p old
      ]

      -- the table above is there, since its row is in the list
      up_there : q.level < L → set.contains so.tables (parent q) ≡ true
      up_there lower = go st.table
        where
          up_is : x.place ≡ parent q
          up_is = x_up ∙ ap (λ t. cond t directory (parent q)) (ne_eqb q.level L (λ e. absurd (omega (arith, e, lower))))

          go : IsTableOf (with_tables (state_of a) so.tables) x.place → set.contains so.tables (parent q) ≡ true
          go (inl top) = let level : 6 ≡ q.level + 1 = ap (λ (p : Place). p.level) (sym top ∙ up_is) in let f = few in absurd (omega (arith, level, f, lower))
          go (inr there) = ap (set.contains so.tables) (sym up_is) ∙ there

      parents_now : (p : Place) → set.contains tables' p ≡ true → p.level < L → set.contains tables' (parent p) ≡ true
      parents_now p there lower = elim (came_there so.tables q p there) [
        | inl e ↦ ap (λ (u : Place). set.contains tables' (parent u)) e ∙ still_there so.tables q (parent q) (up_there (subst (λ (u : Place). u.level < L) e lower))
        | inr old ↦ still_there so.tables q (parent p) (so.parents p old lower)
      ]

      vacant_up : (h : KnownRow (List Cell)) → Contains w.rows h → (i : ℕ) → i < 512 → is_link (slice_index (slice_set h.words idx W) i) ≡ false → Has (without idx h.vacant) i
      vacant_up h has i within free = dite (ℕ_discrete i idx)
          (λ e. absurd (true≢false (sym (ap is_link (ap (slice_index (slice_set h.words idx W)) e ∙ get_or-set_same h.words idx W 0 (subst (λ n. idx < n) (sym (whole h has)) inside)) ∙ is_link-link_word g.0 g.1 small below_most) ∙ free)))
          (λ ne. let was = so.vacant h i has within (ap is_link (sym (get_or-set_other h.words idx i W 0 ne)) ∙ free) in let same = times_without_other idx i h.vacant ne in omega (arith, was, same))

      linked_so_far : LinkedSoFar a b thread c kit (suc next) v rows V rows''
      linked_so_far = record {
        tables = tables';
        view = ap (λ (u : PassView (List Cell) B E). record u { core = record u.core { held = V.core.held; granted = V.core.granted }; rows = V.rows; hand = V.hand }) so.view;
        exact = record { held = numbers_now; shown = shown_now };
        staged = staged_now;
        kept = λ y has. let o = so.kept y has in let u = kept_row o.0 o.1 in (u.0, u.1, u.2 ∙ o.2, u.3 ∙ o.3);
        made = made_now;
        only = only_now;
        left = λ p before after. still_there so.tables q p (so.left p before after);
        within = within_now;
        parents = parents_now;
        missing = (let m = so.missing in let f = one_fewer so.tables q (state_of b).tables wanted absent in omega (arith, m, f));
        count = (let one = inserted_length made between rows'' inserted in let same = with_length rows' links.at content in let was = so.count in omega (arith, one, same, was));
        hand = hand_now;
        granted = granted_now;
        of_hand = λ y has. so.of_hand y (kept (λ (u : HandRow). not (nat_eq u.row g.0)) w.hand y has).1;
        given = by_row (λ h. h.is_given ≡ true) so.given (λ h has e. so.given h has) refl;
        vacant = λ h i has within free. by_row (λ h. is_link (slice_index h.words i) ≡ false → Has h.vacant i) (λ k there f. so.vacant k i there within f) (λ k there e f. vacant_up k there i within f) (λ f. all_vacant i within) h has free;
      }

      pub one_more : LinkedSoFar a b thread c kit (suc next) v rows z rows''
      one_more = subst (λ (u : PassView (List Cell) B E). LinkedSoFar a b thread c kit (suc next) v rows u rows'') (sym view_is) linked_so_far

      pub links_next : LinksNext q rows' rows''
      links_next = record {
        there = (made, inserted_here made between rows'' inserted, refl);
        kept = listed;
        only = λ p l. elim (inserted_cases made between rows'' inserted l.0 l.1) [
          | inl e ↦ inl (sym l.2 ∙ ap (λ (y : Row). y.place) (sym e))
          | inr old ↦ let u = content_was rows' links.at x content links.is_at.inside here l.0 old in inr (u.0, u.1, u.3 ∙ l.2)
        ];
      }
