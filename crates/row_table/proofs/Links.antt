-- Set entry and unlink keep the rule.
use Rattle.std.proofs.Common.{◌≡◌, ◌≢◌, ℕ, zero, suc, ◌+◌, ◌*◌, ◌<◌, ◌≤◌, ◌⊎◌, eqb, not, cond, true, false, Bool, List, [], ◌∷◌, ◌++◌, map, length, get_or, set, sym, refl, ap, ◌∙◌, subst, inl, inr, ⊎_elim, arith, get_or-set_same, get_or-set_other, eq-eqb, ne_eqb, Option, Some, None}
use Rattle.std.specs.List.{Contains, filter, range_with_len}
use mathlib.Core.Option.{some, none}
use mathlib.Core.Logic.{dite}
use native.Mathlib.Decide.{ℕ_discrete}
use lib.ListN.{get_elem?}
use Rattle.atomic_table.specs.Table.{Allows, step, keeps}
use Rattle.table_place.specs.declared.Place.{Place}
use Rattle.table_place.specs.Place.{entry_place, is_place}
use Rattle.walk_core.specs.declared.event.Event.TheVariants.{SetEntry, Unlink}
use Rattle.walk_core.specs.declared.pass.GrantedRow.{GrantedRow}
use Rattle.walk_core.specs.declared.pass.UnlinkedRow.{UnlinkedRow}
use Rattle.walk_core.specs.Words.{entry_at, position_at, generation_at, is_link, link_row, is_leaf, place_shown}
use Rattle.walk_core.specs.Lists.{times, Has, among, without}
use Rattle.walk_core.specs.Core.{Core, word, place_in, granted_rows, times_in_hand, times_out, IsLinked}
use Rattle.walk_core.specs.Events.{granted_after_entry, newly_unlinked}
use Rattle.walk_core.specs.Guards.{MayMap, MayLink}
use Rattle.walk_core.proofs.RowLists.{times-nil, times_kept, times_without_same, times_without_le, among_has, has_part}
use Rattle.walk_core.proofs.Spellings.{zero_no_link, leaf_no_link}
use Rattle.walk_core.proofs.Tree.{linker_linked}
use Rattle.walk_core.proofs.Facts.{hand-le-out}
use Rattle.walk_core.proofs.KeepsLinks.{times-unlinked_more}
use Rattle.row_layout.specs.declared.places.Layout.{Layout}
use Rattle.row_table.specs.declared.view.PassView.{PassView}
use Rattle.row_table.specs.declared.view.HeldRow.{HeldRow}
use Rattle.row_table.specs.declared.view.HandRow.{HandRow}
use Rattle.row_table.specs.Plan.{Meaning}
use Rattle.row_table.specs.Vacant.{all_entries, IsUnder, KeepsVacant}
use Rattle.row_table.specs.Rows.{row_words, place_at, lock_of, generation_of}
use Rattle.row_table.specs.Rule.{Seat, Table, view, IsOne, row_part, hand_part, hand_state, granted_state, core_of, IsHeldRow, Knows, Holds}
use Rattle.row_table.specs.Moves.{NotInHand}
use Rattle.row_table.specs.Links.{with_word, newly_linked, with_link, word_set, link_set, entry_set, entry_cut, LinksHand, MaySetEntry, SetTells, MayUnlink, CutTells}
use Rattle.row_table.proofs.Shown.{word_at, words_long}
use Rattle.row_table.proofs.Hands.{rows_granted, states_kept}
use Rattle.row_table.proofs.Views.{kept, pass_is, held_of_row, has_held, is_linked}
use Rattle.row_table.proofs.Turns.{same_parts, contained_map}
use Rattle.row_table.proofs.Vacant.{entry_below}
use Rattle.row_table.proofs.Openings.{low_levels}
use Rattle.row_table.proofs.Beside.{unique_part, held_once, others_show, epochs_stay, moved_beside, no_other_held}
use Rattle.table_place.proofs.Entries.{level_of, below_is, entry_page}

-- Words of a row

same_range : (f g : ℕ → ℕ) (a n : ℕ) → ((j : ℕ) → a ≤ j → g j ≡ f j) → map f (range_with_len a n) ≡ map g (range_with_len a n)
same_range f g a zero same = refl
same_range f g a (suc n) same = λ t. sym (same a (omega arith)) t ∷ same_range f g (a + 1) n (λ j h. same j (omega arith)) t

range_set : (f g : ℕ → ℕ) (a n i x : ℕ) → i < n → g (a + i) ≡ x → ((j : ℕ) → j ≢ a + i → g j ≡ f j) → set (map f (range_with_len a n)) i x ≡ map g (range_with_len a n)
range_set f g a zero i x less here other = absurd (omega arith)
range_set f g a (suc n) zero x less here other = let e : a + 0 ≡ a = omega arith in
    λ t. (sym here ∙ ap g e) t ∷ same_range f g (a + 1) n (λ j h. other j (λ z. omega arith)) t
range_set f g a (suc n) (suc i) x less here other = let e : a + suc i ≡ a + 1 + i = omega arith in
    λ t. sym (other a (λ z. omega arith)) t ∷ range_set f g (a + 1) n i x (omega arith) (ap g (sym e) ∙ here) (λ j ne. other j (λ z. ne (z ∙ e))) t

pub words_set : (ws : List ℕ) (r i x : ℕ) → i < 512 → entry_at r i < length ws → row_words (set ws (515 * r + i) x) r ≡ set (row_words ws r) i x
unfolding row_words
words_set ws r i x inside near = sym (range_set (λ (j : ℕ). get_or ws (entry_at r j) 0) (λ (j : ℕ). get_or (set ws (515 * r + i) x) (entry_at r j) 0) 0 512 i x inside
    (let e : 515 * r + (0 + i) ≡ 515 * r + i = omega arith in ap (λ (j : ℕ). get_or (set ws (515 * r + i) x) j 0) e ∙ get_or-set_same ws (515 * r + i) x 0 near)
    (λ j ne. get_or-set_other ws (515 * r + i) (entry_at r j) x 0 (λ e. ne (omega arith))))

-- rows other than one
pub parts_without : {X : Type 0} (f : X → ℕ) (r : ℕ) (xs : List X) → map f (filter (λ x. not (eqb (f x) r)) xs) ≡ without r (map f xs)
parts_without f r [] = refl
parts_without {X} f r (x ∷ xs) = go (parts_without f r xs) (eqb (f x) r) refl
  where
    go : map f (filter (λ x. not (eqb (f x) r)) xs) ≡ without r (map f xs) → (b : Bool) → eqb (f x) r ≡ b → map f (filter (λ x. not (eqb (f x) r)) (x ∷ xs)) ≡ without r (map f (x ∷ xs))
    go rest true e = ap (λ (b : Bool). map f (cond (not b) (x ∷ filter (λ x. not (eqb (f x) r)) xs) (filter (λ x. not (eqb (f x) r)) xs))) e
        ∙ (rest ∙ ap (λ (b : Bool). cond (not b) (f x ∷ without r (map f xs)) (without r (map f xs))) (sym e))
    go rest false e = ap (λ (b : Bool). map f (cond (not b) (x ∷ filter (λ x. not (eqb (f x) r)) xs) (filter (λ x. not (eqb (f x) r)) xs))) e
        ∙ (ap (λ (l : List ℕ). f x ∷ l) rest ∙ ap (λ (b : Bool). cond (not b) (f x ∷ without r (map f xs)) (without r (map f xs))) (sym e))

-- a position below an entry of a row is one below the row
under_row : (levels : ℕ) (p q : Place) (j : ℕ) → q.level < 6 → j < 512 → IsUnder p (entry_place levels q j) → IsUnder p q
under_row levels p q j low inside u =
    let x = ap (λ (y : Place). y.level) (below_is levels q j low) in let level = u.level in let lowest = u.lowest in
    record { lowest = lowest; level = omega arith; covers = λ space page h. entry_page levels q j space page (omega arith) low inside (u.covers space page h) }

under_same : (p q : Place) → p ≡ q → 1 ≤ p.level → IsUnder p q
under_same p q e lowest = subst (IsUnder p) e (record { lowest = lowest; level = omega arith; covers = λ space page h. h })

-- a held row is of the same row after an entry word was stored, and after a link was
module _ {R : Type 0} where
  pub with_word_row : (r i x : ℕ) (h : HeldRow R) → (with_word r i x h).row ≡ h.row
  with_word_row r i x h = go (eqb h.row r)
    where
      go : (b : Bool) → (cond b (record h { words = set h.words i x }) h).row ≡ h.row
      go true = refl
      go false = refl

  pub with_link_row : (linker : HeldRow R) (i child : ℕ) (h : HeldRow R) → (with_link linker i child h).row ≡ h.row
  with_link_row linker i child h = go (eqb h.row child) (eqb h.row linker.row)
    where
      go : (a b : Bool) → (cond a (newly_linked linker i h) (cond b (record h { vacant = without i h.vacant }) h)).row ≡ h.row
      go true b = refl
      go false true = refl
      go false false = refl

module _ {R B E : Type 0} (M : Meaning R B E) where
  module _ (k : Layout) (first : B) (ws : List ℕ) (r i x : ℕ) (less : r < k.rows) (inside : i < 512) (near : entry_at r i < length ws) where
    abbrev us : List ℕ
    us = set ws (515 * r + i) x

    shows : (q : ℕ) → q ≢ r → Rattle.row_table.proofs.Shown.ShowsSame ws us q
    shows q ne = others_show M k ws r i x less (omega arith) (λ e. omega arith) q ne

    place_stays : (q : ℕ) → place_at us q ≡ place_at ws q
    place_stays q = ap place_shown (get_or-set_other ws (515 * r + i) (position_at q) x 0 (λ e. omega arith))

    generation_stays : (q : ℕ) → generation_of us q ≡ generation_of ws q
    generation_stays q = get_or-set_other ws (515 * r + i) (generation_at q) x 0 (λ e. omega arith)

    -- the rows after the word was stored
    is_here : (h : HeldRow R) → h.row ≡ r → with_word r i x h ≡ record h { words = set h.words i x }
    is_here h e = ap (λ (b : Bool). cond b (record h { words = set h.words i x }) h) (eq-eqb h.row r e)

    is_other : (h : HeldRow R) → h.row ≢ r → with_word r i x h ≡ h
    is_other h ne = ap (λ (b : Bool). cond b (record h { words = set h.words i x }) h) (ne_eqb h.row r ne)

    words_here : (h : HeldRow R) → h.row ≡ r → row_words ws h.row ≡ h.words → row_words us h.row ≡ set h.words i x
    words_here h e shown = ap (row_words us) e ∙ (words_set ws r i x inside near ∙ ap (λ (l : List ℕ). set l i x) (ap (row_words ws) (sym e) ∙ shown))

    -- what the pass knows, where each held row h becomes f h, and the hand and the granted rows are these
    entry_knows : (b : B) (v : PassView R B E) (gs : List GrantedRow) (ds : List UnlinkedRow) (f : HeldRow R → HeldRow R) (hand : List HandRow) → Knows M k first ws b v
        → ((h : HeldRow R) → (f h).row ≡ h.row)
        → ((h : HeldRow R) → Contains v.rows h → IsHeldRow M k us b (record v { core = record v.core { granted = gs; unlinked = ds }; rows = map f v.rows; hand = hand }) (f h))
        → map hand_state hand ≡ map granted_state gs → ((y : HandRow) → Contains hand y → Contains v.hand y)
        → ((h : HeldRow R) → Contains v.rows h → times_in_hand h.row (record v.core { granted = gs; unlinked = ds }) ≡ 0 → KeepsVacant M k.levels b v.last (f h))
        → Knows M k first us b (record v { core = record v.core { granted = gs; unlinked = ds }; rows = map f v.rows; hand = hand })
    entry_knows b v gs ds f hand old same rows granted in_hand vacant = record {
      there = old.there;
      layout = old.layout;
      epoch = epochs_stay M k ws r i x less (omega arith) (λ e. omega arith) v.number ∙ old.epoch;
      held = same_parts f row_part row_part same v.rows ∙ old.held;
      rows = λ y j. let o = contained_map f v.rows y j in
          subst (IsHeldRow M k us b (record v { core = record v.core { granted = gs; unlinked = ds }; rows = map f v.rows; hand = hand })) o.2 (rows o.0 o.1);
      granted = granted;
      hand = λ y j. let o = old.hand y (in_hand y j) in record { there = o.there; shown = generation_stays y.row ∙ o.shown; below = o.below; fresh = o.fresh };
      vacant = λ y j. let o = contained_map f v.rows y j in
          subst (λ (u : HeldRow R). times_in_hand u.row (record v.core { granted = gs; unlinked = ds }) ≡ 0 → KeepsVacant M k.levels b v.last u) o.2
          (λ out. vacant o.0 o.1 (sym (ap (λ (q : ℕ). times_in_hand q (record v.core { granted = gs; unlinked = ds })) (same o.0)) ∙ out));
      placed = λ y j p e. place_stays y.row ∙ old.placed y (in_hand y j) p e;
      found = old.found;
      origin = old.origin;
      seen = old.seen;
      mine = old.mine;
    }

    -- a row where one of its words was stored, and the words of other rows
    word_row : (b : B) (v w : PassView R B E) (h : HeldRow R) → w.last ≡ v.last → (times_in_hand h.row w.core ≡ 0 → times_in_hand h.row v.core ≡ 0) → IsHeldRow M k ws b v h → IsHeldRow M k us b w (with_word r i x h)
    word_row b v w h last out old = dite (ℕ_discrete h.row r)
        (λ e. subst (IsHeldRow M k us b w) (sym (is_here h e)) (record {
          there = old.there;
          shown = words_here h e old.shown;
          place = place_stays h.row ∙ old.place;
          generation = generation_stays h.row ∙ old.generation;
          agrees = λ z. let a = old.agrees (out z) in record { found = a.found; given = λ g c is. a.given g c (sym last ∙ is) };
        }))
        (λ ne. subst (IsHeldRow M k us b w) (sym (is_other h ne)) (record {
          there = old.there;
          shown = (shows h.row ne).words ∙ old.shown;
          place = place_stays h.row ∙ old.place;
          generation = generation_stays h.row ∙ old.generation;
          agrees = λ z. let a = old.agrees (out z) in record { found = a.found; given = λ g c is. a.given g c (sym last ∙ is) };
        }))

    word_vacant : (levels : ℕ) (b : B) (last : Option B) (h : HeldRow R) → is_link x ≡ false → row_words ws h.row ≡ h.words → KeepsVacant M levels b last h → KeepsVacant M levels b last (with_word r i x h)
    word_vacant levels b last h plain shown old = dite (ℕ_discrete h.row r)
        (λ e. subst (KeepsVacant M levels b last) (sym (is_here h e)) (record {
          vacant = λ j has. let o = old.vacant j has in (
            o.0,
            dite (ℕ_discrete j i)
                (λ same. let long = ap length shown in let all = words_long ws h.row in
                ap is_link (ap (λ (q : ℕ). get_or (set h.words i x) q 0) same ∙ get_or-set_same h.words i x 0 (omega arith)) ∙ plain)
                (λ ne. ap is_link (get_or-set_other h.words i j x 0 (λ z. ne z)) ∙ o.1),
          );
          keeps = old.keeps;
        }))
        (λ ne. subst (KeepsVacant M levels b last) (sym (is_other h ne)) old)

  -- A held row of the pass that stores a word, and the row that it may link

  module _ (k : Layout) (first : B) (s : Table R B E) (h : Holds M k first s) (v : PassView R B E) (mine : get_elem? h.passes v.number ≡ some v) (linker : HeldRow R) (held : Contains v.rows linker) where
    abbrev c : Core
    c = core_of M k s.words h.passes h.free h.book

    abbrev r : ℕ
    r = linker.row

    know : Knows M k first s.words h.book v
    know = h.knows v.number v mine

    has : Has v.core.held r
    has = held_of_row M k first s h v mine linker held

    there : r < k.rows
    there = (know.rows linker held).there

    taken : lock_of s.words r ≢ 0
    taken z = let shown = (h.good.locks.rows.held v.number r (has_held M k first s h v mine r has)).shown in omega arith

    near_word : (i : ℕ) → i < 512 → entry_at r i < length s.words
    near_word i inside = let wide = h.good.sizes.words in let less = there in omega arith

    entry_is : (i : ℕ) → i < 512 → get_or s.words (entry_at r i) 0 ≡ get_or linker.words i 0
    entry_is i inside = sym (word_at s.words r i inside) ∙ ap (λ (l : List ℕ). get_or l i 0) (know.rows linker held).shown

    low_after : (i x : ℕ) → i < 512 → generation_of (set s.words (515 * r + i) x) r < M.next_generation h.book
    low_after i x inside = subst (λ (n : ℕ). n < M.next_generation h.book) (sym (generation_stays k first s.words r i x there inside (near_word i inside) r)) (h.generations r there)

    same_linker : (y : HeldRow R) → Contains v.rows y → y.row ≡ r → linker ≡ y
    same_linker y j e = unique_part row_part v.rows linker y held j (sym e) (held_once M k first s h v mine r)

    -- a word that is no link
    stores_plain : (i x : ℕ) → i < 512 → IsLinked c r → is_link (get_or linker.words i 0) ≡ false → is_link x ≡ false → (x ≡ 0) ⊎ (MayMap c r x ⊎ MayLink c v.core r i x)
        → (id : ℕ) → get_elem? s.views id ≡ some (v ∷ [])
        → Holds M k first (record { words = set s.words (515 * r + i) x; homes = s.homes; views = set s.views id (word_set v r i x ∷ []) })
    stores_plain i x inside linked old plain new id me =
        moved_beside M k first s h id v (word_set v r i x) (SetEntry v.number r i x) r i x me refl refl
        (record { held = has; linked = linked; inside = inside; old = ap is_link (entry_is i inside) ∙ old; new = new })
        (ap (λ (t : Bool). record v.core { granted = cond t (filter (λ (g : GrantedRow). not (eqb g.row (link_row x))) v.core.granted) v.core.granted }) (sym plain)) refl refl
        refl there (omega arith) (λ e. omega arith) taken (low_after i x inside) (no_other_held M k first s h v mine r (has_held M k first s h v mine r has) linked)
        (entry_knows k first s.words r i x there inside (near_word i inside) h.book v v.core.granted v.core.unlinked (with_word r i x) v.hand know
        (with_word_row r i x)
        (λ y j. word_row k first s.words r i x there inside (near_word i inside) h.book v (word_set v r i x) y refl (λ z. z) (know.rows y j))
        know.granted (λ y j. j)
        (λ y j out. word_vacant k first s.words r i x there inside (near_word i inside) k.levels h.book v.last y plain (know.rows y j).shown (know.vacant y j out)))

    -- a link to a row of the hand

    module _ (i x : ℕ) (inside : i < 512) (linked : IsLinked c r) (old : is_link (get_or linker.words i 0) ≡ false) (may : LinksHand v linker i x) where
      abbrev child : ℕ
      child = link_row x

      abbrev gs : List GrantedRow
      gs = granted_after_entry x v.core.granted

      abbrev w : PassView R B E
      w = link_set v linker i x

      granted_child : Has (granted_rows v.core) child
      granted_child = subst (Has (granted_rows v.core)) may.same_row (subst (λ (l : List ℕ). Has l may.hand_row.row) (rows_granted v.hand v.core.granted know.granted) (has_part hand_part v.hand may.hand_row may.granted))

      child_out : 1 ≤ times_out c child
      child_out = let all = h.good.sizes.passes in let low = know.there in let hand = hand-le-out c v.number child (omega arith) in
          let same = ap (times_in_hand child) (pass_is M k first s h v mine) in let granted = granted_child in omega arith

      child_not_here : child ≢ r
      child_not_here e = let tree = linked.in_tree in let out = child_out in let same = ap (times_out c) e in omega arith

      child_there : child < k.rows
      child_there = let o = (know.rows may.child may.is_open).there in let e = may.child_row in omega arith

      child_place : place_at s.words child ≡ entry_place k.levels linker.place i
      child_place = ap (place_at s.words) (sym may.child_row) ∙ ((know.rows may.child may.is_open).place ∙ (may.place ∙ ap (λ (y : Layout). entry_place y.levels linker.place i) know.layout))

      child_level : (1 ≤ (entry_place k.levels linker.place i).level) × ((entry_place k.levels linker.place i).level ≤ k.levels)
      child_level = level_of k.levels (entry_place k.levels linker.place i) (ap (is_place k.levels) (sym child_place)
          ∙ h.good.links.held_places v.number child (λ e. let root = h.good.states.root in let out = child_out in let same = ap (times_out c) e in omega arith) child_there
          (has_held M k first s h v mine child (subst (Has v.core.held) may.child_row (held_of_row M k first s h v mine may.child may.is_open))))

      gs_is : gs ≡ filter (λ (g : GrantedRow). not (eqb g.row child)) v.core.granted
      gs_is = ap (λ (t : Bool). cond t (filter (λ (g : GrantedRow). not (eqb g.row child)) v.core.granted) v.core.granted) may.link

      still_out : (q : ℕ) → q ≢ child → times_in_hand q w.core ≡ 0 → times_in_hand q v.core ≡ 0
      still_out q ne out =
          let a = ap (λ (l : List GrantedRow). times q (map (λ (g : GrantedRow). g.row) l)) gs_is in
          let b = times_kept (λ (g : GrantedRow). g.row) (λ y. not (eqb y child)) q v.core.granted (ap not (ne_eqb q child ne)) in omega arith

      link_row_same : (y : HeldRow R) → (with_link linker i child (with_word r i x y)).row ≡ y.row
      link_row_same y = with_link_row linker i child (with_word r i x y) ∙ with_word_row r i x y

      -- the row that is linked, the row that links it, and the other rows
      of_child : (y : HeldRow R) → y.row ≡ child → with_link linker i child (with_word r i x y) ≡ newly_linked linker i y
      of_child y e = let z = is_other k first s.words r i x there inside (near_word i inside) y (λ f. child_not_here (sym e ∙ f)) in
          ap (with_link linker i child) z ∙ ap (λ (t : Bool). cond t (newly_linked linker i y) (cond (eqb y.row r) (record y { vacant = without i y.vacant }) y)) (eq-eqb y.row child e)

      of_linker : (y : HeldRow R) → y.row ≡ r → with_link linker i child (with_word r i x y) ≡ record y { words = set y.words i x; vacant = without i y.vacant }
      of_linker y e = let z : HeldRow R = record y { words = set y.words i x } in let ne : y.row ≢ child = λ f. child_not_here (sym f ∙ e) in
          ap (with_link linker i child) (is_here k first s.words r i x there inside (near_word i inside) y e)
          ∙ (ap (λ (t : Bool). cond t (newly_linked linker i z) (cond (eqb y.row r) (record z { vacant = without i z.vacant }) z)) (ne_eqb y.row child ne)
          ∙ ap (λ (t : Bool). cond t (record z { vacant = without i z.vacant }) z) (eq-eqb y.row r e))

      of_other : (y : HeldRow R) → y.row ≢ child → y.row ≢ r → with_link linker i child (with_word r i x y) ≡ y
      of_other y nc nr =
          ap (with_link linker i child) (is_other k first s.words r i x there inside (near_word i inside) y nr)
          ∙ (ap (λ (t : Bool). cond t (newly_linked linker i y) (cond (eqb y.row r) (record y { vacant = without i y.vacant }) y)) (ne_eqb y.row child nc)
          ∙ ap (λ (t : Bool). cond t (record y { vacant = without i y.vacant }) y) (ne_eqb y.row r nr))

      -- where the entry was vacant, whatever agreed below it with the last book agrees with the book
      kept_below : among linker.vacant i ≡ true → (a : B) → v.last ≡ Some a → (p : Place) → IsUnder p (entry_place k.levels linker.place i) → (words : List ℕ) (y : R) → M.agrees a p words y → M.agrees h.book p words y
      kept_below vacant a last p under words y agrees =
          let out : NotInHand v r = Rattle.row_table.proofs.Views.not_in_hand M k first s h v mine r linked in
          (know.vacant linker held out).keeps i (among_has linker.vacant i vacant) a last p under words y agrees

      place_of_child : (y : HeldRow R) → Contains v.rows y → y.row ≡ child → y.place ≡ entry_place k.levels linker.place i
      place_of_child y j e = sym (know.rows y j).place ∙ (ap (place_at s.words) e ∙ child_place)

      linked_row : (y : HeldRow R) → Contains v.rows y → IsHeldRow M k (set s.words (515 * r + i) x) h.book w (with_link linker i child (with_word r i x y))
      linked_row y j = dite (ℕ_discrete y.row child)
          (λ e. let o = know.rows y j in subst (IsHeldRow M k (set s.words (515 * r + i) x) h.book w) (sym (of_child y e)) (record {
            there = o.there;
            shown = (shows k first s.words r i x there inside (near_word i inside) y.row (λ f. child_not_here (sym e ∙ f))).words ∙ o.shown;
            place = place_stays k first s.words r i x there inside (near_word i inside) y.row ∙ o.place;
            generation = generation_stays k first s.words r i x there inside (near_word i inside) y.row ∙ o.generation;
            agrees = λ _. record {
              found = λ z u f. absurd (cc);
              given = λ vacant a last words u agrees. kept_below vacant a last y.place (under_same y.place (entry_place k.levels linker.place i) (place_of_child y j e)
                  (let same = ap (λ (p : Place). p.level) (place_of_child y j e) in let low = child_level.0 in omega arith)) words u agrees;
            };
          }))
          (λ nc. dite (ℕ_discrete y.row r)
          (λ e. let o = know.rows y j in subst (IsHeldRow M k (set s.words (515 * r + i) x) h.book w) (sym (of_linker y e)) (record {
            there = o.there;
            shown = words_here k first s.words r i x there inside (near_word i inside) y e o.shown;
            place = place_stays k first s.words r i x there inside (near_word i inside) y.row ∙ o.place;
            generation = generation_stays k first s.words r i x there inside (near_word i inside) y.row ∙ o.generation;
            agrees = λ z. let a = o.agrees (still_out y.row nc z) in record { found = a.found; given = a.given };
          }))
          (λ nr. let o = know.rows y j in subst (IsHeldRow M k (set s.words (515 * r + i) x) h.book w) (sym (of_other y nc nr)) (record {
            there = o.there;
            shown = (shows k first s.words r i x there inside (near_word i inside) y.row nr).words ∙ o.shown;
            place = place_stays k first s.words r i x there inside (near_word i inside) y.row ∙ o.place;
            generation = generation_stays k first s.words r i x there inside (near_word i inside) y.row ∙ o.generation;
            agrees = λ z. let a = o.agrees (still_out y.row nc z) in record { found = a.found; given = a.given };
          })))

      child_vacant : (y : HeldRow R) → Contains v.rows y → y.row ≡ child → KeepsVacant M k.levels h.book v.last (newly_linked linker i y)
      child_vacant y j e = go (among linker.vacant i) refl
        where
          go : (t : Bool) → among linker.vacant i ≡ t → KeepsVacant M k.levels h.book v.last (record y { found = None; is_given = t; vacant = cond t all_entries [] })
          go true is = record {
            vacant = λ q has_q. let low = entry_below q has_q in (
              low,
              ap is_link (ap (λ (l : List ℕ). get_or l q 0) (sym (know.rows y j).shown) ∙ (word_at s.words y.row q low
                  ∙ (ap (λ (z : ℕ). get_or s.words (entry_at z q) 0) e ∙ h.good.links.empty child q child_there low child_out))) ∙ zero_no_link,
            );
            keeps = λ q has_q a last p under. let low = entry_below q has_q in let few = low_levels k k refl h.good.sizes.bounds.some_levels in let level = child_level.1 in
                kept_below is a last p (under_row k.levels p (entry_place k.levels linker.place i) q (omega arith) low (subst (λ (z : Place). IsUnder p (entry_place k.levels z q)) (place_of_child y j e) under));
          }
          go false is = record { vacant = λ q none_has. let n = times-nil q in absurd (omega arith); keeps = λ q none_has. let n = times-nil q in absurd (omega arith) }

      linked_vacant : (y : HeldRow R) → Contains v.rows y → times_in_hand y.row w.core ≡ 0 → KeepsVacant M k.levels h.book v.last (with_link linker i child (with_word r i x y))
      linked_vacant y j out = dite (ℕ_discrete y.row child)
          (λ e. subst (KeepsVacant M k.levels h.book v.last) (sym (of_child y e)) (child_vacant y j e))
          (λ nc. dite (ℕ_discrete y.row r)
          (λ e. let o = know.vacant y j (still_out y.row nc out) in subst (KeepsVacant M k.levels h.book v.last) (sym (of_linker y e)) (record {
            vacant = λ q has_q. let at = o.vacant q (times_without_le i q y.vacant has_q) in (
              at.0,
              dite (ℕ_discrete q i)
                  (λ z. let none_left = times_without_same i q y.vacant z in absurd (omega arith))
                  (λ ne. ap is_link (get_or-set_other y.words i q x 0 (λ z. ne z)) ∙ at.1),
            );
            keeps = λ q has_q. o.keeps q (times_without_le i q y.vacant has_q);
          }))
          (λ nr. subst (KeepsVacant M k.levels h.book v.last) (sym (of_other y nc nr)) (know.vacant y j (still_out y.row nc out))))

      pub stores_link : (id : ℕ) → get_elem? s.views id ≡ some (v ∷ [])
          → Holds M k first (record { words = set s.words (515 * r + i) x; homes = s.homes; views = set s.views id (link_set v linker i x ∷ []) })
      stores_link id me =
          moved_beside M k first s h id v w (SetEntry v.number r i x) r i x me refl refl
          (record {
            held = has;
            linked = linked;
            inside = inside;
            old = ap is_link (entry_is i inside) ∙ old;
            new = inr (inr (record {
              link = may.link;
              granted = granted_child;
              open_row = subst (Has v.core.held) may.child_row (held_of_row M k first s h v mine may.child may.is_open);
              place = child_place ∙ ap (λ (p : Place). entry_place k.levels p i) (sym (know.rows linker held).place);
              generation = ap (generation_of s.words) (sym may.same_row) ∙ ((know.hand may.hand_row may.granted).shown ∙ may.generation);
            }));
          })
          refl refl refl
          refl there (omega arith) (λ e. omega arith) taken (low_after i x inside) (no_other_held M k first s h v mine r (has_held M k first s h v mine r has) linked)
          (entry_knows k first s.words r i x there inside (near_word i inside) h.book v gs v.core.unlinked (λ y. with_link linker i child (with_word r i x y)) (filter (λ (y : HandRow). not (eqb y.row child)) v.hand) know
          link_row_same
          linked_row
          (states_kept child v.hand v.core.granted know.granted ∙ ap (map granted_state) (sym gs_is))
          (λ y j. (kept (λ (u : HandRow). not (eqb u.row child)) v.hand y j).1)
          linked_vacant)

    -- Unlink

    cuts_entry : (i : ℕ) → i < 512 → is_link (get_or linker.words i 0) ≡ true → (child : HeldRow R) → Contains v.rows child → child.row ≡ link_row (get_or linker.words i 0) → ((j : ℕ) → j < 512 → get_or child.words j 0 ≡ 0)
        → (id : ℕ) → get_elem? s.views id ≡ some (v ∷ [])
        → Holds M k first (record { words = set s.words (515 * r + i) 0; homes = s.homes; views = set s.views id (entry_cut v linker i ∷ []) })
    cuts_entry i inside link child child_held child_row empty id me =
        let found : get_or s.words (entry_at r i) 0 ≡ get_or linker.words i 0 = entry_is i inside in
        let to : link_row (get_or s.words (entry_at r i) 0) ≡ child.row = ap link_row found ∙ sym child_row in
        let is : is_link (word c (entry_at r i)) ≡ true = ap is_link found ∙ link in
        let linked : IsLinked c r = linker_linked h.good.links r i there inside is zero_no_link in
        let w : PassView R B E = entry_cut v linker i in
        let out : (q : ℕ) → times_in_hand q w.core ≡ 0 → times_in_hand q v.core ≡ 0
        = λ q z. (let more = times-unlinked_more q v.core.unlinked (link_row (get_or linker.words i 0)) in omega arith) in
        moved_beside M k first s h id v w (Unlink v.number r i) r i 0 me refl refl
        (record {
          held = has;
          inside = inside;
          link = is;
          child_held = subst (Has v.core.held) (sym to) (held_of_row M k first s h v mine child child_held);
          child_empty = λ j low. ap (λ (q : ℕ). get_or s.words (entry_at q j) 0) to ∙ (sym (word_at s.words child.row j low) ∙ (ap (λ (l : List ℕ). get_or l j 0) (know.rows child child_held).shown ∙ empty j low));
        })
        (ap (λ (n : ℕ). record v.core { unlinked = v.core.unlinked ++ newly_unlinked (link_row n) ∷ [] }) (sym found)) refl refl
        refl there (omega arith) (λ e. omega arith) taken (low_after i 0 inside) (no_other_held M k first s h v mine r (has_held M k first s h v mine r has) linked)
        (entry_knows k first s.words r i 0 there inside (near_word i inside) h.book v v.core.granted (v.core.unlinked ++ newly_unlinked (link_row (get_or linker.words i 0)) ∷ []) (with_word r i 0) v.hand know
        (with_word_row r i 0)
        (λ y j. word_row k first s.words r i 0 there inside (near_word i inside) h.book v w y refl (out y.row) (know.rows y j))
        know.granted (λ y j. j)
        (λ y j z. word_vacant k first s.words r i 0 there inside (near_word i inside) k.levels h.book v.last y zero_no_link (know.rows y j).shown (know.vacant y j (out y.row z))))

  pub cuts : (k : Layout) (first : B) (slots id : ℕ) (m : Seat R B E) (n r i : ℕ) → IsOne n m → MayUnlink (view m) r i
      → Allows (Holds M k first) slots id m (entry_at r i) (λ _. 0) (λ _. CutTells (step slots (entry_at r i) 0 0 none) m 0)
  cuts k first slots id m n r i one may =
      subst (λ (q : ℕ). Allows (Holds M k first) slots id m (entry_at q i) (λ _. 0) (λ _. CutTells (step slots (entry_at q i) 0 0 none) m 0)) may.same_row
      (λ s h long me _.
      let v : PassView R B E = view m in
      let me' : get_elem? s.views id ≡ some (v ∷ []) = me ∙ ap some one.0 in
      let mine : get_elem? h.passes v.number ≡ some v = (h.seats id (v ∷ []) me' 0 v refl).0 in
      let linker : HeldRow R = may.linker in let inside = may.inside in (
        entry_cut v linker i ∷ [],
        keeps,
        tt,
        cuts_entry k first s h v mine linker may.held i may.inside may.link may.child may.child_held may.child_row may.child_empty id me',
        λ row index y low at j e. let same : linker.row ≡ row = omega arith in let place : i ≡ index = omega arith in
            let is : linker ≡ y = same_linker k first s h v mine linker may.held y j (e ∙ sym same) in
            λ t. (entry_cut v (is t) (place t) ∷ [], m.1),
      ))

  pub cuts_at : (k : Layout) (first : B) (slots id : ℕ) (m : Seat R B E) (n r i a : ℕ) → a ≡ entry_at r i → IsOne n m → MayUnlink (view m) r i
      → Allows (Holds M k first) slots id m a (λ _. 0) (λ _. CutTells (step slots a 0 0 none) m 0)
  cuts_at k first slots id m n r i a at one may =
      subst (λ (j : ℕ). Allows (Holds M k first) slots id m j (λ _. 0) (λ _. CutTells (step slots j 0 0 none) m 0)) (sym at) (cuts k first slots id m n r i one may)

  pub sets : (k : Layout) (first : B) (slots id : ℕ) (m : Seat R B E) (n r i x : ℕ) → IsOne n m → MaySetEntry (view m) r i x
      → Allows (Holds M k first) slots id m (entry_at r i) (λ _. x) (λ _. SetTells (step slots (entry_at r i) x 0 none) m x)
  sets k first slots id m n r i x one may =
      subst (λ (q : ℕ). Allows (Holds M k first) slots id m (entry_at q i) (λ _. x) (λ _. SetTells (step slots (entry_at q i) x 0 none) m x)) may.same_row
      (λ s h long me _.
      let v : PassView R B E = view m in
      let me' : get_elem? s.views id ≡ some (v ∷ []) = me ∙ ap some one.0 in
      let mine : get_elem? h.passes v.number ≡ some v = (h.seats id (v ∷ []) me' 0 v refl).0 in
      let linker : HeldRow R = may.linker in let inside = may.inside in
      let c : Core = core_of M k s.words h.passes h.free h.book in
      let linked : IsLinked c linker.row = is_linked M k first s h v mine linker.row (held_of_row M k first s h v mine linker may.held) (ap (λ (q : ℕ). times_in_hand q v.core) may.same_row ∙ may.linked) in
      let After : Bool → Type 0 = λ t. Holds M k first (record { words = set s.words (515 * linker.row + i) x; homes = s.homes; views = set s.views id (cond t (link_set v linker i x) (word_set v linker.row i x) ∷ []) }) in
      let plain : is_link x ≡ false → ((x ≡ 0) ⊎ (MayMap c linker.row x ⊎ MayLink c v.core linker.row i x)) → After (is_link x)
      = λ e new. subst After (sym e) (stores_plain k first s h v mine linker may.held i x inside linked may.old e new id me') in
      let clash : is_link x ≡ false → is_link x ≡ true → link_row x < v.layout.rows = λ a b. (let both : true ≡ false = sym b ∙ a in absurd (cc)) in
      let below : is_link x ≡ true → link_row x < v.layout.rows = ⊎_elim (λ (e : x ≡ 0). clash (ap is_link e ∙ zero_no_link))
      (⊎_elim (λ (e : (is_leaf x ≡ true) × (linker.place.level ≡ 1)). clash (leaf_no_link x e.0))
      (λ (e : LinksHand v linker i x). λ _. subst (λ (y : Layout). link_row x < y.rows) (sym (h.knows v.number v mine).layout) (child_there k first s h v mine linker may.held i x inside linked may.old e))) may.new in
      let level : place_in c linker.row ≡ linker.place = ((h.knows v.number v mine).rows linker may.held).place in (
        entry_set v linker i x ∷ [],
        keeps,
        tt,
        ⊎_elim (λ (e : x ≡ 0). plain (ap is_link e ∙ zero_no_link) (inl e))
            (⊎_elim (λ (e : (is_leaf x ≡ true) × (linker.place.level ≡ 1)). plain (leaf_no_link x e.0) (inr (inl (record { leaf = e.0; lowest = ap (λ (p : Place). p.level) level ∙ e.1 }))))
            (λ (e : LinksHand v linker i x). subst After (sym e.link) (stores_link k first s h v mine linker may.held i x inside linked may.old e id me'))) may.new,
        λ row index y low at j e. let same : linker.row ≡ row = omega arith in let place : i ≡ index = omega arith in
            let is : linker ≡ y = same_linker k first s h v mine linker may.held y j (e ∙ sym same) in
            (below, λ t. (entry_set v (is t) (place t) x ∷ [], m.1)),
      ))

  pub sets_at : (k : Layout) (first : B) (slots id : ℕ) (m : Seat R B E) (n r i x a : ℕ) → a ≡ entry_at r i → IsOne n m → MaySetEntry (view m) r i x
      → Allows (Holds M k first) slots id m a (λ _. x) (λ _. SetTells (step slots a x 0 none) m x)
  sets_at k first slots id m n r i x a at one may =
      subst (λ (j : ℕ). Allows (Holds M k first) slots id m j (λ _. x) (λ _. SetTells (step slots j x 0 none) m x)) (sym at) (sets k first slots id m n r i x one may)
