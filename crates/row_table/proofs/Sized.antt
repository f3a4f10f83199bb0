-- The sizes that a pass keeps, after steps on rows of its hand and on entries.
use Rattle.std.proofs.Common.{◌≡◌, ℕ, ◌+◌, ◌<◌, eqb, not, cond, true, false, Bool, List, [], ◌∷◌, ◌++◌, map, length, get_or, set, sym, refl, ap, ◌∙◌, subst, ⊎_elim, arith, length-set, get_or-set_same, get_or-set_other}
use Rattle.std.specs.List.{Contains, filter}
use Rattle.std.proofs.lemmas.List.Elements.{Contains-push_cases}
use Rattle.std.proofs.lemmas.List.{get_or_past, map-append}
use Rattle.std.proofs.lemmas.Bool.{cases_lt}
use mathlib.Core.Logic.{dite}
use native.Mathlib.Decide.{ℕ_discrete}
use Rattle.atomic_table.specs.Seated.{TableId}
use Rattle.table_place.specs.declared.Place.{Place}
use Rattle.walk_core.specs.Words.{is_link, link_row}
use Rattle.walk_core.specs.declared.event.SetPart.TheVariants.{Position, Generation}
use Rattle.walk_core.specs.declared.pass.GrantedRow.{GrantedRow}
use Rattle.walk_core.specs.declared.pass.UnlinkedRow.{UnlinkedRow}
use Rattle.walk_core.specs.Lists.{Has, without}
use Rattle.walk_core.specs.Events.{granted_after_entry, granted_after_part, newly_unlinked}
use Rattle.walk_core.specs.Core.{granted_rows}
use Rattle.walk_core.proofs.RowLists.{times_without_le, granted_found, has_part}
use Rattle.walk_core.proofs.KeepsRows.{part_keeps_rows}
use Rattle.walk_core.proofs.Spellings.{zero_no_link}
use Rattle.row_table.specs.declared.view.PassView.{PassView}
use Rattle.row_table.specs.declared.view.HeldRow.{HeldRow}
use Rattle.row_table.specs.declared.view.HandRow.{HandRow}
use Rattle.row_table.specs.Rule.{row_part, hand_part}
use Rattle.row_table.specs.Known.{LinksBelow, IsSized}
use Rattle.row_table.specs.Openings.{with_place, opened_row, opened, prepared, MayOpen}
use Rattle.row_table.specs.Links.{with_word, newly_linked, with_link, word_set, link_set, entry_set, entry_cut}
use Rattle.row_layout.specs.declared.places.Layout.{Layout}
use Rattle.row_layout.specs.Places.{word_count}
use Rattle.row_table.proofs.Hands.{rows_placed, rows_numbered}
use Rattle.row_table.proofs.Turns.{same_parts, contained_map}
use Rattle.row_table.proofs.Sizes.{same_sizes}
use Rattle.row_table.proofs.Links.{parts_without, with_word_row, with_link_row}
use Rattle.row_table.proofs.Blank.{blank_zero, blank_long}

-- a stored entry leaves the layout and the book at the start
pub entry_knows : {R B E : Type 0} (v : PassView R B E) (linker : HeldRow R) (i x : ℕ) → ((entry_set v linker i x).layout ≡ v.layout) × ((entry_set v linker i x).origin ≡ v.origin)
entry_knows {R} {B} {E} v linker i x = go (is_link x)
  where
    go : (t : Bool) → let w : PassView R B E = cond t (link_set v linker i x) (word_set v linker.row i x) in (w.layout ≡ v.layout) × (w.origin ≡ v.origin)
    go true = (refl, refl)
    go false = (refl, refl)

-- a row that is granted after an entry was stored was so before
entry_grants : (x : ℕ) (gs : List GrantedRow) (r : ℕ) → Has (map (λ (g : GrantedRow). g.row) (granted_after_entry x gs)) r → Has (map (λ (g : GrantedRow). g.row) gs) r
entry_grants x gs r = go (is_link x)
  where
    go : (t : Bool) → Has (map (λ (g : GrantedRow). g.row) (cond t (filter (λ (g : GrantedRow). not (eqb g.row (link_row x))) gs) gs)) r → Has (map (λ (g : GrantedRow). g.row) gs) r
    go true has = times_without_le (link_row x) r (map (λ (g : GrantedRow). g.row) gs) (subst (λ (l : List ℕ). Has l r) (parts_without (λ (g : GrantedRow). g.row) (link_row x) gs) has)
    go false has = has

-- a stored entry leaves the held rows, and whether the pass has the book
pub entry_same : {R B E : Type 0} (v : PassView R B E) (linker : HeldRow R) (i x : ℕ)
    → ((entry_set v linker i x).number ≡ v.number) × ((entry_set v linker i x).core.held ≡ v.core.held) × ((entry_set v linker i x).core.has_book ≡ v.core.has_book)
entry_same {R} {B} {E} v linker i x = go (is_link x)
  where
    go : (t : Bool) → let w : PassView R B E = cond t (link_set v linker i x) (word_set v linker.row i x) in
        (w.number ≡ v.number) × (w.core.held ≡ v.core.held) × (w.core.has_book ≡ v.core.has_book)
    go true = (refl, refl, refl)
    go false = (refl, refl, refl)

module _ {R B E : Type 0} {n rows epoch : ℕ} {id : TableId} {v : PassView R B E} (old : IsSized n rows epoch id v) where
  pub granted_there : (other : TableId) (k : Layout) → id ≡ other → other.words ≡ word_count k → other.slots ≡ k.rows + 1 → (r : ℕ) → Has (granted_rows v.core) r → r < k.rows
  granted_there other k same words slots r has = let less = old.granted.1 r has in let all = (same_sizes old other k same words slots).0 in omega arith

  pub hand_there : (other : TableId) (k : Layout) → id ≡ other → other.words ≡ word_count k → other.slots ≡ k.rows + 1 → (r : ℕ) (known : HandRow) → Contains v.hand known → known.row ≡ r → r < k.rows
  hand_there other k same words slots r known in_hand same_row = granted_there other k same words slots r
      (subst (Has (granted_rows v.core)) same_row (subst (λ (l : List ℕ). Has l known.row) old.granted.0 (has_part hand_part v.hand known in_hand)))

  pub open_there : (other : TableId) (k : Layout) → id ≡ other → other.words ≡ word_count k → other.slots ≡ k.rows + 1 → (r : ℕ) → MayOpen v r → r < k.rows
  open_there other k same words slots r may = granted_there other k same words slots r (granted_found r v.core.granted (record { row = r; has_position = true; has_generation = true }) may.both_set)

  pub sized_prepared : (r : ℕ) (place : Place) (generation : ℕ) → IsSized n rows epoch id (prepared v r place generation)
  sized_prepared r place generation = record {
    slots = old.slots;
    words = old.words;
    rows_are = old.rows_are;
    number = old.number;
    same_epoch = old.same_epoch;
    counted = old.counted;
    long = old.long;
    held_rows = old.held_rows;
    stand = old.stand;
    links = old.links;
    places = old.places;
    granted = let same = part_keeps_rows r (Generation generation) (granted_after_part r (Position place) v.core.granted) ∙ part_keeps_rows r (Position place) v.core.granted in (
      rows_numbered r generation (map (with_place r place) v.hand) ∙ (rows_placed r place v.hand ∙ (old.granted.0 ∙ sym same)),
      λ q has. old.granted.1 q (subst (λ (l : List ℕ). Has l q) same has),
    );
  }

  pub sized_opened : (r : ℕ) (place : Place) (generation : ℕ) → IsSized n rows epoch id (opened v r place generation)
  sized_opened r place generation = record {
    slots = old.slots;
    words = old.words;
    rows_are = old.rows_are;
    number = old.number;
    same_epoch = old.same_epoch;
    counted = old.counted;
    long = λ h i. ⊎_elim (λ (j : Contains v.rows h). old.long h j) (λ (e : opened_row r place generation ≡ h). subst (λ (y : HeldRow R). length y.words ≡ 512) e blank_long)
        (Contains-push_cases v.rows (opened_row r place generation) h i);
    held_rows = map-append row_part v.rows (opened_row r place generation ∷ []) ∙ ap (λ (l : List ℕ). l ++ r ∷ []) old.held_rows;
    stand = old.stand;
    links = λ h i. ⊎_elim (λ (j : Contains v.rows h). old.links h j)
        (λ (e : opened_row r place generation ≡ h). subst (λ (y : HeldRow R). LinksBelow rows y.words) e
        (λ j inside link. let clash : true ≡ false = sym link ∙ (ap is_link (blank_zero j inside) ∙ zero_no_link) in absurd (cc)))
        (Contains-push_cases v.rows (opened_row r place generation) h i);
    granted = old.granted;
    places = old.places;
  }

  -- the rows that the entries link, after a word was stored
  word_below : (words : List ℕ) (i x : ℕ) → LinksBelow rows words → (is_link x ≡ true → link_row x < rows) → LinksBelow rows (set words i x)
  word_below words i x all below j inside link = dite (ℕ_discrete j i)
      (λ e. ⊎_elim (λ (low : i < length words). let at : get_or (set words i x) j 0 ≡ x = ap (λ (q : ℕ). get_or (set words i x) q 0) e ∙ get_or-set_same words i x 0 low in
      subst (λ (n : ℕ). link_row n < rows) (sym at) (below (ap is_link (sym at) ∙ link)))
      (λ past. let long = length-set words i x in let at : get_or (set words i x) j 0 ≡ 0 = get_or_past (set words i x) j 0 (omega arith) in
      let clash : true ≡ false = sym link ∙ (ap is_link at ∙ zero_no_link) in absurd (cc)) (cases_lt i (length words)))
      (λ ne. let at : get_or (set words i x) j 0 ≡ get_or words j 0 = get_or-set_other words i j x 0 (λ z. ne z) in
      subst (λ (n : ℕ). link_row n < rows) (sym at) (all j inside (ap is_link (sym at) ∙ link)))

  with_word_below : (r i x : ℕ) (h : HeldRow R) → (is_link x ≡ true → link_row x < rows) → LinksBelow rows h.words → LinksBelow rows (with_word r i x h).words
  with_word_below r i x h below all = go (eqb h.row r)
    where
      go : (b : Bool) → LinksBelow rows (cond b (record h { words = set h.words i x }) h).words
      go true = word_below h.words i x all below
      go false = all

  with_word_long : (r i x : ℕ) (h : HeldRow R) → length h.words ≡ 512 → length (with_word r i x h).words ≡ 512
  with_word_long r i x h all = go (eqb h.row r)
    where
      go : (b : Bool) → length (cond b (record h { words = set h.words i x }) h).words ≡ 512
      go true = length-set h.words i x ∙ all
      go false = all

  with_link_long : (linker : HeldRow R) (i child : ℕ) (h : HeldRow R) → length h.words ≡ 512 → length (with_link linker i child h).words ≡ 512
  with_link_long linker i child h all = go (eqb h.row child) (eqb h.row linker.row)
    where
      go : (a b : Bool) → length (cond a (newly_linked linker i h) (cond b (record h { vacant = without i h.vacant }) h)).words ≡ 512
      go true b = all
      go false true = all
      go false false = all

  with_link_below : (linker : HeldRow R) (i child : ℕ) (h : HeldRow R) → LinksBelow rows h.words → LinksBelow rows (with_link linker i child h).words
  with_link_below linker i child h all = go (eqb h.row child) (eqb h.row linker.row)
    where
      go : (a b : Bool) → LinksBelow rows (cond a (newly_linked linker i h) (cond b (record h { vacant = without i h.vacant }) h)).words
      go true b = all
      go false true = all
      go false false = all

  pub sized_entry : (linker : HeldRow R) (i x : ℕ) → (is_link x ≡ true → link_row x < v.layout.rows) → IsSized n rows epoch id (entry_set v linker i x)
  sized_entry linker i x below = go (is_link x) refl
    where
      all_below : is_link x ≡ true → link_row x < rows
      all_below link = let less = below link in let same = old.rows_are in omega arith

      go : (t : Bool) → is_link x ≡ t → IsSized n rows epoch id (cond t (link_set v linker i x) (word_set v linker.row i x))
      go true link = record {
        slots = old.slots;
        words = old.words;
        rows_are = old.rows_are;
        number = old.number;
        same_epoch = old.same_epoch;
        counted = old.counted;
        long = λ h j. let o = contained_map (λ (y : HeldRow R). with_link linker i (link_row x) (with_word linker.row i x y)) v.rows h j in
            subst (λ (y : HeldRow R). length y.words ≡ 512) o.2 (with_link_long linker i (link_row x) (with_word linker.row i x o.0) (with_word_long linker.row i x o.0 (old.long o.0 o.1)));
        held_rows = same_parts (λ (y : HeldRow R). with_link linker i (link_row x) (with_word linker.row i x y)) row_part row_part
            (λ y. with_link_row linker i (link_row x) (with_word linker.row i x y) ∙ with_word_row linker.row i x y) v.rows ∙ old.held_rows;
        stand = old.stand;
        links = λ h j. let o = contained_map (λ (y : HeldRow R). with_link linker i (link_row x) (with_word linker.row i x y)) v.rows h j in
            subst (λ (y : HeldRow R). LinksBelow rows y.words) o.2 (with_link_below linker i (link_row x) (with_word linker.row i x o.0) (with_word_below linker.row i x o.0 all_below (old.links o.0 o.1)));
        places = old.places;
        granted = (
          parts_without hand_part (link_row x) v.hand ∙ (ap (without (link_row x)) old.granted.0 ∙ (sym (parts_without (λ (g : GrantedRow). g.row) (link_row x) v.core.granted)
              ∙ ap (λ (t : Bool). map (λ (g : GrantedRow). g.row) (cond t (filter (λ (g : GrantedRow). not (eqb g.row (link_row x))) v.core.granted) v.core.granted)) (sym link))),
          λ r has. old.granted.1 r (entry_grants x v.core.granted r has),
        );
      }
      go false _ = record {
        slots = old.slots;
        words = old.words;
        rows_are = old.rows_are;
        number = old.number;
        same_epoch = old.same_epoch;
        counted = old.counted;
        long = λ h j. let o = contained_map (with_word linker.row i x) v.rows h j in subst (λ (y : HeldRow R). length y.words ≡ 512) o.2 (with_word_long linker.row i x o.0 (old.long o.0 o.1));
        held_rows = same_parts (with_word linker.row i x) row_part row_part (with_word_row linker.row i x) v.rows ∙ old.held_rows;
        stand = old.stand;
        links = λ h j. let o = contained_map (with_word linker.row i x) v.rows h j in
            subst (λ (y : HeldRow R). LinksBelow rows y.words) o.2 (with_word_below linker.row i x o.0 all_below (old.links o.0 o.1));
        granted = old.granted;
        places = old.places;
      }

  pub sized_cut : (linker : HeldRow R) (i : ℕ) → IsSized n rows epoch id (entry_cut v linker i)
  sized_cut linker i = record {
    slots = old.slots;
    words = old.words;
    rows_are = old.rows_are;
    number = old.number;
    same_epoch = old.same_epoch;
    counted = old.counted;
    long = λ h j. let o = contained_map (with_word linker.row i 0) v.rows h j in subst (λ (y : HeldRow R). length y.words ≡ 512) o.2 (with_word_long linker.row i 0 o.0 (old.long o.0 o.1));
    held_rows = same_parts (with_word linker.row i 0) row_part row_part (with_word_row linker.row i 0) v.rows ∙ old.held_rows;
    stand = old.stand;
    links = λ h j. let o = contained_map (with_word linker.row i 0) v.rows h j in
        subst (λ (y : HeldRow R). LinksBelow rows y.words) o.2
        (with_word_below linker.row i 0 o.0 (λ link. let clash : true ≡ false = sym link ∙ zero_no_link in absurd (cc)) (old.links o.0 o.1));
    granted = old.granted;
    places = (
      old.places.0,
      λ u j. ⊎_elim (λ (l : Contains v.core.unlinked u). old.places.1 u l) (λ (e : newly_unlinked (link_row (get_or linker.words i 0)) ≡ u). ap (λ (y : UnlinkedRow). length y.samples) (sym e))
          (Contains-push_cases v.core.unlinked (newly_unlinked (link_row (get_or linker.words i 0))) u j),
    );
  }
