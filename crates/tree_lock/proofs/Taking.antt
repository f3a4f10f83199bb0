-- A step at one entry of a held row: what it asks, and what it does.
use Rattle.std.proofs.Common.{◌≡◌, ◌≢◌, ℕ, zero, suc, ◌+◌, ◌<◌, ◌≤◌, true, sym, ap, ◌∙◌, subst, refl, arith, inr, ⊎_elim, Some, None, List, [], ◌∷◌, ◌++◌, map, length}
use Rattle.std.specs.Prelude.{slice_index}
use Rattle.std.specs.List.{Contains, All}
use Rattle.std.proofs.lemmas.List.{length-map}
use Rattle.std.proofs.lemmas.List.Elements.{Contains-append_right, All-nil, All-cons}
use Rattle.table_place.specs.declared.Place.{Place}
use Rattle.table_place.specs.Place.{entry_place, is_place}
use Rattle.walk_core.specs.Words.{is_link, link_row, link_generation, held_by}
use Rattle.walk_core.specs.Lists.{times, Has, IsDistinct}
use Rattle.walk_core.specs.Events.{stand_after_look}
use Rattle.walk_core.proofs.Stepped.{length-missing}
use Rattle.walk_core.proofs.RowLists.{has_part}
use Rattle.row_table.specs.declared.view.PassView.{PassView}
use Rattle.row_table.specs.Rule.{row_part}
use Rattle.row_table.specs.Known.{IsHolder, IsAnother, LinksRow, IsKnownPlace, IsPlaced}
use Rattle.row_table.specs.Moves.{finding, got, looked, Finds}
use Rattle.row_table.specs.Looks.{Looks, MayLook}
use Rattle.row_table.proofs.Views.{has_row, row_had}
use Rattle.tree_lock.specs.declared.held.HeldRow.{HeldRow}
use Rattle.tree_lock.specs.declared.below.Spot.{Spot}
use Rattle.tree_lock.specs.Held.{row_number, row_numbers, IsInserted}
use Rattle.tree_lock.specs.Covers.{HoldsAt, IsListOf}
use Rattle.tree_lock.specs.Stages.{AreThere, IsFresh, Sees, after_look, GetsChild, MissesChild}
use Rattle.tree_lock.specs.Descents.{HasLevels}

pub all_of : {X : Type 0} (P : X → Type 0) (xs : List X) → ((x : X) → Contains xs x → P x) → All P xs
all_of P [] each = All-nil P
all_of P (x ∷ xs) each = All-cons P x xs (each x (0, omega arith, refl)) (all_of P xs (λ y has. each y (Contains-append_right (x ∷ []) xs y has)))

module _ (levels : ℕ) where
  module _ {R B E : Type 0} where
    module _ (v u : PassView R B E) (at : Spot) (index word : ℕ) (on : HasLevels levels v) (out : v.core.stand ≡ None) (h : HoldsAt v.rows at.row at.place) (looks : Looks at.row index v word u) where
      -- the view after the look
      pub looked_held : u ≡ after_look v at index word
      looked_held = looks.1
          ∙ (λ j. record v { core = record v.core { stand = stand_after_look v.layout.levels at.row index word (out j) }; findings = v.findings ++ finding at.row place (Some index) word ∷ [] })
          ∙ (λ j. record v { core = record v.core { stand = sym out j }; findings = v.findings ++ finding at.row (same j) (Some index) word ∷ [] })
        where
          place : Place
          place = looks.0.place

          same : place ≡ at.place
          same = looks.0.known.of_held h.known h.held h.same_row ∙ h.same_place

      pub sees_word : Sees v.rows at index word
      sees_word = looks.0.holds

      pub child_is_table : is_link word ≡ true → is_place levels (entry_place levels at.place index) ≡ true
      child_is_table link = (λ j. is_place (sym on.1 j) (entry_place (sym on.1 j) (sym (looks.0.known.of_held h.known h.held h.same_row ∙ h.same_place) j) index)) ∙ looks.0.leads link

      -- the held row links the row that the word names
      pub links_row : index < 512 → is_link word ≡ true → (row : ℕ) → row ≡ link_row word → LinksRow u row
      links_row inside link row to_row =
          let here : word ≡ slice_index h.known.words index = sees_word h.known h.held h.same_row in
          record {
            linker = h.known;
            held = subst (λ (y : PassView R B E). Contains y.rows h.known) (sym looked_held) h.held;
            index = index;
            inside = inside;
            link = ap is_link (sym here) ∙ link;
            to_row = ap link_row (sym here) ∙ sym to_row;
          }

    pub may_look : (v : PassView R B E) (at : Spot) (xs : List (HeldRow R)) → IsListOf v.core.held v.rows xs → HoldsAt v.rows at.row at.place → MayLook v at.row
    may_look v at xs list h = inr (subst (λ (rows : List ℕ). Has rows at.row) list.exact.shown (subst (λ (r : ℕ). Has (map row_part v.rows) r) h.same_row (has_row v.rows h.known h.held)))

    -- a row of the list is held
    listed_held : (v : PassView R B E) (xs : List (HeldRow R)) (x : HeldRow R) → IsListOf v.core.held v.rows xs → Contains xs x → Has v.core.held x.row
    listed_held v xs x list has = let n = has_part row_number xs x has in let same = list.exact.held x.row in omega arith

    -- a row that the pass does not hold is not in the list
    pub new_rows : (v : PassView R B E) (xs : List (HeldRow R)) (row : ℕ) → IsListOf v.core.held v.rows xs → ¬ Has v.core.held row → All (λ x. x.row ≢ row) xs
    new_rows v xs row list none = all_of (λ x. x.row ≢ row) xs (λ x has e. none (subst (Has v.core.held) e (listed_held v xs x list has)))

    pub new_places : (v : PassView R B E) (xs : List (HeldRow R)) (place above : Place) (index : ℕ) → IsListOf v.core.held v.rows xs → IsFresh levels v.rows above index → index < 512 → place ≡ entry_place levels above index → All (λ x. x.place ≢ place) xs
    new_places v xs place above index list fresh inside is = all_of (λ x. x.place ≢ place) xs (λ x has e. let l = list.each x has in fresh l.known l.held index (omega arith) inside (l.same_place ∙ e ∙ is))

    -- there is room for one row more
    pub room_for : (v : PassView R B E) (xs : List (HeldRow R)) (row room : ℕ) → IsListOf v.core.held v.rows xs → AreThere v → IsDistinct v.core.held → ¬ Has v.core.held row → row < v.layout.rows → v.layout.rows ≤ room → length xs < room
    room_for v xs row room list there once none less fits =
        let few = length-missing (row_numbers xs) v.layout.rows row (λ q. let s = list.exact.held q in let o = once q in omega arith) (λ q past. past_none q past) less none_there in
        let same = length-map xs row_number in omega arith
      where
        past_none : (q : ℕ) → v.layout.rows ≤ q → times q (row_numbers xs) ≡ 0
        past_none q past = go (times q (row_numbers xs)) refl
          where
            go : (n : ℕ) → times q (row_numbers xs) ≡ n → times q (row_numbers xs) ≡ 0
            go zero e = e
            go (suc n) e =
                let has : Has (map row_part v.rows) q = (let s = list.exact.held q in let t = ap (times q) list.exact.shown in omega arith) in
                let had = row_had v.rows q has in let low = there had.0 had.1 in let is = had.2 in absurd (omega arith)

        none_there : times row (row_numbers xs) ≡ 0
        none_there = go (times row (row_numbers xs)) refl
          where
            go : (n : ℕ) → times row (row_numbers xs) ≡ n → times row (row_numbers xs) ≡ 0
            go zero e = e
            go (suc n) e = absurd (none (let s = list.exact.held row in omega arith))

    -- what a grab tells that took the row, of the pass before the look
    pub once_before : (v u : PassView R B E) (at : Spot) (index word row : ℕ) → u ≡ after_look v at index word → ¬ Has u.core.held row → ¬ Has v.core.held row
    once_before v u at index word row now none has = none (subst (λ (y : PassView R B E). Has y.core.held row) (sym now) has)

    pub right_before : (v u : PassView R B E) (at : Spot) (index word row : ℕ) → u ≡ after_look v at index word → Finds row u → IsDistinct v.core.held × (row < v.layout.rows)
    right_before v u at index word row now f = (subst (λ (y : PassView R B E). IsDistinct y.core.held) now f.right.once, subst (λ (y : PassView R B E). row < y.layout.rows) now f.there)

    -- The answers of a grab behind the look

    module _ (v u w : PassView R B E) (xs ys : List (HeldRow R)) (at : Spot) (index word row generation : ℕ) (place : Place) (on : HasLevels levels v) (h : HoldsAt v.rows at.row at.place) (now : u ≡ after_look v at index word) (sees : Sees v.rows at index word)
        (link : is_link word ≡ true) (to_row : row ≡ link_row word) (is_below : place ≡ entry_place levels at.place index) (inside : index < 512) where
      abbrev l : LinksRow u row
      l = record {
        linker = h.known;
        held = subst (λ (y : PassView R B E). Contains y.rows h.known) (sym now) h.held;
        index = index;
        inside = inside;
        link = ap is_link (sym (sees h.known h.held h.same_row)) ∙ link;
        to_row = ap link_row (sym (sees h.known h.held h.same_row)) ∙ sym to_row;
      }

      levels_u : u.layout.levels ≡ levels
      levels_u = ap (λ (y : PassView R B E). y.layout.levels) now ∙ on.1

      -- where the row is
      place_is : (p : Place) → IsKnownPlace u row p → p ≡ place
      place_is p known = known.of_entry l ∙ (λ j. entry_place (levels_u j) h.known.place index) ∙ ap (λ (q : Place). entry_place levels q index) h.same_place ∙ sym is_below

      pub gets_child : (f : Finds row u) (x : R) → w ≡ got u row f.place f.generation f.words x → generation ≡ link_generation word → is_place levels (entry_place levels at.place index) ≡ true
          → IsInserted (record { row = row; place = place; generation = generation; content = x }) xs ys → GetsChild levels v xs at index (record { row = row; place = place }) w ys
      gets_child f x e gen table inserted = record {
        few = on.0;
        word = word;
        sees = sees;
        link = link;
        to_row = sym to_row;
        is_below = is_below;
        table = subst (λ (p : Place). is_place levels p ≡ true) (sym is_below) table;
        there = subst (λ (y : PassView R B E). row < y.layout.rows) now f.there;
        placed = subst (λ (n : ℕ). IsPlaced n row place) levels_u (subst (IsPlaced u.layout.levels row) (place_is f.place f.known) f.placed);
        generation = generation;
        words = f.words;
        content = x;
        now = e ∙ (λ j. got u row (place_is f.place f.known j) (gen_is j) f.words x) ∙ ap (λ (y : PassView R B E). got y row place generation f.words x) now;
        in_tree = subst (λ (y : PassView R B E). times row (map (λ g. g.row) y.core.granted) + times row (map (λ g. g.row) y.core.unlinked) ≡ 0) now f.linked;
        inserted = inserted;
      }
        where
          gen_is : f.generation ≡ generation
          gen_is = f.known_generation.of_entry l ∙ ap link_generation (sym (sees h.known h.held h.same_row)) ∙ sym gen

      -- the pass does not hold the row itself
      pub child_new : IsFresh levels v.rows at.place index → map row_part v.rows ≡ v.core.held → (p : Place) → IsKnownPlace u row p → ¬ Has u.core.held row
      child_new fresh shown p known has =
          let had = row_had v.rows row (subst (λ (rows : List ℕ). Has rows row) (sym shown) (subst (λ (y : PassView R B E). Has y.core.held row) now has)) in
          fresh had.0 had.1 index (omega arith) inside (sym (known.of_held had.0 (subst (λ (y : PassView R B E). Contains y.rows had.0) (sym now) had.1) had.2) ∙ place_is p known ∙ is_below)

      pub misses_child : IsFresh levels v.rows at.place index → map row_part v.rows ≡ v.core.held → (p : Place) (seat : ℕ) → IsKnownPlace u row p → IsHolder u row seat → w ≡ looked u row p None (held_by seat) → ys ≡ xs → MissesChild levels v xs at index row seat w ys
      misses_child fresh shown p seat known holder e same = record {
        word = word;
        sees = sees;
        link = link;
        to_row = sym to_row;
        another = let a = subst (λ (y : PassView R B E). IsAnother y seat) now (record { there = holder.there; other = ⊎_elim (λ (ne : seat ≢ u.number). ne) (λ (has : Has u.core.held row). absurd (child_new fresh shown p known has)) holder.other }) in record { there = a.there; other = a.other };
        now = e ∙ (λ j. looked u (to_row j) ((place_is p known ∙ is_below) j) None (held_by seat)) ∙ ap (λ (y : PassView R B E). looked y (link_row word) (entry_place levels at.place index) None (held_by seat)) now;
        same = same;
      }
