-- One row goes out of the tree: what each call asks, and what all have done.
--     was_at      the row that was taken out of a list stood at its place
--     may_empty, may_unlink, is_held, is_unlinked      what the calls ask
--     has_cut      what is left
use Rattle.std.specs.Prelude.{◌≡◌, ℕ, ◌<◌, not, Bool, true, false, cond, List, [], ◌∷◌, ◌++◌, map, length, nat_eq, slice_index, slice_index_or, slice_set}
use Rattle.std.specs.List.{Contains, filter}
use Rattle.std.proofs.Common.{sym, refl, ◌∙◌, ap, subst, arith, ⊎_elim, eq-eqb, ne_eqb}
use Rattle.std.proofs.lemmas.Bool.{false≢true}
use Rattle.std.proofs.lemmas.List.{map-append}
use Rattle.std.proofs.lemmas.List.Elements.{Contains-append_left, Contains-append_right, Contains-append_cases, Contains-get_or}
use Rattle.walk_core.specs.declared.pass.UnlinkedRow.{UnlinkedRow}
use Rattle.walk_core.specs.Core.{unlinked_rows}
use Rattle.walk_core.specs.Events.{newly_unlinked}
use Rattle.walk_core.specs.Lists.{Has, times, without}
use Rattle.walk_core.specs.Words.{is_link, link_row}
use Rattle.walk_core.proofs.RowLists.{head_or_later, in_tail, in_map, times-append, times_one_same}
use Rattle.row_table.specs.declared.view.HeldRow.{HeldRow as KnownRow}
use Rattle.row_table.specs.Links.{with_word, entry_cut, MayUnlink}
use Rattle.row_table.specs.Moves.{released}
use Rattle.row_table.specs.Rule.{row_part}
use Rattle.row_table.proofs.Views.{has_row}
use Rattle.row_cells.specs.declared.Cell.{Cell}
use Rattle.table_place.specs.declared.Place.{Place}
use Rattle.table_place.specs.Place.{is_place}
use Rattle.tree_lock.specs.Held.{IsRemoved}
use Rattle.machine_plan.specs.HeldRows.{Row}
use Rattle.cursor_detach.specs.Cutting.{above_place, above_index, IsRowAt, with_words, MayEmpty, Empties, MayUnlinkAt, UnlinksAt, MayCut, Cuts}
use Rattle.cursor_detach.proofs.Lists.{map_twice, kept_same}
use Rattle.cursor_detach.proofs.Empty.{View}

in_middle : (before : List Row) (x : Row) (after : List Row) (d : Row) → slice_index_or (before ++ x ∷ after) (length before) d ≡ x
in_middle [] x after d = refl
in_middle (y ∷ ys) x after d = in_middle ys x after d

pub was_at : (at : ℕ) (r : Row) (old left : List Row) (d : Row) → IsRemoved at r old left → slice_index_or old at d ≡ r
was_at at r old left d removed =
    ap (λ (l : List Row). slice_index_or l at d) removed.was ∙ (ap (λ k. slice_index_or (removed.before ++ r ∷ removed.after) k d) (sym removed.at) ∙ in_middle removed.before r removed.after d)

-- the other rows are there before and after
pub left_was : (at : ℕ) (r : Row) (old left : List Row) → IsRemoved at r old left → (y : Row) → Contains left y → Contains old y
left_was at r old left removed y c = subst (λ (l : List Row). Contains l y) (sym removed.was) (⊎_elim
    (λ (z : Contains removed.before y). Contains-append_left removed.before (r ∷ removed.after) y z)
    (λ (z : Contains removed.after y). Contains-append_right removed.before (r ∷ removed.after) y (in_tail r removed.after y z))
    (Contains-append_cases removed.before removed.after y (subst (λ (l : List Row). Contains l y) removed.is c)))

pub was_left : (at : ℕ) (r : Row) (old left : List Row) → IsRemoved at r old left → (y : Row) → (r ≡ y → ⊥) → Contains old y → Contains left y
was_left at r old left removed y other c = subst (λ (l : List Row). Contains l y) (sym removed.is) (⊎_elim
    (λ (z : Contains removed.before y). Contains-append_left removed.before removed.after y z)
    (λ (z : Contains (r ∷ removed.after) y). ⊎_elim (λ (e : r ≡ y). absurd (other e)) (λ (l : Contains removed.after y). Contains-append_right removed.before removed.after y l) (head_or_later r removed.after y z))
    (Contains-append_cases removed.before (r ∷ removed.after) y (subst (λ (l : List Row). Contains l y) removed.was c)))

pub at_there : (p : Place) (rows : List Row) (at : ℕ) (is : IsRowAt p rows at) → Contains rows is.row
at_there p rows at is = subst (Contains rows) (is.is is.row) (Contains-get_or rows at is.row is.inside)

-- the words of another row
other_words : (row : ℕ) (words : List ℕ) (h : KnownRow (List Cell)) → (h.row ≡ row → ⊥) → with_words row words h ≡ h
other_words row words h other = ap (λ b. cond b (record h { words = words }) h) (ne_eqb h.row row other)

own_words : (row : ℕ) (words : List ℕ) (h : KnownRow (List Cell)) → h.row ≡ row → with_words row words h ≡ record h { words = words }
own_words row words h same = ap (λ b. cond b (record h { words = words }) h) (eq-eqb h.row row same)

same_numbers : (row : ℕ) (words : List ℕ) (h : KnownRow (List Cell)) → (with_words row words h).row ≡ h.row
same_numbers row words h = go (nat_eq h.row row)
  where
    go : (b : Bool) → (cond b (record h { words = words }) h).row ≡ h.row
    go true = refl
    go false = refl

pub same_number : (row index : ℕ) (h : KnownRow (List Cell)) → (with_word row index 0 h).row ≡ h.row
same_number row index h = go (nat_eq h.row row)
  where
    go : (b : Bool) → (cond b (record h { words = slice_set h.words index 0 }) h).row ≡ h.row
    go true = refl
    go false = refl

-- a row that is left out needs no words
rows_left_out : (row up index : ℕ) (words : List ℕ) (hs : List (KnownRow (List Cell)))
    → filter (λ h. not (nat_eq h.row row)) (map (with_word up index 0) (map (with_words row words) hs)) ≡ filter (λ h. not (nat_eq h.row row)) (map (with_word up index 0) hs)
rows_left_out row up index words hs =
    ap (filter (λ h. not (nat_eq h.row row))) (map_twice (with_words row words) (with_word up index 0) (λ h. with_word up index 0 (with_words row words h)) hs (λ h. refl))
    ∙ kept_same (λ h. not (nat_eq h.row row)) (λ h. with_word up index 0 (with_words row words h)) (with_word up index 0) hs
    (λ h. ap (λ n. not (nat_eq n row)) (same_number up index (with_words row words h) ∙ (same_numbers row words h ∙ sym (same_number up index h))))
    (λ h e. ap (with_word up index 0) (other_words row words h (λ same. false≢true (ap not (sym (eq-eqb (with_word up index 0 h).row row (same_number up index h ∙ same))) ∙ e))))

module _ {B E : Type 0} (levels at : ℕ) (x : Row) (rows : List Row) (v : View B E) (may : MayCut levels at x rows v) (r : Row) (left : List Row) (removed : IsRemoved at r rows left) where
  pub is_x : r ≡ x
  is_x = sym (was_at at r rows left x removed) ∙ may.is x

  pub may_empty : MayEmpty r.row r.content v
  may_empty = subst (λ (y : Row). MayEmpty y.row y.content v) (sym is_x) may.empty

  pub place_is : is_place levels r.place ≡ true
  place_is = subst (λ (y : Row). is_place levels y.place ≡ true) (sym is_x) may.place

  abbrev index : ℕ
  index = above_index levels r.place

  up_left : Contains left may.up
  up_left = was_left at r rows left removed may.up (λ e. may.up_other (ap (λ (y : Row). y.row) (sym e ∙ is_x))) may.up_there

  up_place : may.up.place ≡ above_place levels r.place
  up_place = may.is_up ∙ ap (λ (y : Row). above_place levels y.place) (sym is_x)

  is_up : (y : Row) → Contains left y → y.place ≡ above_place levels r.place → y ≡ may.up
  is_up y there place = may.up_only y (left_was at r rows left removed y there) (place ∙ ap (λ (z : Row). above_place levels z.place) is_x)

  link_index : (n : ℕ) → n ≡ above_index levels x.place → slice_index may.linker.words n ≡ slice_index may.linker.words (above_index levels x.place)
  link_index n e = ap (slice_index may.linker.words) e

  same_index : index ≡ above_index levels x.place
  same_index = ap (λ (y : Row). above_index levels y.place) is_x

  module _ (w1 : View B E) (empties : Empties r.row v w1) where
    linker_there : Contains w1.rows may.linker
    linker_there = subst (λ (u : View B E). Contains u.rows may.linker) (sym empties.view)
        (subst (Contains (map (with_words r.row empties.words) v.rows)) (other_words r.row empties.words may.linker (λ e. may.up_other (sym may.linker_row ∙ (e ∙ ap (λ (y : Row). y.row) is_x))))
        (in_map (with_words r.row empties.words) v.rows may.linker may.linker_held))

    abbrev child : KnownRow (List Cell)
    child = record may.empty.known { words = empties.words }

    child_there : Contains w1.rows child
    child_there = subst (λ (u : View B E). Contains u.rows child) (sym empties.view)
        (subst (Contains (map (with_words r.row empties.words) v.rows)) (own_words r.row empties.words may.empty.known (may.empty.same_row ∙ ap (λ (y : Row). y.row) (sym is_x)))
        (in_map (with_words r.row empties.words) v.rows may.empty.known may.empty.held))

    may_cut : (inside : index < 512) → MayUnlink w1 may.up.row index
    may_cut inside = record {
      linker = may.linker;
      held = linker_there;
      same_row = may.linker_row;
      inside = inside;
      link = ap is_link (link_index index same_index) ∙ may.link;
      child = child;
      child_held = child_there;
      child_row = may.empty.same_row ∙ sym (ap link_row (link_index index same_index) ∙ may.to_row);
      child_empty = empties.none;
    }

    pub may_unlink : (inside : index < 512) → MayUnlinkAt levels r.place left w1
    may_unlink inside = record {
      place = place_is;
      up = may.up;
      there = up_left;
      is_up = up_place;
      may = λ y there place. subst (λ (z : Row). MayUnlink w1 z.row index) (sym (is_up y there place)) (may_cut inside);
    }

    module _ (rows' : List Row) (w2 : View B E) (unlinks : UnlinksAt levels r.place left w1 rows' w2) where
      up_is : unlinks.is_at.row ≡ may.up
      up_is = is_up unlinks.is_at.row (at_there (above_place levels r.place) left unlinks.at unlinks.is_at) unlinks.is_at.place

      to_row : link_row (slice_index may.linker.words index) ≡ r.row
      to_row = ap link_row (link_index index same_index) ∙ (may.to_row ∙ ap (λ (y : Row). y.row) (sym is_x))

      is_cut_now : w2 ≡ record v {
        core = record v.core { unlinked = v.core.unlinked ++ newly_unlinked r.row ∷ [] };
        rows = map (with_word may.up.row index 0) (map (with_words r.row empties.words) v.rows);
      }
      is_cut_now =
          unlinks.unlinks may.linker linker_there (may.linker_row ∙ ap (λ (y : Row). y.row) (sym up_is))
          ∙ (ap (λ (u : View B E). entry_cut u may.linker index) empties.view
          ∙ (λ i. record v {
            core = record v.core { unlinked = v.core.unlinked ++ newly_unlinked (to_row i) ∷ [] };
            rows = map (with_word (may.linker_row i) index 0) (map (with_words r.row empties.words) v.rows);
          }))

      pub is_held : Has w2.core.held r.row
      is_held = subst (λ (u : View B E). Has u.core.held r.row) (sym is_cut_now)
          (subst (λ (l : List ℕ). Has l r.row) may.shown (subst (Has (map row_part v.rows)) (may.empty.same_row ∙ ap (λ (y : Row). y.row) (sym is_x)) (has_row v.rows may.empty.known may.empty.held)))

      pub is_unlinked : Has (unlinked_rows w2.core) r.row
      is_unlinked = subst (λ (u : View B E). Has (unlinked_rows u.core) r.row) (sym is_cut_now)
          (let all = map-append (λ (u : UnlinkedRow). u.row) v.core.unlinked (newly_unlinked r.row ∷ []) in
          let more = ap (times r.row) all ∙ times-append r.row (unlinked_rows v.core) (r.row ∷ []) in
          let one = times_one_same r.row r.row refl in omega arith)

      pub has_cut : (w3 : View B E) (gone gone' : List ℕ) → w3 ≡ released w2 r.row → gone' ≡ gone ++ r.row ∷ [] → Cuts levels at rows v rows' w3 gone gone'
      has_cut w3 gone gone' marks listed = record {
        row = r;
        is = λ d. was_at at r rows left d removed;
        left = left;
        removed = removed;
        up = unlinks.at;
        is_up = unlinks.is_at;
        rows_are = unlinks.rows_are;
        view = marks ∙ (ap (λ (u : View B E). released u r.row) is_cut_now
            ∙ (λ i. record v {
              core = record v.core { held = without r.row v.core.held; unlinked = v.core.unlinked ++ newly_unlinked r.row ∷ [] };
              rows = (rows_left_out r.row may.up.row index empties.words v.rows ∙ ap (λ (y : Row). filter (λ h. not (nat_eq h.row r.row)) (map (with_word y.row index 0) v.rows)) (sym up_is)) i;
            }));
        gone_are = listed;
      }
