-- A row of the list whose position was removed may go out of the tree, where those behind it are out.
--     may_go      so
--     has_place      and its number has a place
use Rattle.std.specs.Prelude.{◌≡◌, ◌≢◌, ℕ, ◌+◌, ◌<◌, ◌≤◌, Bool, true, false, cond, nat_eq, List, length, slice_get, slice_index, slice_index_or, Some}
use Rattle.std.specs.List.{Contains}
use Rattle.std.specs.FinSet as set
use Rattle.std.proofs.Common.{sym, refl, ◌∙◌, ap, subst, arith, inl, inr}
use Rattle.std.proofs.lemmas.Bool.{true≢false, eq-eqb}
use Rattle.std.proofs.lemmas.List.Elements.{Contains-get_or}
use mathlib.Core.Logic.{dite}
use native.Mathlib.Decide.{ℕ_discrete}
use Rattle.corten_base.specs.declared.calls.Call.{Call}
use Rattle.page_map.specs.State.{State, levels}
use Rattle.walk_core.specs.Lists.{IsDistinct}
use Rattle.walk_core.specs.Words.{is_link, link_row}
use Rattle.walk_core.proofs.Spellings.{zero_no_link}
use Rattle.row_cells.specs.declared.Cell.{Cell}
use Rattle.row_cells.specs.declared.Cell.TheVariants.{Invalid}
use Rattle.row_table.specs.declared.view.HeldRow.{HeldRow as KnownRow}
use Rattle.row_table.specs.Moves.{NotInHand}
use Rattle.table_place.specs.declared.Place.{Place}
use Rattle.table_place.specs.Place.{directory, root, parent, is_place, entry_place}
use Rattle.tree_lock.specs.Covers.{HoldsAt}
use Rattle.tree_lock.specs.Held.{row_numbers, IsInOrder}
use Rattle.tree_lock.specs.Order.{IsBefore}
use Rattle.tree_lock.specs.Zone.{Meets}
use Rattle.tree_lock.proofs.Positions.{before_same, before_next, before_child}
use Rattle.machine_plan.specs.declared.kit.Kit.{Kit}
use Rattle.machine_plan.specs.Agrees.{below}
use Rattle.machine_plan.specs.Books.{BookData, state_of}
use Rattle.machine_plan.specs.Given.{IsRemoved}
use Rattle.machine_plan.specs.Held.{ListHolds}
use Rattle.machine_plan.specs.HeldRows.{Row}
use Rattle.machine_plan.specs.Uses.{zone_of}
use Rattle.machine_plan.proofs.Levels.{has_levels}
use Rattle.cursor_detach.specs.Removing.{is_cut}
use Rattle.cursor_detach.specs.Cutting.{above_place, above_index, MayEmpty, MayCut}
use Rattle.cursor_detach.specs.Detaching.{IsDetachable, IsOut, Stays, Cutting}
use Rattle.cursor_detach.proofs.Changed.{not_refused, steps_removed}
use Rattle.cursor_detach.proofs.Empty.{View}
use Rattle.cursor_detach.proofs.Positions.{PlaceParts, place_parts, leads_there, index_inside}
use Rattle.cursor_detach.proofs.RowLists.{one_place, one_number, is_behind}
use Rattle.cursor_detach.proofs.Started.{one_known, listed, left, known_is, is_gone, goes, accepted, at_removed, above_removed, child_removed, links_down, links_up, links_none, few}

-- the table above another is before it
pub above_before : (L : ℕ) (p : Place) → L < 6 → is_place L p ≡ true → IsBefore (above_place L p) p
above_before L p few placed = subst (IsBefore (above_place L p)) (leads_there L p few placed) (go (nat_eq p.level L) refl)
  where
    parts : PlaceParts L p
    parts = place_parts L p placed

    top : (s : ℕ) → IsBefore directory (root L s)
    top s = record { space = omega arith; first = λ _. omega arith; level = λ _ _. omega (arith, few) }

    go : (b : Bool) → nat_eq p.level L ≡ b → IsBefore (cond b directory (parent p)) (entry_place L (cond b directory (parent p)) (above_index L p))
    go true e = top (above_index L p)
    go false e = before_child L (above_index L p) (parent p) (omega arith) (omega (arith, less p.level L parts.high (λ same. true≢false (sym (eq-eqb p.level L same) ∙ e)), few))
      where
        less : (a b : ℕ) → a ≤ b → (a ≡ b → ⊥) → a < b
        less a b le ne = omega arith

two_places : (i j n : ℕ) → i < n → j < n → (j ≡ i → ⊥) → 2 ≤ n
two_places i j n a b ne = omega arith

module _ {B E : Type 0} (a b : BookData) (thread : ℕ) (c : Call) (v : View B E) (rows : List Row) (kit : Kit) (ready : IsDetachable a b thread c v rows kit) (order : IsInOrder rows) (once : IsDistinct (row_numbers rows))
    (at : ℕ) (w : View B E) (rows' : List Row) (kit' : Kit) (is : Cutting (levels (state_of a)) (at + 1) v rows kit w rows' kit') (order' : IsInOrder rows') (once' : IsDistinct (row_numbers rows'))
    (x : Row) (inside : at < length rows') (at_x : (d : Row) → slice_index_or rows' at d ≡ x) (cut : is_cut (levels (state_of a)) kit' x.place ≡ true) where
  abbrev st : State
  st = state_of a

  abbrev L : ℕ
  L = levels st

  abbrev now : State
  now = state_of b

  abbrev gone : List ℕ
  gone = kit'.gone.items

  there : Contains rows' x
  there = subst (Contains rows') (at_x x) (Contains-get_or rows' at x inside)

  abbrev s : Stays L v rows w gone x
  s = is.each x there

  gone_old : IsRemoved st now s.old.place
  gone_old = goes a b thread c v rows kit ready order once s.old s.was (ap (is_cut L kit) s.same_place ∙ (sym (ap (λ (k : Kit). is_cut L k x.place) is.kit_is) ∙ cut))

  gone_x : IsRemoved st now x.place
  gone_x = subst (IsRemoved st now) s.same_place gone_old

  placed : is_place L x.place ≡ true
  placed = ready.consistent.places x.place gone_x.0

  low : L < 6
  low = few a b thread c v rows kit ready order once

  not_out : ¬ IsOut rows gone x.place
  not_out out = s.stays (subst (Contains gone) (ap (λ (y : Row). y.row) (one_place rows out.0 s.old order out.1 s.was (out.2 ∙ sym s.same_place)) ∙ s.same_row) out.3)

  -- a row that is left, and an entry of it
  module _ (y : Row) (has : Contains rows' y) (i : ℕ) (less : i < 512) where
    abbrev t : Stays L v rows w gone y
    t = is.each y has

    out_zero : IsOut rows gone (below L y.place i) → slice_index t.known.words i ≡ 0
    out_zero out = (t.cut i less (let long = (left a b thread c v rows kit ready order once t.old t.was).whole in omega arith) out).1

    link_in : is_link (slice_index t.known.words i) ≡ true → ¬ IsOut rows gone (below L y.place i)
    link_in e out = true≢false (sym e ∙ (ap is_link (out_zero out) ∙ zero_no_link))

  -- no entry of it is a link any more
  no_links : (i : ℕ) → i < 512 → is_link (slice_index s.known.words i) ≡ false
  no_links i less = go (is_link (slice_index s.known.words i)) refl
    where
      levels_are : (1 ≤ x.place.level) × (x.place.level ≤ L)
      levels_are = let parts = place_parts L x.place placed in (parts.low, parts.high)

      -- the row below it is out
      clash : is_link (slice_index s.known.words i) ≡ true → ⊥
      clash e = elim (is.all z.0 z.1) [
        | inl out ↦ inn (z.0, z.1, z.2, out)
        | inr y ↦
            let before : IsBefore x.place y.0.place = subst (IsBefore x.place) (sym (y.3 ∙ z.2)) (before_child L i x.place levels_are.0 (omega (arith, levels_are.1, low))) in
            let k = is_behind rows' at x y.0 order' inside at_x y.1 before (λ back. before_same x.place (before_next x.place y.0.place x.place before back)) in
            let stays = is.behind y.1.0 y.0 (omega (arith, k)) y.1.1 in
            true≢false (sym (ap (is_cut L kit) y.3 ∙ is_gone a b thread c v rows kit ready order once z.0 z.1 (subst (IsRemoved st now) (sym z.2) q_gone)) ∙ (ap (λ (u : Row). is_cut L kit u.place) (sym y.1.2) ∙ stays))
      ]
        where
          inn : ¬ IsOut rows gone (below L x.place i)
          inn = link_in x there i less e

          q_there : set.contains st.tables (below L x.place i) ≡ true
          q_there = ap (λ p. set.contains st.tables (below L p i)) (sym s.same_place)
              ∙ links_down a b thread c v rows kit ready order once s.old s.was s.old_known s.old_held (s.old_row ∙ sym s.same_row) i less (ap is_link (sym (s.kept i less inn).1) ∙ e)

          q_gone : IsRemoved st now (below L x.place i)
          q_gone = child_removed a b thread c v rows kit ready order once x.place i less gone_x q_there

          z : ListHolds rows (below L x.place i)
          z = at_removed a b thread c v rows kit ready order once (below L x.place i) q_gone

      go : (t : Bool) → is_link (slice_index s.known.words i) ≡ t → is_link (slice_index s.known.words i) ≡ false
      go false e = e
      go true e = absurd (clash e)

  clear : (i : ℕ) → i < 512 → slice_get x.content i ≡ Some Invalid → slice_index s.known.words i ≡ 0
  clear i less none = dite (ℕ_discrete (slice_index s.known.words i) 0)
      (λ z. z)
      (λ ne. let k = s.kept i less (λ out. ne (out_zero x there i less out)) in
      k.1 ∙ links_none a b thread c v rows kit ready order once s.old s.was s.old_known s.old_held (s.old_row ∙ sym s.same_row) i less (sym k.0 ∙ none))

  empty : MayEmpty x.row x.content w
  empty = record {
    known = s.known;
    held = s.held;
    same_row = s.known_row;
    only = λ h hc same. one_known rows' w is.exact once' h s.known hc s.held (same ∙ sym s.known_row);
    linked = s.linked (subst (λ n. NotInHand v n) s.same_row (left a b thread c v rows kit ready order once s.old s.was).linked);
    whole = s.whole ∙ (left a b thread c v rows kit ready order once s.old s.was).whole;
    no_links = no_links;
    clear = clear;
  }

  -- the row above it
  above : (u : Row) × Contains rows' u × (u.place ≡ above_place L x.place)
  above =
      let u = above_removed a b thread c v rows kit ready order once x.place gone_x in
      elim (is.all u.0 u.1) [
        | inl out ↦
            let behind = subst (λ (y : Row). IsBefore y.place u.0.place) (at_x x) (is.ahead at x u.0 (omega arith) u.1 out) in
            let front = subst (λ p. IsBefore p x.place) (sym u.2) (above_before L x.place low placed) in
            absurd (before_same x.place (before_next x.place u.0.place x.place behind front))
        | inr y ↦ (y.0, y.1, y.3 ∙ u.2)
      ]

  abbrev u : Row
  u = above.0

  abbrev t_up : Stays L v rows w gone u
  t_up = is.each u above.1

  abbrev index : ℕ
  index = above_index L x.place

  small : index < 512
  small = index_inside L x.place placed

  leads : below L u.place index ≡ x.place
  leads = ap (λ p. below L p index) above.2 ∙ leads_there L x.place low placed

  up_before : IsBefore u.place x.place
  up_before = subst (λ p. IsBefore p x.place) (sym above.2) (above_before L x.place low placed)

  up_other : u.row ≢ x.row
  up_other same = before_same x.place (subst (λ (y : Row). IsBefore y.place x.place) (one_number rows' u x once' above.1 there same) up_before)

  up_kept : slice_index t_up.known.words index ≡ slice_index t_up.old_known.words index
  up_kept = (t_up.kept index small (λ out. not_out (subst (IsOut rows gone) leads out))).1

  old_link : is_link (slice_index t_up.old_known.words index) ≡ true
  old_link = links_up a b thread c v rows kit ready order once t_up.old t_up.was t_up.old_known t_up.old_held (t_up.old_row ∙ sym t_up.same_row) index small
      (ap (λ p. set.contains st.tables (below L p index)) t_up.same_place ∙ (ap (set.contains st.tables) leads ∙ gone_x.0))

  place_was : t_up.old_known.place ≡ u.place
  place_was =
      let is_left = left a b thread c v rows kit ready order once t_up.old t_up.was in
      let known = known_is a b thread c v rows kit ready order once t_up.old t_up.was t_up.old_known t_up.old_held (t_up.old_row ∙ sym t_up.same_row) in
      sym (ap (λ (k : KnownRow (List Cell)). k.place) known) ∙ (is_left.same_place ∙ t_up.same_place)

  level_is : v.layout.levels ≡ L
  level_is = ready.same_levels ∙ sym (has_levels a)

  leads_so : entry_place v.layout.levels t_up.old_known.place index ≡ x.place
  leads_so = (λ i. entry_place (level_is i) (place_was i) index) ∙ leads

  meets : Meets (zone_of thread c) (entry_place v.layout.levels t_up.old_known.place index)
  meets =
      let none = accepted a b thread c v rows kit ready order once x.place gone_x in
      subst (Meets (zone_of thread c)) (sym leads_so) ((steps_removed a b thread c kit ready.consistent ready.committed none).meets x.place gone_x)

  -- the row to which that entry leads is the one at this position
  child : HoldsAt v.rows (link_row (slice_index t_up.old_known.words index)) (entry_place v.layout.levels t_up.old_known.place index)
  child = ready.links (not_refused a b thread c kit ready.consistent ready.committed (accepted a b thread c v rows kit ready order once x.place gone_x)) t_up.old_known t_up.old_held index small old_link meets

  is_child : (z : Row) (has : Contains rows z) → z.row ≡ child.known.row → z ≡ s.old
  is_child z has same =
      let known = known_is a b thread c v rows kit ready order once z has child.known child.held (sym same) in
      let place = sym (left a b thread c v rows kit ready order once z has).same_place ∙ ap (λ (h : KnownRow (List Cell)). h.place) known in
      one_place rows z s.old order has s.was (place ∙ (child.same_place ∙ (leads_so ∙ sym s.same_place)))

  old_leads : link_row (slice_index t_up.old_known.words index) ≡ x.row
  old_leads =
      let z = listed rows v ready.exact child.known child.held in
      sym child.same_row ∙ (sym z.2 ∙ (ap (λ (y : Row). y.row) (is_child z.0 z.1 z.2) ∙ s.same_row))

  pub may_go : MayCut L at x rows' w
  may_go = record {
    inside = inside;
    is = at_x;
    place = placed;
    shown = is.exact.shown;
    empty = empty;
    up = u;
    up_there = above.1;
    is_up = above.2;
    up_only = λ y has place. one_place rows' y u order' has above.1 (place ∙ sym above.2);
    up_other = up_other;
    linker = t_up.known;
    linker_held = t_up.held;
    linker_row = t_up.known_row;
    linker_only = λ h hc same. one_known rows' w is.exact once' h t_up.known hc t_up.held (same ∙ sym t_up.known_row);
    link = ap is_link up_kept ∙ old_link;
    to_row = ap link_row up_kept ∙ old_leads;
  }

  pub has_place : length kit'.gone.items < 1023
  has_place =
      let more = two_places at above.1.0 (length rows') inside above.1.1 (λ e. up_other (ap (λ (y : Row). y.row) (sym above.1.2 ∙ (ap (λ k. slice_index_or rows' k u) e ∙ at_x u)))) in
      let all = is.count in let most = ready.few_rows in omega arith
