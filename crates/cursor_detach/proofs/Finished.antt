-- Once all rows of the list were gone through.
--     detached      what is left
use Rattle.std.specs.Prelude.{◌≡◌, ℕ, ◌<◌, ◌↔◌, Bool, true, false, cond, List, ◌++◌, map, slice_get, slice_index, Some}
use Rattle.std.specs.List.{Contains}
use Rattle.std.specs.FinSet as set
use Rattle.std.proofs.Common.{sym, refl, ◌∙◌, ap, subst, arith, inl, inr}
use Rattle.std.proofs.lemmas.Bool.{true≢false}
use Rattle.corten_base.specs.declared.calls.Call.{Call}
use Rattle.page_map.specs.State.{State, levels}
use Rattle.walk_core.specs.Events.{newly_unlinked}
use Rattle.walk_core.specs.Lists.{IsDistinct}
use Rattle.walk_core.specs.Words.{is_link}
use Rattle.walk_core.proofs.Spellings.{zero_no_link}
use Rattle.row_cells.specs.declared.Cell.{Cell}
use Rattle.row_cells.specs.declared.Cell.TheVariants.{Invalid}
use Rattle.row_table.specs.declared.view.HeldRow.{HeldRow as KnownRow}
use Rattle.row_table.specs.Moves.{NotInHand}
use Rattle.table_place.specs.declared.Place.{Place}
use Rattle.table_place.proofs.Entries.{level_of}
use Rattle.tree_lock.specs.Held.{row_numbers, IsInOrder}
use Rattle.machine_plan.specs.declared.kit.Kit.{Kit}
use Rattle.machine_plan.specs.Agrees.{below, IsTableOf, Agrees}
use Rattle.machine_plan.specs.Books.{BookData, state_of}
use Rattle.machine_plan.specs.Given.{IsRemoved, Leaves}
use Rattle.machine_plan.specs.HeldRows.{Row}
use Rattle.cursor_detach.specs.Left.{drawn_cell, is_taken, IsLeft}
use Rattle.cursor_detach.specs.Removing.{is_cut}
use Rattle.cursor_detach.specs.Detaching.{IsDetachable, Detached, IsOut, Stays, Cutting}
use Rattle.cursor_detach.proofs.Changed.{same_levels}
use Rattle.cursor_detach.proofs.Empty.{View}
use Rattle.cursor_detach.proofs.RowLists.{one_place, one_number}
use Rattle.cursor_detach.proofs.Started.{one_known, listed, left, known_is, table_at, is_gone, goes, at_removed, links_down, word_was, never}

module _ {B E : Type 0} (a b : BookData) (thread : ℕ) (c : Call) (v : View B E) (rows : List Row) (kit : Kit) (ready : IsDetachable a b thread c v rows kit) (order : IsInOrder rows) (once : IsDistinct (row_numbers rows))
    (w : View B E) (rows' : List Row) (kit' : Kit) (is : Cutting (levels (state_of a)) 0 v rows kit w rows' kit') where
  abbrev st : State
  st = state_of a

  abbrev L : ℕ
  L = levels st

  abbrev now : State
  now = state_of b

  abbrev gone : List ℕ
  gone = kit'.gone.items

  abbrev was : (x : Row) → Contains rows x → IsLeft a a thread c kit v x
  was = left a b thread c v rows kit ready order once

  -- no row that is left is at a removed position
  no_more : (y : Row) → Contains rows' y → ¬ IsRemoved st now y.place
  no_more y has removed =
      let t = is.each y has in
      true≢false (sym (is_gone a b thread c v rows kit ready order once t.old t.was (subst (IsRemoved st now) (sym t.same_place) removed))
      ∙ (ap (is_cut L kit) t.same_place ∙ (ap (λ (u : Row). is_cut L kit u.place) (sym has.2) ∙ is.behind has.0 y (omega arith) has.1)))

  out_removed : (p : Place) → IsOut rows gone p → IsRemoved st now p
  out_removed p out =
      let z = is.only out.0.row out.3 in
      subst (IsRemoved st now) (ap (λ (q : Row). q.place) (one_number rows z.0 out.0 once z.1 out.1 z.2) ∙ out.2) (goes a b thread c v rows kit ready order once z.0 z.1 z.3)

  removed_out : (p : Place) → IsRemoved st now p → IsOut rows gone p
  removed_out p removed =
      let z = at_removed a b thread c v rows kit ready order once p removed in
      elim (is.all z.0 z.1) [
        | inl out ↦ (z.0, z.1, z.2, out)
        | inr y ↦ absurd (no_more y.0 y.1 (subst (IsRemoved st now) (sym (y.3 ∙ z.2)) removed))
      ]

  listed_gone : (row : ℕ) → Contains gone row ↔ ((x : Row) × Contains rows x × (x.row ≡ row) × IsRemoved st now x.place)
  listed_gone row = (
    λ out. let z = is.only row out in (z.0, z.1, z.2, goes a b thread c v rows kit ready order once z.0 z.1 z.3),
    λ x. let out = removed_out x.0.place x.3 in subst (Contains gone) (ap (λ (q : Row). q.row) (one_place rows out.0 x.0 order out.1 x.1 out.2) ∙ x.2) out.3,
  )

  unlinked_are : w.core.unlinked ≡ v.core.unlinked ++ map newly_unlinked gone
  unlinked_are = ap (λ (u : View B E). u.core.unlinked) is.view

  -- ---- a row that is left

  module _ (y : Row) (has : Contains rows' y) where
    abbrev t : Stays L v rows w gone y
    t = is.each y has

    abbrev l : IsLeft a a thread c kit v t.old
    l = was t.old t.was

    same_known : l.known ≡ t.old_known
    same_known = known_is a b thread c v rows kit ready order once t.old t.was t.old_known t.old_held (t.old_row ∙ sym t.same_row)

    place_is : t.known.place ≡ y.place
    place_is = t.known_place ∙ (ap (λ (k : KnownRow (List Cell)). k.place) (sym same_known) ∙ (l.same_place ∙ t.same_place))

    linked_now : NotInHand w y.row
    linked_now = t.linked (subst (NotInHand v) t.same_row l.linked)

    table_now : IsTableOf now y.place
    table_now = elim (table_at a b thread c v rows kit ready order once t.old t.was) as (λ q. IsTableOf now y.place) [
      | inl top ↦ inl (sym t.same_place ∙ top)
      | inr there ↦ go (set.contains now.tables y.place) refl (ap (set.contains st.tables) (sym t.same_place) ∙ there)
    ]
      where
        go : (q : Bool) → set.contains now.tables y.place ≡ q → set.contains st.tables y.place ≡ true → IsTableOf now y.place
        go true e there = inr e
        go false e there = absurd (no_more y has (there, e))

    cut_now : (i : ℕ) → i < 512 → IsRemoved st now (below L y.place i) → (slice_get y.content i ≡ Some Invalid) × (slice_index t.known.words i ≡ 0)
    cut_now i inside removed = t.cut i inside (let long = l.whole in omega arith) (removed_out (below L y.place i) removed)

    kept_now : (i : ℕ) → i < 512 → ¬ IsRemoved st now (below L y.place i) → (slice_get y.content i ≡ slice_get t.old.content i) × (slice_index t.known.words i ≡ slice_index t.old_known.words i)
    kept_now i inside stays = t.kept i inside (λ out. stays (out_removed (below L y.place i) out))

    -- a link leads to a table that is left
    link_left : (i : ℕ) → i < 512 → is_link (slice_index t.known.words i) ≡ true → ¬ IsRemoved st now (below L y.place i)
    link_left i inside e removed = true≢false (sym e ∙ (ap is_link (cut_now i inside removed).1 ∙ zero_no_link))

    link_table : (i : ℕ) → i < 512 → is_link (slice_index t.known.words i) ≡ true → set.contains now.tables (below L y.place i) ≡ true
    link_table i inside e =
        let stays = link_left i inside e in
        go (set.contains now.tables (below L y.place i)) refl stays
        (ap (λ p. set.contains st.tables (below L p i)) (sym t.same_place)
        ∙ links_down a b thread c v rows kit ready order once t.old t.was t.old_known t.old_held (t.old_row ∙ sym t.same_row) i inside (ap is_link (sym (kept_now i inside stays).1) ∙ e))
      where
        go : (q : Bool) → set.contains now.tables (below L y.place i) ≡ q → ¬ IsRemoved st now (below L y.place i) → set.contains st.tables (below L y.place i) ≡ true → set.contains now.tables (below L y.place i) ≡ true
        go true e stays there = e
        go false e stays there = absurd (stays (there, e))

    left_now : IsLeft a b thread c kit w y
    left_now = record {
      known = t.known;
      held = t.held;
      same_row = t.known_row;
      same_place = place_is;
      linked = linked_now;
      old_words = l.old_words;
      old_cells = l.old_cells;
      agreed = subst (λ p. Agrees a p l.old_words l.old_cells) (l.same_place ∙ (t.same_place ∙ sym place_is)) l.agreed;
      whole = t.whole ∙ l.whole;
      cut = cut_now;
      word = λ i inside stays. (kept_now i inside stays).1 ∙ word_was a b thread c v rows kit ready order once t.old t.was t.old_known t.old_held (t.old_row ∙ sym t.same_row) i inside;
      cell = λ i cell inside stays e. (kept_now i inside stays).0
          ∙ (l.cell i cell inside (never a b thread c v rows kit ready order once (below L t.old.place i)) e ∙ ap (λ p. Some (cond (is_taken st thread c kit p i) (drawn_cell cell) cell)) t.same_place);
    }

  -- ---- a row of the pass

  known_row : (k : KnownRow (List Cell)) → Contains w.rows k → (y : Row) × (has : Contains rows' y) × ((is.each y has).known ≡ k)
  known_row k held =
      let y = listed rows' w is.exact k held in
      let t = is.each y.0 y.1 in
      (y.0, y.1, one_known rows' w is.exact is.once t.known k t.held held (t.known_row ∙ y.2))

  leaves : Leaves now v w
  leaves = record {
    left = λ h held table.
        let x = listed rows v ready.exact h held in
        let place : h.place ≡ x.0.place = ap (λ (k : KnownRow (List Cell)). k.place) (sym (known_is a b thread c v rows kit ready order once x.0 x.1 h held (sym x.2))) ∙ (was x.0 x.1).same_place in
        elim (is.all x.0 x.1) as (λ q. (k : KnownRow (List Cell)) × Contains w.rows k × NotInHand w k.row × (k.row ≡ h.row) × (k.place ≡ h.place)) [
          | inl out ↦ absurd (still (out_removed x.0.place (x.0, x.1, refl, out)) (subst (IsTableOf now) place table))
          | inr y ↦
              let t = is.each y.0 y.1 in
              (t.known, t.held, subst (NotInHand w) (sym t.known_row) (linked_now y.0 y.1), t.known_row ∙ (y.2 ∙ x.2), place_is y.0 y.1 ∙ (y.3 ∙ sym place))
        ];
    only = λ k held. let y = known_row k held in subst (IsTableOf now) (sym (place_is y.0 y.1) ∙ ap (λ (h : KnownRow (List Cell)). h.place) y.2) (table_now y.0 y.1);
    links = λ k i held inside link.
        let y = known_row k held in
        let place : y.0.place ≡ k.place = sym (place_is y.0 y.1) ∙ ap (λ (h : KnownRow (List Cell)). h.place) y.2 in
        (λ j. set.contains now.tables (below (same_levels a b thread c kit ready.consistent ready.committed j) (sym place j) i))
        ∙ link_table y.0 y.1 i inside (ap (λ (h : KnownRow (List Cell)). is_link (slice_index h.words i)) y.2 ∙ link);
    came = λ k i held inside link.
        let y = known_row k held in
        let t = is.each y.0 y.1 in
        let stays = link_left y.0 y.1 i inside (ap (λ (h : KnownRow (List Cell)). is_link (slice_index h.words i)) y.2 ∙ link) in (
          t.old_known,
          t.old_held,
          sym t.known_place ∙ ap (λ (h : KnownRow (List Cell)). h.place) y.2,
          sym (kept_now y.0 y.1 i inside stays).1 ∙ ap (λ (h : KnownRow (List Cell)). slice_index h.words i) y.2,
        );
    held = is.exact.shown;
    layout = ap (λ (u : View B E). u.layout) is.view;
  }
    where
      still : {p : Place} → IsRemoved st now p → IsTableOf now p → ⊥
      still {p} removed (inl top) =
          let at = level_of L p (ready.consistent.places p removed.0) in
          let high : p.level ≡ 6 = ap (λ (x : Place). x.level) top in
          let most = ready.consistent.few_levels in
          omega (arith, at.1, high, most)
      still removed (inr there) = true≢false (sym there ∙ removed.1)

  pub detached : Detached a b thread c v w rows rows' kit kit'
  detached = record {
    view = is.view ∙ (λ i. record v { core = record v.core { held = w.core.held; unlinked = sym unlinked_are i }; rows = w.rows });
    exact = is.exact;
    from = λ y has. let t = is.each y has in (t.old, t.was, t.same_row, t.same_place);
    kit_is = is.kit_is;
    room = is.room ready.committed.commits.room;
    gone = listed_gone;
    unlinked = unlinked_are;
    leaves = leaves;
    rows_left = left_now;
  }
