-- The rows of a list are gone through from the last to the first: one more.
--     further      the list, the pass and the kit after it
use Rattle.std.specs.Prelude.{◌≡◌, ℕ, ◌+◌, ◌<◌, ◌≤◌, ◌⊎◌, not, Bool, true, false, cond, nat_eq, List, [], ◌∷◌, ◌++◌, map, length, slice_get, slice_index, slice_index_or, slice_set, Some}
use Rattle.std.specs.List.{Contains}
use Rattle.std.proofs.Common.{sym, refl, ◌∙◌, ap, subst, arith, inl, inr, eq-eqb, ne_eqb, append_assoc, length-append}
use Rattle.std.proofs.lemmas.List.{map-append, length-set}
use Rattle.std.proofs.lemmas.List.Elements.{Contains-get_or, Contains-append_left, Contains-push, Contains-push_cases}
use mathlib.Core.Logic.{dite}
use native.Mathlib.Decide.{ℕ_discrete}
use Rattle.walk_core.specs.declared.pass.UnlinkedRow.{UnlinkedRow}
use Rattle.walk_core.specs.Core.{unlinked_rows, times_in_hand}
use Rattle.walk_core.specs.Events.{newly_unlinked}
use Rattle.walk_core.specs.Lists.{times, without, IsDistinct}
use Rattle.walk_core.proofs.RowLists.{in_map, times_push_other}
use Rattle.row_cells.specs.declared.Cell.{Cell}
use Rattle.row_cells.specs.declared.Cell.TheVariants.{Invalid}
use Rattle.row_table.specs.declared.view.HeldRow.{HeldRow as KnownRow}
use Rattle.row_table.specs.Links.{with_word}
use Rattle.row_table.specs.Moves.{NotInHand}
use Rattle.row_table.specs.Rule.{row_part}
use Rattle.row_table.proofs.Beside.{not_part}
use Rattle.row_table.proofs.Turns.{same_parts}
use Rattle.row_table.proofs.Views.{rows_without}
use Rattle.table_place.specs.Place.{is_place, directory}
use Rattle.tree_lock.specs.Held.{row_number, row_numbers, IsInOrder, with_content}
use Rattle.tree_lock.specs.Order.{IsBefore}
use Rattle.tree_lock.specs.Release.{HoldsExactly}
use Rattle.tree_lock.specs.Zone.{IsTable}
use Rattle.tree_lock.proofs.Rows.{once_removed}
use Rattle.machine_plan.specs.declared.kit.Kit.{Kit}
use Rattle.machine_plan.specs.Agrees.{below}
use Rattle.machine_plan.specs.HeldRows.{Row}
use Rattle.cursor_detach.specs.Removing.{is_cut}
use Rattle.cursor_detach.specs.Cutting.{above_place, above_index, cut_view, Cuts}
use Rattle.cursor_detach.specs.Detaching.{IsOut, StepsBack, Stays, Cutting}
use Rattle.cursor_detach.proofs.Changed.{directory_never}
use Rattle.cursor_detach.proofs.Empty.{View}
use Rattle.cursor_detach.proofs.Lists.{get_same, get_other, still_there, zero_set, zero_beside}
use Rattle.cursor_detach.proofs.OneCut.{left_was, was_left, at_there, same_number}
use Rattle.cursor_detach.proofs.Positions.{index_inside, leads_there, one_entry}
use Rattle.cursor_detach.proofs.RowLists.{one_place, one_index, one_number, with_same, with_other, with_length, with_numbers, with_place, with_row, left_order, one_less, taken_out, numbers_left, before_it, behind_it}

-- another row's words are as they were
word_other : (row index : ℕ) (h : KnownRow (List Cell)) → (h.row ≡ row → ⊥) → with_word row index 0 h ≡ h
word_other row index h other = ap (λ b. cond b (record h { words = slice_set h.words index 0 }) h) (ne_eqb h.row row other)

word_same : (row index : ℕ) (h : KnownRow (List Cell)) → h.row ≡ row → (with_word row index 0 h).words ≡ slice_set h.words index 0
word_same row index h same = ap (λ b. (cond b (record h { words = slice_set h.words index 0 }) h).words) (eq-eqb h.row row same)

word_place : (row index : ℕ) (h : KnownRow (List Cell)) → (with_word row index 0 h).place ≡ h.place
word_place row index h = go (nat_eq h.row row)
  where
    go : (b : Bool) → (cond b (record h { words = slice_set h.words index 0 }) h).place ≡ h.place
    go true = refl
    go false = refl

module _ {B E : Type 0} (L : ℕ) (low : L < 6) (some : 1 ≤ L) (v : View B E) (rows : List Row) (kit : Kit) (order : IsInOrder rows) (once : IsDistinct (row_numbers rows)) (tables : (x : Row) → Contains rows x → IsTable L x.place)
    (at : ℕ) (w : View B E) (rows' : List Row) (kit' : Kit) (is : Cutting L (at + 1) v rows kit w rows' kit') (w'' : View B E) (rows'' : List Row) (kit'' : Kit) (steps : StepsBack L at rows' w kit' rows'' w'' kit'') where
  -- the row stays
  kept_on : is_cut L kit' steps.row.place ≡ false → Cutting L at v rows kit w rows' kit'
  kept_on spared = record {
    view = is.view;
    exact = is.exact;
    once = is.once;
    kit_is = is.kit_is;
    room = is.room;
    count = is.count;
    within = (let more = is.within in omega arith);
    each = is.each;
    all = is.all;
    only = is.only;
    ahead = λ k d y less. is.ahead k d y (omega arith);
    behind = λ k d from high. dite (ℕ_discrete k at)
        (λ e. ap (λ n. is_cut L kit (slice_index_or rows' n d).place) e ∙ (ap (λ (y : Row). is_cut L kit y.place) (steps.is d) ∙ (sym (ap (λ (q : Kit). is_cut L q steps.row.place) is.kit_is) ∙ spared)))
        (λ ne. is.behind k d (larger at k from (λ e. ne (sym e))) high);
  }
    where
      larger : (a b : ℕ) → a ≤ b → (a ≡ b → ⊥) → a + 1 ≤ b
      larger a b le ne = omega arith

  -- the row goes out
  module _ (cut : is_cut L kit' steps.row.place ≡ true) (cuts : Cuts L at rows' w rows'' w'' kit'.gone.items kit''.gone.items) where
    abbrev r : Row
    r = cuts.row

    abbrev up : Row
    up = cuts.is_up.row

    abbrev index : ℕ
    index = above_index L r.place

    abbrev gone : List ℕ
    gone = kit'.gone.items

    abbrev next : List ℕ
    next = kit''.gone.items

    same_row : r ≡ steps.row
    same_row = sym (cuts.is r) ∙ steps.is r

    r_there : Contains rows' r
    r_there = subst (Contains rows') (cuts.is r) (Contains-get_or rows' at r steps.inside)

    abbrev s : Stays L v rows w gone r
    s = is.each r r_there

    cut_r : is_cut L kit r.place ≡ true
    cut_r = ap (λ (y : Row). is_cut L kit y.place) same_row ∙ (sym (ap (λ (q : Kit). is_cut L q steps.row.place) is.kit_is) ∙ cut)

    placed : is_place L r.place ≡ true
    placed = elim (tables s.old s.was) as (λ t. is_place L r.place ≡ true) [
      | inl top ↦ absurd (never (ap (is_cut L kit) (sym (sym s.same_place ∙ top)) ∙ cut_r))
      | inr there ↦ ap (is_place L) (sym s.same_place) ∙ there
    ]
      where
        never : is_cut L kit directory ≡ true → ⊥
        never e = directory_never L (omega arith) kit e

    leads : below L (above_place L r.place) index ≡ r.place
    leads = leads_there L r.place low placed

    more : (row : ℕ) → Contains gone row → Contains next row
    more row out = subst (λ (l : List ℕ). Contains l row) (sym cuts.gone_are) (Contains-append_left gone (r.row ∷ []) row out)

    r_out : Contains next r.row
    r_out = subst (λ (l : List ℕ). Contains l r.row) (sym cuts.gone_are) (Contains-push gone r.row)

    fewer : (row : ℕ) → Contains next row → Contains gone row ⊎ (r.row ≡ row)
    fewer row out = Contains-push_cases gone r.row row (subst (λ (l : List ℕ). Contains l row) cuts.gone_are out)

    -- a row that is still in the list
    other : (y : Row) → Contains cuts.left y → y.row ≡ r.row → ⊥
    other y has same = not_part row_number cuts.left (row_numbers cuts.left) r.row refl (taken_out at r rows' cuts.left cuts.removed steps.once) y has same

    up_there : Contains cuts.left up
    up_there = at_there (above_place L r.place) cuts.left cuts.up cuts.is_up

    -- ---- the pass

    abbrev W : View B E
    W = cut_view w r.row up.row index

    view_now : w'' ≡ record v { core = record v.core { held = w''.core.held; unlinked = v.core.unlinked ++ map newly_unlinked next }; rows = w''.rows }
    view_now = cuts.view
        ∙ (ap (λ (u : View B E). record u { core = record u.core { held = W.core.held; unlinked = W.core.unlinked }; rows = W.rows }) is.view
        ∙ (λ i. record v { core = record v.core { held = (sym cuts.view i).core.held; unlinked = list i }; rows = (sym cuts.view i).rows }))
      where
        list : w.core.unlinked ++ newly_unlinked r.row ∷ [] ≡ v.core.unlinked ++ map newly_unlinked next
        list = ap (λ (u : View B E). u.core.unlinked ++ newly_unlinked r.row ∷ []) is.view
            ∙ (append_assoc v.core.unlinked (map newly_unlinked gone) (newly_unlinked r.row ∷ [])
            ∙ ap (λ (l : List UnlinkedRow). v.core.unlinked ++ l) (sym (map-append newly_unlinked gone (r.row ∷ [])) ∙ ap (map newly_unlinked) (sym cuts.gone_are)))

    exact_now : HoldsExactly rows'' w''.core.held w''.rows
    exact_now = subst (λ (u : View B E). HoldsExactly rows'' u.core.held u.rows) (sym cuts.view) (record {
      held = λ q. ap (λ (l : List Row). times q (row_numbers l)) cuts.rows_are
          ∙ (ap (times q) (with_numbers cuts.left cuts.up (slice_set up.content index Invalid))
          ∙ numbers_left at r rows' cuts.left cuts.removed steps.once w.core.held is.exact.held q);
      shown = rows_without r.row (map (with_word up.row index 0) w.rows)
          ∙ ap (without r.row) (same_parts (with_word up.row index 0) row_part row_part (λ h. same_number up.row index h) w.rows ∙ is.exact.shown);
    })

    -- ---- a row of the list

    -- it is one that was left, with its cell above the row emptied or as it was
    record Came (y : Row) : Type 0 where
      pub was : Row
      pub there : Contains cuts.left was
      pub same_row : was.row ≡ y.row
      pub same_place : was.place ≡ y.place
      pub above : was ≡ up → y.content ≡ slice_set was.content index Invalid
      pub beside : (was ≡ up → ⊥) → y.content ≡ was.content

    module _ (y : Row) (has : Contains rows'' y) where
      abbrev place : ℕ
      place = has.0

      inside : place < length cuts.left
      inside = let a = ap length cuts.rows_are in let b = with_length cuts.left cuts.up (slice_set up.content index Invalid) in let less = has.1 in omega arith

      y_is : slice_index_or (with_content cuts.left cuts.up (slice_set up.content index Invalid)) place y ≡ y
      y_is = ap (λ (l : List Row). slice_index_or l place y) (sym cuts.rows_are) ∙ has.2

      at_up : place ≡ cuts.up → Came y
      at_up e =
          let now : y ≡ record up { content = slice_set up.content index Invalid } =
          sym y_is ∙ (ap (λ n. slice_index_or (with_content cuts.left cuts.up (slice_set up.content index Invalid)) n y) e
          ∙ (with_same cuts.left cuts.up (slice_set up.content index Invalid) y cuts.is_up.inside ∙ ap (λ (z : Row). record z { content = slice_set up.content index Invalid }) (cuts.is_up.is y))) in
          record {
            was = up;
            there = up_there;
            same_row = ap (λ (z : Row). z.row) (sym now);
            same_place = ap (λ (z : Row). z.place) (sym now);
            above = λ _. ap (λ (z : Row). z.content) now;
            beside = λ ne. absurd (ne refl);
          }

      beside_up : (place ≡ cuts.up → ⊥) → Came y
      beside_up ne =
          let now : slice_index_or cuts.left place y ≡ y = sym (with_other cuts.left cuts.up place (slice_set up.content index Invalid) y ne) ∙ y_is in
          record {
            was = slice_index_or cuts.left place y;
            there = Contains-get_or cuts.left place y inside;
            same_row = ap (λ (z : Row). z.row) now;
            same_place = ap (λ (z : Row). z.place) now;
            above = λ e. absurd (ne (one_index cuts.left place cuts.up y (left_order at r rows' cuts.left cuts.removed steps.order) inside cuts.is_up.inside (ap (λ (z : Row). z.place) (e ∙ sym (cuts.is_up.is y)))));
            beside = λ _. ap (λ (z : Row). z.content) (sym now);
          }

      came : Came y
      came = dite (ℕ_discrete place cuts.up) at_up beside_up

    module _ (y : Row) (has : Contains rows'' y) where
      abbrev o : Came y
      o = came y has

      t_there : Contains rows' o.was
      t_there = left_was at r rows' cuts.left cuts.removed o.was o.there

      abbrev t : Stays L v rows w gone o.was
      t = is.each o.was t_there

      abbrev k : KnownRow (List Cell)
      k = with_word up.row index 0 t.known

      up_was : Contains rows' up
      up_was = left_was at r rows' cuts.left cuts.removed up up_there

      is_up_or : (P : Type 0) → (o.was ≡ up → P) → ((o.was ≡ up → ⊥) → P) → P
      is_up_or P there apart = dite (ℕ_discrete o.was.row up.row)
          (λ e. there (one_number rows' o.was up steps.once t_there up_was e))
          (λ ne. apart (λ e. ne (ap (λ (z : Row). z.row) e)))

      long : length y.content ≡ length o.was.content
      long = is_up_or (length y.content ≡ length o.was.content)
          (λ e. ap length (o.above e) ∙ length-set o.was.content index Invalid)
          (λ ne. ap length (o.beside ne))

      hand : NotInHand v y.row → NotInHand W y.row
      hand n =
          let before = t.linked (subst (NotInHand v) (sym o.same_row) n) in
          let moved : times y.row (unlinked_rows w.core ++ r.row ∷ []) ≡ times y.row (unlinked_rows w.core) = times_push_other y.row r.row (unlinked_rows w.core) (λ e. other o.was o.there (o.same_row ∙ sym e)) in
          let all = ap (times y.row) (map-append (λ (z : UnlinkedRow). z.row) w.core.unlinked (newly_unlinked r.row ∷ [])) in
          let same : times_in_hand y.row w.core ≡ 0 = subst (NotInHand w) o.same_row before in
          omega arith

      below_is : (i : ℕ) → below L o.was.place i ≡ below L y.place i
      below_is i = ap (λ p. below L p i) o.same_place

      abbrev up_stays : Stays L v rows w gone up
      up_stays = is.each up up_was

      -- the entry above the row that goes
      is_above : (i : ℕ) → i < 512 → below L y.place i ≡ r.place → (o.was ≡ up) × (i ≡ index)
      is_above i inside e =
          let both = one_entry L y.place (above_place L r.place) i index low some (subst (IsTable L) (t.same_place ∙ o.same_place) (tables t.old t.was)) (subst (IsTable L) (up_stays.same_place ∙ cuts.is_up.place) (tables up_stays.old up_stays.was)) inside (index_inside L r.place placed) (e ∙ sym leads) in
          (one_place rows' o.was up steps.order t_there up_was (o.same_place ∙ (both.0 ∙ sym cuts.is_up.place)), both.1)

      -- what stands there
      cleared : (i : ℕ) → i < 512 → i < length t.old.content → o.was ≡ up → i ≡ index → (slice_get y.content i ≡ Some Invalid) × (slice_index k.words i ≡ 0)
      cleared i inside within e at_it = (
        ap (λ (l : List Cell). slice_get l i) (o.above e) ∙ (ap (slice_get (slice_set o.was.content index Invalid)) at_it ∙ get_same o.was.content index Invalid (let a = t.whole in omega arith)),
        ap (λ (l : List ℕ). slice_index l i) (word_same up.row index t.known (t.known_row ∙ ap (λ (z : Row). z.row) e)) ∙ (ap (slice_index (slice_set t.known.words index 0)) at_it ∙ zero_set t.known.words index),
      )

      -- and elsewhere
      as_was : (i : ℕ) → (o.was ≡ up → i ≡ index → ⊥) → (slice_get y.content i ≡ slice_get o.was.content i) × (slice_index k.words i ≡ slice_index t.known.words i)
      as_was i apart = is_up_or ((slice_get y.content i ≡ slice_get o.was.content i) × (slice_index k.words i ≡ slice_index t.known.words i))
          (λ e. (
            ap (λ (l : List Cell). slice_get l i) (o.above e) ∙ get_other o.was.content index i Invalid (apart e),
            ap (λ (l : List ℕ). slice_index l i) (word_same up.row index t.known (t.known_row ∙ ap (λ (z : Row). z.row) e)) ∙ zero_beside t.known.words index i (apart e),
          ))
          (λ ne. (
            ap (λ (l : List Cell). slice_get l i) (o.beside ne),
            ap (λ (h : KnownRow (List Cell)). slice_index h.words i) (word_other up.row index t.known (λ e. ne (one_number rows' o.was up steps.once t_there up_was (sym t.known_row ∙ e)))),
          ))

      cut_at : (i : ℕ) → i < 512 → i < length t.old.content → IsOut rows next (below L y.place i) → (slice_get y.content i ≡ Some Invalid) × (slice_index k.words i ≡ 0)
      cut_at i inside within out = elim (fewer out.0.row out.3) as (λ q. (slice_get y.content i ≡ Some Invalid) × (slice_index k.words i ≡ 0)) [
        | inl before ↦ both_ways (t.cut i inside within (out.0, out.1, out.2 ∙ sym (below_is i), before))
        | inr same ↦
            let z = ap (λ (q : Row). q.place) (one_number rows out.0 s.old once out.1 s.was (sym same ∙ sym s.same_row)) in
            let here = is_above i inside (sym out.2 ∙ (z ∙ s.same_place)) in
            cleared i inside within here.0 here.1
      ]
        where
          both_ways : (slice_get o.was.content i ≡ Some Invalid) × (slice_index t.known.words i ≡ 0) → (slice_get y.content i ≡ Some Invalid) × (slice_index k.words i ≡ 0)
          both_ways old = dite (ℕ_discrete i index)
              (λ e. is_up_or ((slice_get y.content i ≡ Some Invalid) × (slice_index k.words i ≡ 0)) (λ u. cleared i inside within u e) (λ ne. let a = as_was i (λ u _. ne u) in (a.0 ∙ old.0, a.1 ∙ old.1)))
              (λ ne. let a = as_was i (λ _. ne) in (a.0 ∙ old.0, a.1 ∙ old.1))

      kept_at : (i : ℕ) → i < 512 → ¬ IsOut rows next (below L y.place i) → (slice_get y.content i ≡ slice_get t.old.content i) × (slice_index k.words i ≡ slice_index t.old_known.words i)
      kept_at i inside not_out =
          let a = as_was i (λ e here. not_out (s.old, s.was, s.same_place ∙ (sym leads ∙ (λ j. below L (sym cuts.is_up.place j) (sym here j)) ∙ ap (λ (z : Row). below L z.place i) (sym e) ∙ below_is i), subst (Contains next) (sym s.same_row) r_out)) in
          let old = t.kept i inside (λ out. not_out (out.0, out.1, out.2 ∙ below_is i, more out.0.row out.3)) in
          (a.0 ∙ old.0, a.1 ∙ old.1)

      each_now : Stays L v rows w'' next y
      each_now = record {
        old = t.old;
        was = t.was;
        same_row = t.same_row ∙ o.same_row;
        same_place = t.same_place ∙ o.same_place;
        stays = λ out. elim (fewer y.row out) [
          | inl before ↦ t.stays (subst (Contains gone) (sym o.same_row) before)
          | inr same ↦ other o.was o.there (o.same_row ∙ sym same)
        ];
        old_known = t.old_known;
        old_held = t.old_held;
        old_row = t.old_row ∙ o.same_row;
        known = k;
        held = subst (λ (u : View B E). Contains u.rows k) (sym cuts.view)
            (still_there (λ h. not (nat_eq h.row r.row)) (map (with_word up.row index 0) w.rows) k
            (ap not (ne_eqb k.row r.row (λ e. other o.was o.there (sym t.known_row ∙ (sym (same_number up.row index t.known) ∙ e)))))
            (in_map (with_word up.row index 0) w.rows t.known t.held));
        known_row = same_number up.row index t.known ∙ (t.known_row ∙ o.same_row);
        known_place = word_place up.row index t.known ∙ t.known_place;
        linked = λ n. subst (λ (u : View B E). NotInHand u y.row) (sym cuts.view) (hand n);
        whole = long ∙ t.whole;
        cut = λ i inside within out. cut_at i inside within out;
        kept = λ i inside not_out. kept_at i inside not_out;
      }

    all_now : (z : Row) → Contains rows z → Contains next z.row ⊎ ((y : Row) × Contains rows'' y × (y.row ≡ z.row) × (y.place ≡ z.place))
    all_now z has = elim (is.all z has) as (λ q. Contains next z.row ⊎ ((y : Row) × Contains rows'' y × (y.row ≡ z.row) × (y.place ≡ z.place))) [
      | inl out ↦ inl (more z.row out)
      | inr y ↦ dite (ℕ_discrete r.row y.0.row)
          (λ e. inl (subst (Contains next) (e ∙ y.2) r_out))
          (λ ne. inr (
          let k = was_left at r rows' cuts.left cuts.removed y.0 (λ e. ne (ap (λ (q : Row). q.row) e)) y.1 in
          let now = slice_index_or (with_content cuts.left cuts.up (slice_set up.content index Invalid)) k.0 y.0 in
          let long = with_length cuts.left cuts.up (slice_set up.content index Invalid) in (
            now,
            subst (λ (l : List Row). Contains l now) (sym cuts.rows_are) (Contains-get_or (with_content cuts.left cuts.up (slice_set up.content index Invalid)) k.0 y.0 (let less = k.1 in omega arith)),
            with_row cuts.left cuts.up k.0 (slice_set up.content index Invalid) y.0 cuts.is_up.inside ∙ (ap (λ (q : Row). q.row) k.2 ∙ y.2),
            with_place cuts.left cuts.up k.0 (slice_set up.content index Invalid) y.0 cuts.is_up.inside ∙ (ap (λ (q : Row). q.place) k.2 ∙ y.3),
          )))
    ]

    only_now : (row : ℕ) → Contains next row → (z : Row) × Contains rows z × (z.row ≡ row) × (is_cut L kit z.place ≡ true)
    only_now row out = elim (fewer row out) as (λ q. (z : Row) × Contains rows z × (z.row ≡ row) × (is_cut L kit z.place ≡ true)) [
      | inl before ↦ is.only row before
      | inr same ↦ (s.old, s.was, s.same_row ∙ same, ap (is_cut L kit) s.same_place ∙ cut_r)
    ]

    place_now : (k : ℕ) (d : Row) → (slice_index_or rows'' k d).place ≡ (slice_index_or cuts.left k d).place
    place_now k d = ap (λ (l : List Row). (slice_index_or l k d).place) cuts.rows_are ∙ with_place cuts.left cuts.up k (slice_set up.content index Invalid) d cuts.is_up.inside

    length_now : length rows'' ≡ length cuts.left
    length_now = ap length cuts.rows_are ∙ with_length cuts.left cuts.up (slice_set up.content index Invalid)

    gone_on : Cutting L at v rows kit w'' rows'' kit''
    gone_on = record {
      view = view_now;
      exact = exact_now;
      once = subst (λ (l : List ℕ). IsDistinct l) (sym (ap row_numbers cuts.rows_are ∙ with_numbers cuts.left cuts.up (slice_set up.content index Invalid))) (once_removed at r rows' cuts.left cuts.removed steps.once);
      kit_is = steps.kit_is ∙ ap (λ (q : Kit). record q { gone = kit''.gone }) is.kit_is;
      room = λ room. steps.room (is.room room);
      count = (let a = length_now in let b = one_less at r rows' cuts.left cuts.removed in let d = ap length cuts.gone_are in let e = length-append gone (r.row ∷ []) in let f = is.count in omega arith);
      within = (let a = length_now in let b = one_less at r rows' cuts.left cuts.removed in let f = is.within in omega arith);
      each = λ y has. each_now y has;
      all = all_now;
      only = only_now;
      ahead = λ k d z less has out. subst (λ p. IsBefore p z.place) (sym (place_now k d ∙ ap (λ (q : Row). q.place) (before_it at r rows' cuts.left cuts.removed k d less)))
          (elim (fewer z.row out) as (λ q. IsBefore (slice_index_or rows' k d).place z.place) [
            | inl before ↦ is.ahead k d z (omega arith) has before
            | inr same ↦
                let z_is : z.place ≡ r.place = ap (λ (q : Row). q.place) (one_number rows z s.old once has s.was (sym same ∙ sym s.same_row)) ∙ s.same_place in
                subst (IsBefore (slice_index_or rows' k d).place) (ap (λ (q : Row). q.place) (cuts.is d) ∙ sym z_is) (steps.order k at d less steps.inside)
          ]);
      behind = λ k d from high.
          ap (is_cut L kit) (place_now k d ∙ ap (λ (q : Row). q.place) (behind_it at r rows' cuts.left cuts.removed k d from))
          ∙ is.behind (k + 1) d (omega arith) (let a = length_now in let b = one_less at r rows' cuts.left cuts.removed in omega arith);
    }

  pub further : Cutting L at v rows kit w'' rows'' kit''
  further = go (is_cut L kit' steps.row.place) refl
    where
      go : (t : Bool) → is_cut L kit' steps.row.place ≡ t → Cutting L at v rows kit w'' rows'' kit''
      go true e = gone_on e (steps.goes e)
      go false e =
          let same = steps.stays e in
          subst (λ (l : List Row). Cutting L at v rows kit w'' l kit'') (sym same.0)
          (subst (λ (u : View B E). Cutting L at v rows kit u rows' kit'') (sym same.1) (subst (Cutting L at v rows kit w rows') (sym same.2) (kept_on e)))
