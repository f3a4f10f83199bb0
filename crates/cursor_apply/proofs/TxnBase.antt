-- The rows of a transaction between its commit and its changes, once the references of the pages that it leaves are in their cells again.
--     gone, between_gone      the pages whose references are gone;  the state between
--     all_gone      each is changed
--     txn_base      the rows are those of that state
use Rattle.std.specs.Prelude.{◌≡◌, ◌≢◌, ℕ, ◌+◌, ◌-◌, ◌*◌, ◌/◌, ◌^◌, ◌<◌, ◌≤◌, ◌⊎◌, ◌&&◌, not, Bool, true, false, cond, nat_eq, is_none, List, [], map, slice_get, slice_index, Option, Some, None}
use Rattle.std.specs.List.{Contains, filter}
use Rattle.std.specs.FinMap as fin
use Rattle.std.specs.FinSet as set
use Rattle.std.specs.FinSet.{FinSet}
use Rattle.std.proofs.Common.{sym, refl, ◌∙◌, ap, subst, arith, inl, inr, eq-eqb, ne_eqb}
use Rattle.std.proofs.lemmas.Bool.{true≢false, false≢true, and_parts, and_from}
use Rattle.std.proofs.lemmas.List.Elements.{All-contains}
use mathlib.Core.Logic.{dite}
use native.Mathlib.Decide.{ℕ_discrete}
use Rattle.corten_base.specs.declared.numbers.Limits.{Limits}
use Rattle.corten_base.specs.declared.permissions.Perm.{Perm}
use Rattle.corten_base.specs.declared.calls.Backing.{Backing}
use Rattle.corten_base.specs.declared.calls.Backing.TheVariants as backing
use Rattle.corten_base.specs.declared.calls.Call.{Call}
use Rattle.corten_base.specs.declared.calls.Call.TheVariants as call
use Rattle.corten_base.specs.declared.calls.TxnOp.{TxnOp}
use Rattle.counted_pages.specs.Pages.{CountedPage}
use Rattle.page_map.specs.declared.cell.Cell.{Cell as PageCell}
use Rattle.page_map.specs.declared.cell.Cell.TheVariants as page
use Rattle.page_map.specs.Cell.{contents, frame_of, slot_of}
use Rattle.page_map.specs.Effect.{frame_grants, slot_grants, is_given_up, wanted_tables, state_after}
use Rattle.page_map.specs.Mapping.{after_ops}
use Rattle.page_map.specs.State.{State, IsConsistent, SharersAgree, start, levels, space_at, cell_at, frame_owners}
use Rattle.page_map.specs.Tables.{changed_tables}
use Rattle.page_map.proofs.Alike.{has_no_number}
use Rattle.page_map.proofs.Cells.{changed}
use Rattle.page_map.proofs.Named.{after_unnamed}
use Rattle.page_map.proofs.OwnCalls.{limits_along}
use Rattle.page_map.proofs.Unmapped.{held_of}
use Rattle.row_cells.specs.declared.Cell.{Cell}
use Rattle.row_cells.specs.declared.Cell.TheVariants.{Invalid, Table, Anon, File, Mapped, Swapped}
use Rattle.row_table.specs.declared.view.PassView.{PassView}
use Rattle.row_table.specs.declared.view.HeldRow.{HeldRow as KnownRow}
use Rattle.row_table.specs.Moves.{NotInHand}
use Rattle.row_table.proofs.Turns.{contained_map, same_parts}
use Rattle.table_place.specs.declared.Place.{Place}
use Rattle.table_place.specs.Place.{has_page, pages_of as page_count, place_cmp, span_first}
use Rattle.table_place.specs.Range.{within}
use Rattle.table_place.proofs.Entries.{below_is, level_of, page_parts}
use Rattle.tree_lock.specs.Held.{row_number, row_numbers}
use Rattle.tree_lock.specs.Release.{HoldsExactly}
use Rattle.walk_core.specs.Lists.{times, IsDistinct}
use Rattle.walk_core.proofs.RowLists.{in_map}
use Rattle.machine_plan.specs.declared.kit.Change.TheVariants.{Op}
use Rattle.machine_plan.specs.declared.kit.Kit.{Kit}
use Rattle.machine_plan.specs.Agrees.{below, EachPage, HasSpareFor, IsLeafOf as IsLeafWord, IsNoTable, IsTableOf, Shows, Spells}
use Rattle.machine_plan.specs.Books.{BookData, state_of}
use Rattle.machine_plan.specs.Given.{IsRemoved}
use Rattle.machine_plan.specs.HeldRows.{Row, AreOf, is_table}
use Rattle.machine_plan.specs.Kits.{Refs, AreBacked}
use Rattle.machine_plan.specs.Uses.{refs_of, shown_ref, shown_refs, uses_page}
use Rattle.machine_plan.specs.Whole.{IsBook}
use Rattle.machine_plan.proofs.Pages.{own_page}
use Rattle.cursor_detach.specs.Left.{came_from, drawn_cell, is_taken}
use Rattle.cursor_detach.proofs.Started.{one_known}
use Rattle.cursor_apply.specs.declared.putting.Reference.TheVariants as reference
use Rattle.cursor_apply.specs.Between.{IsBetween}
use Rattle.cursor_apply.specs.Changed.{all_clean, IsBase, IsEntryOf, IsOld, IsRowOf}
use Rattle.cursor_apply.specs.Putting.{filled_cell, row_place}
use Rattle.cursor_apply.specs.Returning.{IsPageAt, IsRefAt, IsBackCell, ArePutBack}
use Rattle.cursor_apply.specs.Staging.{with_tables, AreStaged, IsStagedCell}
use Rattle.cursor_apply.proofs.Backs.{of_space_still}
use Rattle.cursor_apply.proofs.Between.{drawn, drawn_plain}
use Rattle.cursor_apply.proofs.FromStaged.{staged_base}
use Rattle.cursor_apply.proofs.KitLists.{HasRef, stayed, each_ref, ref_listed}
use Rattle.cursor_apply.proofs.Marks.{shows_same}
use Rattle.cursor_apply.proofs.Middle.{middle, is_between}
use Rattle.cursor_apply.proofs.PutKept.{filled_twice}
use Rattle.cursor_apply.proofs.PutRows.{page_below}
use Rattle.cursor_apply.proofs.Sole as sole
use Rattle.cursor_apply.proofs.TxnCuts.{IsDone}
use Rattle.cursor_apply.proofs.TxnPages.{HadRef, kept_ref, clean_parts}
use Rattle.cursor_apply.proofs.TxnSteps.{after_at, cells_now, kept_tables}

start_limits : (limits : Limits) (files : List (List ℕ)) → (start limits files).limits ≡ limits
unfolding start
start_limits limits files = refl

few_frames : (b : BookData) → IsBook b → (state_of b).limits.frames ≤ 4096
unfolding state_of
few_frames b is = subst (λ (l : Limits). l.frames ≤ 4096) (sym (limits_along (start b.limits b.files) b.journal ∙ start_limits b.limits b.files)) is.within.frames

after_is : (old : State) (thread space at len : ℕ) (ops : List TxnOp)
    → state_after old thread (call.Txn space at len ops) ≡ changed old space (after_ops ops (space_at old space)) (changed_tables (is_given_up old (call.Txn space at len ops)) (wanted_tables old thread (call.Txn space at len ops)) old.tables)
unfolding state_after
after_is old thread space at len ops = refl

framed_numbered : (y : PageCell) (n : ℕ) → frame_of y ≡ Some n → has_no_number (Some y) ≡ false
framed_numbered (page.Mapped perm origin frame bytes) n e = refl
framed_numbered (page.Swapped perm origin slot bytes) n e = refl
framed_numbered (page.Anon perm) n e = absurd (cc)
framed_numbered (page.File perm file index) n e = absurd (cc)

slotted_numbered : (y : PageCell) (n : ℕ) → slot_of y ≡ Some n → has_no_number (Some y) ≡ false
slotted_numbered (page.Mapped perm origin frame bytes) n e = refl
slotted_numbered (page.Swapped perm origin slot bytes) n e = refl
slotted_numbered (page.Anon perm) n e = absurd (cc)
slotted_numbered (page.File perm file index) n e = absurd (cc)

filled_frame : (origin : Backing) (perm : Perm) (r : CountedPage) → filled_cell (came_from origin perm) (reference.Frame r) ≡ Mapped perm origin r
filled_frame backing.Zero perm r = refl
filled_frame (backing.File file index) perm r = refl

filled_slot : (origin : Backing) (perm : Perm) (r : CountedPage) → filled_cell (came_from origin perm) (reference.Slot r) ≡ Swapped perm origin r
filled_slot backing.Zero perm r = refl
filled_slot (backing.File file index) perm r = refl

-- pages below a mark have no numbers
plain_page : (st : State) (q : Place) (cell : Cell) → 1 ≤ q.level → is_table cell ≡ false → Shows st q cell → (s p : ℕ) → has_page q s p ≡ true → has_no_number (cell_at st s p) ≡ true
plain_page st q Invalid high none shows s p has = ap has_no_number (shows.1 s p has)
plain_page st q Table high none shows s p has = absurd (true≢false none)
plain_page st q (Anon perm) high none shows s p has = ap has_no_number (shows.1 s p has)
plain_page st q (File perm file index) high none shows s p has = ap has_no_number (shows.1 s p has)
plain_page st q (Mapped perm origin frame) high none shows s p has = absurd (let zero = shows.1 in omega arith)
plain_page st q (Swapped perm origin slot) high none shows s p has = absurd (let zero = shows.1 in omega arith)

drawn_table : (t : Bool) (was : Cell) → is_table (cond t (drawn_cell was) was) ≡ false → is_table was ≡ false
drawn_table t Invalid e = refl
drawn_table true Table e = e
drawn_table false Table e = e
drawn_table t (Anon perm) e = refl
drawn_table t (File perm file index) e = refl
drawn_table t (Mapped perm origin frame) e = refl
drawn_table t (Swapped perm origin slot) e = refl

-- the only page of a position
only_page : (q : Place) (s p : ℕ) → q.level ≡ 0 → has_page q s p ≡ true → (q.space ≡ s) × (p ≡ q.prefix)
only_page q s p low has =
    let at = page_parts q s p (omega (arith, low)) has in
    (at.0, whole p (512 ^ q.level) (ap (λ m. 512 ^ m) low) ∙ at.1)
  where
    whole : (n m : ℕ) → m ≡ 1 → n ≡ n / m
    whole n m e = let same : n / m ≡ n / 1 = ap (λ k. n / k) e in omega (arith, same)

module _ (a b : BookData) (thread space at len : ℕ) (ops : List TxnOp) (kit : Kit) (was : IsConsistent (state_of a)) (new : IsConsistent (state_of b)) (books : IsBook a × IsBook b) (done : IsDone a b thread (call.Txn space at len ops) kit) where
  abbrev c : Call
  c = call.Txn space at len ops

  abbrev old : State
  old = state_of a

  abbrev now : State
  now = state_of b

  abbrev first : ℕ
  first = at / 4096

  abbrev uses : ℕ → Bool
  uses p = uses_page old thread c space p

  abbrev pub gone : ℕ → Bool
  gone p = uses p && (not (has_no_number (cell_at old space p)) && has_no_number (cell_at now space p))

  cells_b : (p : ℕ) → cell_at now space p ≡ after_at ops p (cell_at old space p)
  cells_b p = ap (λ (t : State). cell_at t space p) done.made.state ∙ cells_now old thread space at len ops done.made.limbo was done.made.ok p

  pub none_removed : (p : Place) → IsRemoved old now p → ⊥
  none_removed p r = kept_tables old thread space at len ops done.made.limbo was done.made.ok p r.0 (ap (λ (t : State). set.contains t.tables p) (sym done.made.state) ∙ r.1)

  had : (p : ℕ) (y : PageCell) → cell_at now space p ≡ Some y → has_no_number (Some y) ≡ false → HadRef (cell_at old space p) y
  had p y there numbered = kept_ref ops p (cell_at old space p) y (sym (cells_b p) ∙ there) numbered

  used_within : (p : ℕ) → uses p ≡ true → within first (page_count len) p ≡ true
  used_within p e = (and_parts (nat_eq space space) (within first (page_count len) p) e).1

  gone_within : (p : ℕ) → gone p ≡ true → within first (page_count len) p ≡ true
  gone_within p e = used_within p (and_parts (uses p) (not (has_no_number (cell_at old space p)) && has_no_number (cell_at now space p)) e).0

  abbrev st0 : State
  st0 = middle old now was space first (page_count len) uses

  abbrev pub st : State
  st = middle old now was space first (page_count len) gone

  between_used : IsBetween old now st0 space uses
  between_used = is_between old now was space first (page_count len) uses used_within (λ p r. absurd (none_removed p r))

  pub between_gone : IsBetween old now st space gone
  between_gone = is_between old now was space first (page_count len) gone gone_within (λ p r. absurd (none_removed p r))

  others : (s p : ℕ) → s ≢ space → cell_at now s p ≡ cell_at old s p
  others s p ne = ap (λ (t : State). cell_at t s p) done.made.state ∙ after_unnamed old thread done.made.limbo s p c (ap (λ t. t && within first (page_count len) p) (ne_eqb s space ne)) done.made.ok

  pub all_gone : (p : ℕ) → all_clean (map Op ops) gone p ≡ false
  all_gone p = go (all_clean (map Op ops) gone p) refl
    where
      go : (t : Bool) → all_clean (map Op ops) gone p ≡ t → all_clean (map Op ops) gone p ≡ false
      go false e = e
      go true e =
          let parts = clean_parts ops gone p e in
          let both = and_parts (not (has_no_number (cell_at old space p))) (has_no_number (cell_at now space p)) (and_parts (uses p) (not (has_no_number (cell_at old space p)) && has_no_number (cell_at now space p)) parts.0).1 in
          let same = cells_b p ∙ parts.1 (cell_at old space p) in
          absurd (off (has_no_number (cell_at old space p)) both.0 (sym (ap has_no_number same) ∙ both.1))
        where
          off : (t : Bool) → not t ≡ true → t ≡ true → ⊥
          off true h e = false≢true h
          off false h e = false≢true e

  -- ---- the references

  abbrev frame_list : Refs
  frame_list = kit.own_frames.items

  abbrev slot_list : Refs
  slot_list = kit.own_slots.items

  abbrev the_used : List (ℕ × PageCell)
  the_used = filter (λ (e : ℕ × PageCell). uses e.0) (fin.entries (space_at now space))

  own_frames_of : shown_refs frame_list ≡ refs_of frame_of (filter (λ (e : ℕ × PageCell). stayed (frame_grants old c) e.0) the_used)
  own_frames_of = ap (λ (k : Kit). shown_refs k.own_frames.items) done.made.same ∙ done.made.granted.own_frames

  own_slots_of : shown_refs slot_list ≡ refs_of slot_of (filter (λ (e : ℕ × PageCell). stayed (slot_grants old c) e.0) the_used)
  own_slots_of = ap (λ (k : Kit). shown_refs k.own_slots.items) done.made.same ∙ done.made.granted.own_slots

  backed : AreBacked b.frames kit.own_frames.items × AreBacked b.frames kit.frames.items × AreBacked b.slots kit.own_slots.items × AreBacked b.slots kit.slots.items
  backed = subst (λ (k : Kit). AreBacked b.frames k.own_frames.items × AreBacked b.frames k.frames.items × AreBacked b.slots k.own_slots.items × AreBacked b.slots k.slots.items) (sym done.made.same) done.made.granted.backed

  frame_ref : (r : ℕ × CountedPage) → Contains frame_list r → HasRef now uses (stayed (frame_grants old c)) space frame_of (shown_ref r)
  frame_ref r has = All-contains (λ (r : ℕ × CountedPage). HasRef now uses (stayed (frame_grants old c)) space frame_of (shown_ref r)) frame_list r (each_ref now uses (stayed (frame_grants old c)) space frame_of frame_list own_frames_of) has

  slot_ref : (r : ℕ × CountedPage) → Contains slot_list r → HasRef now uses (stayed (slot_grants old c)) space slot_of (shown_ref r)
  slot_ref r has = All-contains (λ (r : ℕ × CountedPage). HasRef now uses (stayed (slot_grants old c)) space slot_of (shown_ref r)) slot_list r (each_ref now uses (stayed (slot_grants old c)) space slot_of slot_list own_slots_of) has

  abbrev HasOne : ℕ → Type 0
  HasOne p = ((r : ℕ × CountedPage) × Contains frame_list r × (r.0 ≡ p)) ⊎ ((r : ℕ × CountedPage) × Contains slot_list r × (r.0 ≡ p))

  -- a page that has a number afterwards has its reference
  listed : (p : ℕ) (y : PageCell) → cell_at now space p ≡ Some y → uses p ≡ true → has_no_number (Some y) ≡ false → HasOne p
  listed p (page.Mapped perm origin n bytes) there used numbered =
      inl (contained_map (λ (r : ℕ × CountedPage). r.0) frame_list p (ref_listed now uses (stayed (frame_grants old c)) space frame_of frame_list own_frames_of p (page.Mapped perm origin n bytes) n there refl used refl))
  listed p (page.Swapped perm origin n bytes) there used numbered =
      inr (contained_map (λ (r : ℕ × CountedPage). r.0) slot_list p (ref_listed now uses (stayed (slot_grants old c)) space slot_of slot_list own_slots_of p (page.Swapped perm origin n bytes) n there refl used refl))
  listed p (page.Anon perm) there used numbered = absurd (true≢false numbered)
  listed p (page.File perm file index) there used numbered = absurd (true≢false numbered)

  -- a frame that stays keeps its count
  is_changed : now ≡ changed old space (after_ops ops (space_at old space)) (changed_tables (is_given_up old c) (wanted_tables old thread c) old.tables)
  is_changed = done.made.state ∙ after_is old thread space at len ops

  same_count : (p n : ℕ) (x y : PageCell) → cell_at old space p ≡ Some x → frame_of x ≡ Some n → cell_at now space p ≡ Some y → frame_of y ≡ Some n → frame_owners now n ≡ frame_owners old n
  same_count p n x y had_it carried has carries =
      ap (λ (t : State). frame_owners t n) is_changed
      ∙ sole.kept_count frame_of n old space (after_ops ops (space_at old space)) (changed_tables (is_given_up old c) (wanted_tables old thread c) old.tables) (held_of _ _ done.made.ok.space) was.shared_frames
      (subst (λ (t : State). SharersAgree frame_of t) is_changed new.shared_frames) p p x y had_it carried (ap (λ (t : State). cell_at t space p) (sym is_changed) ∙ has) carries

  -- ---- the rows

  module _ {B E : Type 0} (w : PassView (List Cell) B E) (rows : List Row) (exact : HoldsExactly rows w.core.held w.rows) (of_space : AreOf space rows) (once : IsDistinct (row_numbers rows)) (staged : AreStaged a b (state_of b).tables thread (call.Txn space at len ops) kit w rows) where
    base0 : IsBase b st0 space uses w rows
    base0 = staged_base a b thread c kit space st0 was new done.made.same_levels (ap (λ (o : Option _). is_none o) done.made.early) (few_frames a books.0) between_used others (λ p r. absurd (none_removed p r))
        books.0.counts books.1.counts done.made.granted.frames_kept done.made.granted.slots_kept w rows exact of_space staged

    module _ (x : Row) (has : Contains rows x) where
      r0 : IsRowOf b st0 uses w.rows x
      r0 = base0.rows_of x has

      known_is : (staged x has).known ≡ r0.row
      known_is = one_known rows w exact once (staged x has).known r0.row (staged x has).held r0.held ((staged x has).same_row ∙ sym r0.same_row)

      table_b : IsTableOf now x.place
      table_b = go r0.table
        where
          go : IsTableOf st0 x.place → IsTableOf now x.place
          go (inl top) = inl top
          go (inr there) = inr (ap (λ (t : FinSet place_cmp). set.contains t x.place) (sym between_used.same_tables) ∙ there)

      module _ (i : ℕ) (inside : i < 512) (cell0 : Cell) (there0 : slice_get x.content i ≡ Some cell0) where
        abbrev L : ℕ
        L = levels (state_of a)

        abbrev q : Place
        q = below (levels (state_of a)) x.place i

        abbrev word : ℕ
        word = slice_index r0.row.words i

        abbrev mid : State
        mid = with_tables (state_of a) (state_of b).tables

        sc : IsStagedCell a (state_of b).tables thread c kit x.place i word cell0
        sc = subst (λ (h : KnownRow (List Cell)). IsStagedCell a (state_of b).tables thread c kit x.place i (slice_index h.words i) cell0) known_is ((staged x has).cells i cell0 inside (none_removed q) there0)

        e0 : IsEntryOf b st0 uses q word cell0
        e0 = subst (λ n. IsEntryOf b st0 uses (below n x.place i) word cell0) (between_used.same_levels ∙ done.made.same_levels) (r0.entries i cell0 inside there0)

        -- the entry of a page
        page_at : (p : ℕ) → q.level ≡ 0 → q.prefix ≡ p → IsPageAt x i p
        page_at p low is =
            let l = sym done.made.same_levels in
            let e = page_below now new p x.place i inside table_b (subst (λ n. (below n x.place i).level ≡ 0) l low) (subst (λ n. (below n x.place i).prefix ≡ p) l is) in
            ((e.0, e.1), e.2)

        module _ (p : ℕ) (here : IsPageAt x i p) where
          is_below : q ≡ record { space = x.place.space; level = x.place.level - 1; prefix = 512 * x.place.prefix + i }
          is_below = below_is L x.place i (omega (arith, here.0.0))

          at_low : q.level ≡ 0
          at_low = ap (λ (z : Place). z.level) is_below ∙ omega (arith, here.0.0)

          x_space : x.place.space ≡ space
          x_space = of_space x has (omega (arith, here.0.0))

          at_space : q.space ≡ space
          at_space = ap (λ (z : Place). z.space) is_below ∙ x_space

          number_is : 512 * x.place.prefix + i ≡ p
          number_is = let e = here.0.1 in let f = here.1 in omega (arith, e, f)

          at_prefix : q.prefix ≡ p
          at_prefix = ap (λ (z : Place). z.prefix) is_below ∙ number_is

          taken_there : uses p ≡ true → is_taken old thread c kit x.place i ≡ true
          taken_there used = and_from (is_none kit.early) (nat_eq x.place.level 1 && uses_page old thread c x.place.space (512 * x.place.prefix + i)) (ap (λ (o : Option _). is_none o) done.made.early)
              (and_from (nat_eq x.place.level 1) (uses_page old thread c x.place.space (512 * x.place.prefix + i)) (eq-eqb x.place.level 1 here.0.0)
              (subst (λ s. uses_page old thread c s (512 * x.place.prefix + i) ≡ true) (sym x_space) (subst (λ n. uses n ≡ true) (sym number_is) used)))

          -- what the state has there
          each_one : (s : State) (v : PageCell) → cell_at s space p ≡ Some v → EachPage s q (λ _. Some v)
          each_one s v there t n on = let o = only_page q t n at_low on in subst (λ k. cell_at s k n ≡ Some v) (sym at_space ∙ o.0) (subst (λ m. cell_at s space m ≡ Some v) (sym (o.1 ∙ at_prefix)) there)

          own_cell : (s : State) (v : Option PageCell) → cell_at s q.space q.prefix ≡ v → cell_at s space p ≡ v
          own_cell s v e = subst (λ k. cell_at s k p ≡ v) at_space (subst (λ n. cell_at s q.space n ≡ v) at_prefix e)

        -- ---- a cell that stays

        module _ (no_frame : (r : ℕ × CountedPage) → Contains frame_list r → IsPageAt x i r.0 → ⊥) (no_slot : (r : ℕ × CountedPage) → Contains slot_list r → IsPageAt x i r.0 → ⊥) where
          was_plain : is_table cell0 ≡ false → is_table sc.was ≡ false
          was_plain plain = drawn_table (is_taken old thread c kit x.place i) sc.was (ap is_table (sym sc.is) ∙ plain)

          not_kept : is_table cell0 ≡ false → (p : ℕ) → has_page q space p ≡ true → uses p ≡ true → has_no_number (cell_at old space p) ≡ false → has_no_number (cell_at now space p) ≡ true
          not_kept plain p on used numbered = go (cell_at now space p) refl
            where
              none_listed : q.level ≡ 0 → HasOne p → ⊥
              none_listed low (inl f) = no_frame f.0 f.1 (page_at f.0.0 low (sym (f.2 ∙ (only_page q space p low on).1)))
              none_listed low (inr f) = no_slot f.0 f.1 (page_at f.0.0 low (sym (f.2 ∙ (only_page q space p low on).1)))

              more : (k : ℕ) → (k ≡ 0 → ⊥) → 1 ≤ k
              more k ne = omega arith

              by : (y : PageCell) → cell_at now space p ≡ Some y → has_no_number (Some y) ≡ false → ⊥
              by y e f = dite (ℕ_discrete q.level 0)
                  (λ low. none_listed low (listed p y e used f))
                  (λ ne. true≢false (sym (plain_page mid q sc.was (more q.level ne) (was_plain plain) sc.shows space p on) ∙ numbered))

              on_number : (y : PageCell) (t : Bool) → has_no_number (Some y) ≡ t → cell_at now space p ≡ Some y → has_no_number (cell_at now space p) ≡ true
              on_number y true f e = ap has_no_number e ∙ f
              on_number y false f e = absurd (by y e f)

              go : (o : Option PageCell) → cell_at now space p ≡ o → has_no_number (cell_at now space p) ≡ true
              go None e = ap has_no_number e
              go (Some y) e = on_number y (has_no_number (Some y)) refl e

          same_page : is_table cell0 ≡ false → (p : ℕ) → has_page q space p ≡ true → cell_at st space p ≡ cell_at st0 space p
          same_page plain p on =
              between_gone.pages p (λ z r h. none_removed z r) ∙ (go (uses p) refl (has_no_number (cell_at old space p)) refl ∙ sym (between_used.pages p (λ z r h. none_removed z r)))
            where
              abbrev_o : (t u : Bool) → t ≡ u → cond t (drawn (cell_at old space p)) (cell_at old space p) ≡ cond u (drawn (cell_at old space p)) (cell_at old space p)
              abbrev_o t u e = ap (λ k. cond k (drawn (cell_at old space p)) (cell_at old space p)) e

              go : (t : Bool) → uses p ≡ t → (n : Bool) → has_no_number (cell_at old space p) ≡ n → cond (gone p) (drawn (cell_at old space p)) (cell_at old space p) ≡ cond (uses p) (drawn (cell_at old space p)) (cell_at old space p)
              go false e n f = abbrev_o (gone p) (uses p) (ap (λ t. t && (not (has_no_number (cell_at old space p)) && has_no_number (cell_at now space p))) e ∙ sym e)
              go true e true f = same (gone p) (uses p)
                where
                  same : (t u : Bool) → cond t (drawn (cell_at old space p)) (cell_at old space p) ≡ cond u (drawn (cell_at old space p)) (cell_at old space p)
                  same true true = refl
                  same false false = refl
                  same true false = drawn_plain (cell_at old space p) f
                  same false true = sym (drawn_plain (cell_at old space p) f)
              go true e false f = abbrev_o (gone p) (uses p)
                  (and_from (uses p) (not (has_no_number (cell_at old space p)) && has_no_number (cell_at now space p)) e (and_from (not (has_no_number (cell_at old space p))) (has_no_number (cell_at now space p)) (ap not f) (not_kept plain p on e f)) ∙ sym e)

          same_pages : is_table cell0 ≡ false → (s p : ℕ) → has_page q s p ≡ true → cell_at st s p ≡ cell_at st0 s p
          same_pages plain s p on = dite (ℕ_discrete s space)
              (λ e. subst (λ t. cell_at st t p ≡ cell_at st0 t p) (sym e) (same_page plain p (subst (λ t. has_page q t p ≡ true) e on)))
              (λ ne. between_gone.others s p ne ∙ sym (between_used.others s p ne))

          -- its word
          spelled : Spells now cell0 word ⊎ IsOld uses q word cell0 → Spells now cell0 word ⊎ IsOld gone q word cell0
          spelled (inl s) = inl s
          spelled (inr o) = go (is_taken old thread c kit x.place i) sc.was sc.shows sc.spells sc.is
            where
              here : IsPageAt x i q.prefix
              here = page_at q.prefix o.low refl

              still : (v : PageCell) → cell_at old q.space q.prefix ≡ Some v → has_no_number (Some v) ≡ false → IsOld gone q word cell0
              still v e numbered =
                  let n = ap has_no_number (own_cell q.prefix here old (Some v) e) ∙ numbered in
                  record {
                    low = o.low;
                    old = and_from (uses q.prefix) (not (has_no_number (cell_at old space q.prefix)) && has_no_number (cell_at now space q.prefix)) o.old
                        (and_from (not (has_no_number (cell_at old space q.prefix))) (has_no_number (cell_at now space q.prefix)) (ap not n)
                        (not_kept o.no_table q.prefix (subst (λ s. has_page q s q.prefix ≡ true) (at_space q.prefix here) (own_page q o.low)) o.old n));
                    no_link = o.no_link;
                    no_table = o.no_table;
                  }

              none : (k : Cell) (t : Bool) → cond t k k ≡ k
              none k true = refl
              none k false = refl

              go : (t : Bool) (k : Cell) → Shows mid q k → Spells old k word → cell0 ≡ cond t (drawn_cell k) k → Spells now cell0 word ⊎ IsOld gone q word cell0
              go t Invalid shows spells is = inl (subst (λ z. Spells now z word) (sym (is ∙ none Invalid t)) spells)
              go t Table shows spells is = absurd (true≢false (sym (ap is_table (is ∙ none Table t)) ∙ o.no_table))
              go t (Anon perm) shows spells is = inl (subst (λ z. Spells now z word) (sym (is ∙ none (Anon perm) t)) spells)
              go t (File perm file index) shows spells is = inl (subst (λ z. Spells now z word) (sym (is ∙ none (File perm file index) t)) spells)
              go t (Mapped perm origin f) shows spells is = inr (still (page.Mapped perm origin f.number f.body.bytes) (shows.2 q.space q.prefix (own_page q o.low)) refl)
              go t (Swapped perm origin f) shows spells is = inr (still (page.Swapped perm origin f.number f.body.bytes) (shows.2 q.space q.prefix (own_page q o.low)) refl)

          plain_entry : IsEntryOf b st gone q word cell0
          plain_entry = record {
            shows = shows_same st0 st q (between_gone.same_tables ∙ sym between_used.same_tables) cell0 same_pages e0.shows;
            spells = spelled e0.spells;
            kept = e0.kept;
            small = e0.small;
            low = e0.low;
          }

        -- ---- a cell that has its reference again

        none_there : q.level ≡ 0 → set.contains now.tables q ≡ true → ⊥
        none_there low there = let d = level_of (levels now) q (new.places q there) in omega (arith, d.0, low)

        no_table_st : set.contains now.tables q ≡ false → IsNoTable st q
        no_table_st none = ap (λ (t : FinSet place_cmp). set.contains t q) between_gone.same_tables ∙ none

        -- a page that has a number afterwards is as before
        st_there : (p : ℕ) (y : PageCell) → cell_at now space p ≡ Some y → has_no_number (Some y) ≡ false → cell_at st space p ≡ cell_at old space p
        st_there p y there numbered = between_gone.pages p (λ z r h. none_removed z r) ∙ ap (λ t. cond t (drawn (cell_at old space p)) (cell_at old space p)) (off (uses p) (not (has_no_number (cell_at old space p))) (has_no_number (cell_at now space p)) (ap has_no_number there ∙ numbered))
          where
            off : (t u n : Bool) → n ≡ false → (t && (u && n)) ≡ false
            off true true n e = e
            off true false n e = refl
            off false u n e = refl

        leaf_on : (perm : Perm) (n m : ℕ) → n ≡ m → frame_owners now n ≡ frame_owners old n → IsLeafWord old perm n word → IsLeafWord now perm m word
        leaf_on perm n m same count leaf = subst (λ k. IsLeafWord now perm k word) same (record {
          unread = leaf.unread;
          read = λ r. let g = leaf.read r in (g.0, g.1, λ write. let two = g.2 write in (two.0, count ∙ two.1));
        })

        module _ (r : ℕ × CountedPage) (in_list : Contains frame_list r) (here : IsPageAt x i r.0) where
          frame_entry_ref : HasRef now uses (stayed (frame_grants old c)) space frame_of (shown_ref r)
          frame_entry_ref = frame_ref r in_list

          frame_entry_numbered : has_no_number (Some frame_entry_ref.cell) ≡ false
          frame_entry_numbered = framed_numbered frame_entry_ref.cell r.1.number frame_entry_ref.carries

          frame_entry_had : HadRef (cell_at old space r.0) frame_entry_ref.cell
          frame_entry_had = had r.0 frame_entry_ref.cell frame_entry_ref.there frame_entry_numbered

          -- the page had the number and the bytes before
          frame_entry_is : (v : PageCell) → cell_at old q.space q.prefix ≡ Some v → (frame_of v ≡ Some r.1.number) × (contents [] v ≡ r.1.body.bytes)
          frame_entry_is v e =
              let same : frame_entry_had.0 ≡ v = (let both : Some frame_entry_had.0 ≡ Some v = sym frame_entry_had.1 ∙ own_cell r.0 here old (Some v) e in cc) in
              (ap frame_of (sym same) ∙ (sym frame_entry_had.2.frame ∙ frame_entry_ref.carries), ap (contents []) (sym same) ∙ (sym frame_entry_had.2.bytes ∙ frame_entry_ref.bytes))

          frame_entry_none : cell_at old q.space q.prefix ≡ None → ⊥
          frame_entry_none e = let both : Some frame_entry_had.0 ≡ None = sym frame_entry_had.1 ∙ own_cell r.0 here old None e in absurd (cc)

          frame_entry_as : (perm : Perm) (origin : Backing) (f : CountedPage) → cell0 ≡ cond (is_taken old thread c kit x.place i) (drawn_cell (Mapped perm origin f)) (Mapped perm origin f) → filled_cell cell0 (reference.Frame r.1) ≡ Mapped perm origin r.1
          frame_entry_as perm origin f is = ap (λ (z : Cell). filled_cell z (reference.Frame r.1)) (is ∙ ap (λ t. cond t (drawn_cell (Mapped perm origin f)) (Mapped perm origin f)) (taken_there r.0 here frame_entry_ref.used)) ∙ filled_frame origin perm r.1

          frame_entry_made : (perm : Perm) (origin : Backing) (f : CountedPage) → Shows mid q (Mapped perm origin f) → Spells old (Mapped perm origin f) word → IsEntryOf b st gone q word (Mapped perm origin r.1)
          frame_entry_made perm origin f shows spells =
              let v = page.Mapped perm origin f.number f.body.bytes in
              let at_old = shows.2 q.space q.prefix (own_page q (at_low r.0 here)) in
              let told = frame_entry_is v at_old in
              let number : f.number ≡ r.1.number = (let both : Some f.number ≡ Some r.1.number = told.0 in cc) in
              let at_p = own_cell r.0 here old (Some v) at_old in
              let v_is : v ≡ page.Mapped perm origin r.1.number r.1.body.bytes = (λ j. page.Mapped perm origin (number j) (told.1 j)) in
              record {
                shows = (no_table_st shows.0, at_low r.0 here, each_one r.0 here st (page.Mapped perm origin r.1.number r.1.body.bytes) (st_there r.0 frame_entry_ref.cell frame_entry_ref.there frame_entry_numbered ∙ (at_p ∙ ap Some v_is)));
                spells = inl (leaf_on perm f.number r.1.number number (same_count r.0 f.number v frame_entry_ref.cell at_p refl frame_entry_ref.there (frame_entry_ref.carries ∙ ap Some (sym number))) spells);
                kept = All-contains (λ (z : ℕ × CountedPage). HasSpareFor b.frames z.1) frame_list r backed.0 in_list;
                small = (let less = new.frames space r.0 r.1.number frame_entry_ref.cell frame_entry_ref.there frame_entry_ref.carries in let few = few_frames b books.1 in omega (arith, less, few));
                low = (let less = was.indexes space r.0 v at_p in omega arith);
              }

          frame_entry : IsEntryOf b st gone q word (filled_cell cell0 (reference.Frame r.1))
          frame_entry = go sc.was sc.shows sc.spells sc.is
            where
              low : q.level ≡ 0
              low = at_low r.0 here

              go : (k : Cell) → Shows mid q k → Spells old k word → cell0 ≡ cond (is_taken old thread c kit x.place i) (drawn_cell k) k → IsEntryOf b st gone q word (filled_cell cell0 (reference.Frame r.1))
              go Invalid shows spells is = absurd (frame_entry_none (shows.1 q.space q.prefix (own_page q low)))
              go Table shows spells is = absurd (none_there low shows)
              go (Anon perm) shows spells is = absurd (let e = (frame_entry_is (page.Anon perm) (shows.1 q.space q.prefix (own_page q low))).0 in cc)
              go (File perm file index) shows spells is = absurd (let e = (frame_entry_is (page.File perm file (index + (q.prefix - span_first q))) (shows.1 q.space q.prefix (own_page q low))).0 in cc)
              go (Swapped perm origin f) shows spells is = absurd (let e = (frame_entry_is (page.Swapped perm origin f.number f.body.bytes) (shows.2 q.space q.prefix (own_page q low))).0 in cc)
              go (Mapped perm origin f) shows spells is = subst (IsEntryOf b st gone q word) (sym (frame_entry_as perm origin f is)) (frame_entry_made perm origin f shows spells)

        module _ (r : ℕ × CountedPage) (in_list : Contains slot_list r) (here : IsPageAt x i r.0) where
          slot_entry_ref : HasRef now uses (stayed (slot_grants old c)) space slot_of (shown_ref r)
          slot_entry_ref = slot_ref r in_list

          slot_entry_numbered : has_no_number (Some slot_entry_ref.cell) ≡ false
          slot_entry_numbered = slotted_numbered slot_entry_ref.cell r.1.number slot_entry_ref.carries

          slot_entry_had : HadRef (cell_at old space r.0) slot_entry_ref.cell
          slot_entry_had = had r.0 slot_entry_ref.cell slot_entry_ref.there slot_entry_numbered

          -- the page had the number and the bytes before
          slot_entry_is : (v : PageCell) → cell_at old q.space q.prefix ≡ Some v → (slot_of v ≡ Some r.1.number) × (contents [] v ≡ r.1.body.bytes)
          slot_entry_is v e =
              let same : slot_entry_had.0 ≡ v = (let both : Some slot_entry_had.0 ≡ Some v = sym slot_entry_had.1 ∙ own_cell r.0 here old (Some v) e in cc) in
              (ap slot_of (sym same) ∙ (sym slot_entry_had.2.slot ∙ slot_entry_ref.carries), ap (contents []) (sym same) ∙ (sym slot_entry_had.2.bytes ∙ slot_entry_ref.bytes))

          slot_entry_none : cell_at old q.space q.prefix ≡ None → ⊥
          slot_entry_none e = let both : Some slot_entry_had.0 ≡ None = sym slot_entry_had.1 ∙ own_cell r.0 here old None e in absurd (cc)

          slot_entry_as : (perm : Perm) (origin : Backing) (f : CountedPage) → cell0 ≡ cond (is_taken old thread c kit x.place i) (drawn_cell (Swapped perm origin f)) (Swapped perm origin f) → filled_cell cell0 (reference.Slot r.1) ≡ Swapped perm origin r.1
          slot_entry_as perm origin f is = ap (λ (z : Cell). filled_cell z (reference.Slot r.1)) (is ∙ ap (λ t. cond t (drawn_cell (Swapped perm origin f)) (Swapped perm origin f)) (taken_there r.0 here slot_entry_ref.used)) ∙ filled_slot origin perm r.1

          slot_entry_made : (perm : Perm) (origin : Backing) (f : CountedPage) → Shows mid q (Swapped perm origin f) → Spells old (Swapped perm origin f) word → IsEntryOf b st gone q word (Swapped perm origin r.1)
          slot_entry_made perm origin f shows spells =
              let v = page.Swapped perm origin f.number f.body.bytes in
              let at_old = shows.2 q.space q.prefix (own_page q (at_low r.0 here)) in
              let told = slot_entry_is v at_old in
              let number : f.number ≡ r.1.number = (let both : Some f.number ≡ Some r.1.number = told.0 in cc) in
              let at_p = own_cell r.0 here old (Some v) at_old in
              let v_is : v ≡ page.Swapped perm origin r.1.number r.1.body.bytes = (λ j. page.Swapped perm origin (number j) (told.1 j)) in
              record {
                shows = (no_table_st shows.0, at_low r.0 here, each_one r.0 here st (page.Swapped perm origin r.1.number r.1.body.bytes) (st_there r.0 slot_entry_ref.cell slot_entry_ref.there slot_entry_numbered ∙ (at_p ∙ ap Some v_is)));
                spells = inl (spells);
                kept = All-contains (λ (z : ℕ × CountedPage). HasSpareFor b.slots z.1) slot_list r backed.2 in_list;
                small = tt;
                low = (let less = was.indexes space r.0 v at_p in omega arith);
              }

          slot_entry : IsEntryOf b st gone q word (filled_cell cell0 (reference.Slot r.1))
          slot_entry = go sc.was sc.shows sc.spells sc.is
            where
              low : q.level ≡ 0
              low = at_low r.0 here

              go : (k : Cell) → Shows mid q k → Spells old k word → cell0 ≡ cond (is_taken old thread c kit x.place i) (drawn_cell k) k → IsEntryOf b st gone q word (filled_cell cell0 (reference.Slot r.1))
              go Invalid shows spells is = absurd (slot_entry_none (shows.1 q.space q.prefix (own_page q low)))
              go Table shows spells is = absurd (none_there low shows)
              go (Anon perm) shows spells is = absurd (let e = (slot_entry_is (page.Anon perm) (shows.1 q.space q.prefix (own_page q low))).0 in cc)
              go (File perm file index) shows spells is = absurd (let e = (slot_entry_is (page.File perm file (index + (q.prefix - span_first q))) (shows.1 q.space q.prefix (own_page q low))).0 in cc)
              go (Mapped perm origin f) shows spells is = absurd (let e = (slot_entry_is (page.Mapped perm origin f.number f.body.bytes) (shows.2 q.space q.prefix (own_page q low))).0 in cc)
              go (Swapped perm origin f) shows spells is = subst (IsEntryOf b st gone q word) (sym (slot_entry_as perm origin f is)) (slot_entry_made perm origin f shows spells)

    -- ---- all rows

    module _ (rows1 rows2 : List Row) (frames_back : ArePutBack (λ r. reference.Frame r) frame_list rows rows1) (slots_back : ArePutBack (λ r. reference.Slot r) slot_list rows1 rows2) where
      entry : (x y1 : Row) (has : Contains rows x) → x.place ≡ y1.place → (i : ℕ) (inside : i < 512) (cell : Cell) (k2 : IsBackCell (λ r. reference.Slot r) slot_list y1 i cell) (k1 : IsBackCell (λ r. reference.Frame r) frame_list x i k2.was)
          → IsEntryOf b st gone (below (levels (state_of a)) x.place i) (slice_index (r0 x has).row.words i) cell
      entry x y1 has places i inside cell k2 k1 = go k2.is k1.is
        where
          at_x : (p : ℕ) → IsPageAt y1 i p → IsPageAt x i p
          at_x p at = (subst (λ (z : Place). (z.level ≡ 1) × (z.prefix ≡ p / 512)) (sym places) at.0, at.1)

          at_y : (p : ℕ) → IsPageAt x i p → IsPageAt y1 i p
          at_y p at = (subst (λ (z : Place). (z.level ≡ 1) × (z.prefix ≡ p / 512)) places at.0, at.1)

          go : ((cell ≡ k2.was) × ((r : ℕ × CountedPage) → Contains slot_list r → IsPageAt y1 i r.0 → ⊥)) ⊎ IsRefAt (λ r. reference.Slot r) slot_list y1 i k2.was cell
              → ((k2.was ≡ k1.was) × ((r : ℕ × CountedPage) → Contains frame_list r → IsPageAt x i r.0 → ⊥)) ⊎ IsRefAt (λ r. reference.Frame r) frame_list x i k1.was k2.was
              → IsEntryOf b st gone (below (levels (state_of a)) x.place i) (slice_index (r0 x has).row.words i) cell
          go (inl s) (inl f) = subst (IsEntryOf b st gone (below (levels (state_of a)) x.place i) (slice_index (r0 x has).row.words i)) (sym (s.0 ∙ f.0)) (plain_entry x has i inside k1.was k1.there f.1 (λ r l at. s.1 r l (at_y r.0 at)))
          go (inl s) (inr f) = subst (IsEntryOf b st gone (below (levels (state_of a)) x.place i) (slice_index (r0 x has).row.words i)) (sym (s.0 ∙ f.3)) (frame_entry x has i inside k1.was k1.there f.0 f.1 f.2)
          go (inr s) (inl f) = subst (IsEntryOf b st gone (below (levels (state_of a)) x.place i) (slice_index (r0 x has).row.words i)) (sym (s.3 ∙ ap (λ (z : Cell). filled_cell z (reference.Slot s.0.1)) f.0)) (slot_entry x has i inside k1.was k1.there s.0 s.1 (at_x s.0.0 s.2))
          go (inr s) (inr f) = subst (IsEntryOf b st gone (below (levels (state_of a)) x.place i) (slice_index (r0 x has).row.words i))
              (sym (s.3 ∙ (ap (λ (z : Cell). filled_cell z (reference.Slot s.0.1)) f.3 ∙ filled_twice k1.was (reference.Frame f.0.1) (reference.Slot s.0.1)))) (frame_entry x has i inside k1.was k1.there f.0 f.1 f.2)

      row_of : (y : Row) → Contains rows2 y → IsRowOf b st gone w.rows y
      row_of y in_two =
          let b2 = slots_back y in_two in
          let b1 = frames_back b2.was b2.held in
          let x = b1.was in
          let r = r0 x b1.held in
          let place : x.place ≡ y.place = b1.same_place ∙ b2.same_place in
          record {
            row = r.row;
            held = r.held;
            same_row = r.same_row ∙ (b1.same_row ∙ b2.same_row);
            same_place = r.same_place ∙ place;
            table = table_st y (subst (IsTableOf now) place (table_b x b1.held));
            whole = b2.whole ∙ (b1.whole ∙ r.whole);
            entries = λ i cell inside there.
                let k2 = b2.cells i cell there in
                let k1 = b1.cells i k2.was k2.there in
                subst (λ n. IsEntryOf b st gone (below n y.place i) (slice_index r.row.words i) cell) (sym (between_gone.same_levels ∙ done.made.same_levels))
                (subst (λ (z : Place). IsEntryOf b st gone (below (levels (state_of a)) z i) (slice_index r.row.words i) cell) place (entry x b2.was b1.held b1.same_place i inside cell k2 k1));
          }
        where
          table_st : (y : Row) → IsTableOf now y.place → IsTableOf st y.place
          table_st y (inl top) = inl top
          table_st y (inr there) = inr (ap (λ (t : FinSet place_cmp). set.contains t y.place) between_gone.same_tables ∙ there)

      pub txn_base : map row_place rows2 ≡ map row_place rows → IsBase b st space gone w rows2
      txn_base places = record {
        exact = record { held = λ r. ap (times r) numbers ∙ exact.held r; shown = exact.shown };
        of_space = of_space_still space rows rows2 places of_space;
        linked = λ y has.
            let o = contained_map row_place rows (row_place y) (subst (λ (l : List (ℕ × Place)). Contains l (row_place y)) places (in_map row_place rows2 y has)) in
            subst (NotInHand w) (ap (λ (p : ℕ × Place). p.0) o.2) (staged o.0 o.1).linked;
        rows_of = row_of;
      }
        where
          numbers : row_numbers rows2 ≡ row_numbers rows
          numbers = sym (same_parts row_place (λ (p : ℕ × Place). p.0) row_number (λ x. refl) rows2) ∙ (ap (map (λ (p : ℕ × Place). p.0)) places ∙ same_parts row_place (λ (p : ℕ × Place). p.0) row_number (λ x. refl) rows)
