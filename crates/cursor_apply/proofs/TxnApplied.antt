-- What a transaction leaves.
--     may_make      its changes may be made, once its rows are linked and its references are back
--     txn_applied      what is left then
use Rattle.std.specs.Prelude.{◌≡◌, ℕ, ◌<◌, ◌&&◌, not, Bool, true, false, cond, List, [], map, slice_index}
use Rattle.std.specs.FinSet as set
use Rattle.std.specs.FinSet.{FinSet}
use Rattle.std.proofs.Common.{sym, refl, ◌∙◌, ap, subst, inl, inr}
use Rattle.std.proofs.lemmas.Bool.{true≢false, false≢true, and_parts}
use mathlib.Core.Logic.{dite}
use native.Mathlib.Decide.{ℕ_discrete}
use Rattle.corten_base.specs.declared.calls.Call.{Call}
use Rattle.corten_base.specs.declared.calls.Call.TheVariants as call
use Rattle.page_map.specs.Effect.{space_of}
use Rattle.page_map.specs.State.{State, IsConsistent, levels, cell_at}
use Rattle.page_map.proofs.Alike.{has_no_number}
use Rattle.row_cells.specs.declared.Cell.{Cell}
use Rattle.row_table.specs.declared.view.PassView.{PassView}
use Rattle.table_place.specs.declared.Place.{Place}
use Rattle.table_place.specs.Place.{place_cmp}
use Rattle.tree_lock.specs.Held.{row_numbers}
use Rattle.walk_core.specs.Lists.{IsDistinct}
use Rattle.machine_plan.specs.declared.kit.Change.{Change}
use Rattle.machine_plan.specs.declared.kit.Kit.{Kit}
use Rattle.machine_plan.specs.Agrees.{below, IsTableOf}
use Rattle.machine_plan.specs.Books.{BookData, state_of}
use Rattle.machine_plan.specs.HeldRows.{Row, AreOf}
use Rattle.machine_plan.specs.Kits.{HasRoom, IsIdle, IsUngranted}
use Rattle.machine_plan.specs.Uses.{changes_of, uses_page}
use Rattle.machine_plan.proofs.Whole.{book_is_consistent}
use Rattle.cursor_apply.specs.declared.putting.Reference.TheVariants as reference
use Rattle.cursor_apply.specs.Applying.{is_store, IsApplicable, Applied}
use Rattle.cursor_apply.specs.Between.{IsBetween}
use Rattle.cursor_apply.specs.Changed.{all_clean, AreChanged, IsBase, IsEntryOf, IsRowOf, MakesAll, MayMakeAll, Steps}
use Rattle.cursor_apply.specs.Linking.{IsLinkable}
use Rattle.cursor_apply.specs.Putting.{row_place}
use Rattle.cursor_apply.specs.Returning.{PutsBack}
use Rattle.cursor_apply.specs.Staging.{AreStaged, Staged}
use Rattle.cursor_apply.specs.Transacting.{IsTxnIn}
use Rattle.cursor_apply.proofs.Agreed.{agreed}
use Rattle.cursor_apply.proofs.Backs.{of_space_still}
use Rattle.cursor_apply.proofs.Between.{drawn, drawn_plain}
use Rattle.cursor_apply.proofs.Kept.{rows_more, rows_of_words, rows_emptied}
use Rattle.cursor_apply.proofs.Marks.{shows_same}
use Rattle.cursor_apply.proofs.TxnBase.{gone, st, all_gone, between_gone, txn_base}
use Rattle.cursor_apply.proofs.TxnCuts.{IsDone, as_txn, txn_space}
use Rattle.cursor_apply.proofs.TxnSteps.{txn_led}

-- rows of a state with the same pages and tables
module _ (b : BookData) (end now : State) (is_new : ℕ → Bool) (tables : end.tables ≡ now.tables) (depth : levels end ≡ levels now) (cells : (s p : ℕ) → cell_at now s p ≡ cell_at end s p) where
  same_entry : (q : Place) (word : ℕ) (cell : Cell) → IsEntryOf b end is_new q word cell → IsEntryOf b now is_new q word cell
  same_entry q word cell e = record {
    shows = shows_same end now q (sym tables) cell (λ plain s p has. cells s p) e.shows;
    spells = e.spells;
    kept = e.kept;
    small = e.small;
    low = e.low;
  }

  pub same_state_row : {B E : Type 0} (w : PassView (List Cell) B E) (x : Row) → IsRowOf b end is_new w.rows x → IsRowOf b now is_new w.rows x
  same_state_row w x r = record {
    row = r.row;
    held = r.held;
    same_row = r.same_row;
    same_place = r.same_place;
    table = go r.table;
    whole = r.whole;
    entries = λ i cell inside there. subst (λ n. IsEntryOf b now is_new (below n x.place i) (slice_index r.row.words i) cell) depth (same_entry (below (levels end) x.place i) (slice_index r.row.words i) cell (r.entries i cell inside there));
  }
    where
      go : IsTableOf end x.place → IsTableOf now x.place
      go (inl top) = inl top
      go (inr there) = inr (ap (λ (t : FinSet place_cmp). set.contains t x.place) (sym tables) ∙ there)

module _ {B E : Type 0} (a b : BookData) (thread : ℕ) (c : Call) (v : PassView (List Cell) B E) (rows : List Row) (kit : Kit) (space : ℕ) (ready : IsApplicable a b thread c v rows kit) (kit_done : kit.done ≡ true) (further : IsLinkable a b thread c v rows kit) (txn : IsTxnIn space c)
    (w : PassView (List Cell) B E) (rows' : List Row) (staged : Staged a b thread c kit v w rows rows') (once : IsDistinct (row_numbers rows')) (rows1 rows2 : List Row)
    (frames_back : PutsBack (λ r. reference.Frame r) kit.own_frames.items rows' rows1) (slots_back : PutsBack (λ r. reference.Slot r) kit.own_slots.items rows1 rows2) (places1 : map row_place rows1 ≡ map row_place rows') (places2 : map row_place rows2 ≡ map row_place rows1) where
  abbrev now : State
  now = state_of b

  done : IsDone a b thread (call.Txn space txn.at txn.len txn.ops) kit
  done = as_txn a b thread c v rows kit space ready kit_done further txn

  was : IsConsistent (state_of a)
  was = book_is_consistent a ready.books.0

  of_space : AreOf space rows'
  of_space y has low = elim (staged.only y has) [
    | inl l ↦ ap (λ (p : Place). p.space) (sym l.2) ∙ ready.one_space space (ap space_of txn.is) l.0 l.1 (subst (λ (p : Place). p.level < 6) (sym l.2) low)
    | inr n ↦ txn_space a b thread c v rows kit space ready kit_done further txn y.place n.0 n.1
  ]

  abbrev left : ℕ → Bool
  left = gone a b thread space txn.at txn.len txn.ops kit was ready.consistent ready.books done

  abbrev mid : State
  mid = st a b thread space txn.at txn.len txn.ops kit was ready.consistent ready.books done

  base : IsBase b mid space left w rows2
  base = txn_base a b thread space txn.at txn.len txn.ops kit was ready.consistent ready.books done w rows' staged.exact of_space once
      (subst (λ (x : Call). AreStaged a b (state_of b).tables thread x kit w rows') txn.is staged.staged) rows1 rows2
      (frames_back space of_space) (slots_back space (of_space_still space rows' rows1 places1 of_space)) (places2 ∙ places1)

  abbrev Led : State → Type 0
  Led s = (end : State) × IsBetween s s end space left × Steps (changes_of (state_of a) thread (call.Txn space txn.at txn.len txn.ops)) space mid end

  led : Led now
  led = subst (λ (s : State). Led s) (sym done.made.state)
      (txn_led (state_of a) thread space txn.at txn.len txn.ops done.made.limbo was done.made.ok (subst IsConsistent done.made.state ready.consistent) mid left
      (subst (λ (s : State). IsBetween (state_of a) s mid space left) done.made.state (between_gone a b thread space txn.at txn.len txn.ops kit was ready.consistent ready.books done)))

  steps : Steps kit.changes.items space mid led.0
  steps = subst (λ (l : List Change). Steps l space mid led.0) (sym done.changes) led.2

  pub may_make : MayMakeAll kit.changes.items w rows2
  may_make = (b, mid, led.0, space, left, base, steps)

  -- the last state has the pages of the book's
  at_end : (p : ℕ) → cell_at now space p ≡ cell_at led.0 space p
  at_end p = sym (led.1.pages p (λ z r has. true≢false (sym r.0 ∙ r.1)) ∙ go (left p) refl)
    where
      go : (t : Bool) → left p ≡ t → cond (left p) (drawn (cell_at now space p)) (cell_at now space p) ≡ cell_at now space p
      go false e = ap (λ t. cond t (drawn (cell_at now space p)) (cell_at now space p)) e
      go true e =
          let both = and_parts (uses_page (state_of a) thread (call.Txn space txn.at txn.len txn.ops) space p) (not (has_no_number (cell_at (state_of a) space p)) && has_no_number (cell_at now space p)) e in
          ap (λ t. cond t (drawn (cell_at now space p)) (cell_at now space p)) e ∙ drawn_plain (cell_at now space p) (and_parts (not (has_no_number (cell_at (state_of a) space p))) (has_no_number (cell_at now space p)) both.1).1

  same_cells : (s p : ℕ) → cell_at now s p ≡ cell_at led.0 s p
  same_cells s p = dite (ℕ_discrete s space) (λ e. subst (λ t. cell_at now t p ≡ cell_at led.0 t p) (sym e) (at_end p)) (λ ne. sym (led.1.others s p ne))

  none_old : (p : ℕ) → all_clean kit.changes.items left p ≡ false
  unfolding changes_of
  none_old p = ap (λ (l : List Change). all_clean l left p) done.changes ∙ all_gone a b thread space txn.at txn.len txn.ops kit was ready.consistent ready.books done p

  pub txn_applied : (u : PassView (List Cell) B E) (rows3 : List Row) (kit' : Kit) → MakesAll kit.changes.items w rows2 u rows3 → HasRoom kit' → IsIdle kit' → IsUngranted kit' → (kit'.second_frames.items ≡ []) × (kit'.second_slots.items ≡ [])
      → Applied b thread c v u rows3 kit kit'
  txn_applied u rows3 kit' makes room idle ungranted seconds =
      let changed = makes b mid led.0 space left base steps in
      let changed_now : AreChanged b now (all_clean kit.changes.items left) w rows2 u rows3 = record {
        rewrites = changed.rewrites;
        places = changed.places;
        rows_of = λ x has. same_state_row b led.0 now (all_clean kit.changes.items left) led.1.same_tables led.1.same_levels same_cells u x (changed.rows_of x has);
      } in
      record {
        view = rows_more v w u (rows_emptied v w staged.view) (rows_of_words w u changed.rewrites.view);
        held = agreed b (all_clean kit.changes.items left) none_old mid space left w rows2 u rows3 base changed_now;
        given = changed.rewrites.given staged.given;
        hand = (
          ap (λ (z : PassView (List Cell) B E). z.hand) changed.rewrites.view ∙ ap (λ (z : PassView (List Cell) B E). z.hand) staged.view,
          ap (λ (z : PassView (List Cell) B E). z.core.granted) changed.rewrites.view ∙ ap (λ (z : PassView (List Cell) B E). z.core.granted) staged.view,
        );
        stored = λ finished h index cell has level inside stores. absurd (false≢true (sym (ap is_store txn.is) ∙ stores));
        room = room;
        idle = idle;
        ungranted = ungranted;
        seconds = seconds;
      }
