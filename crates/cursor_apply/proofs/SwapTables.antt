-- A move to or from swap wants no table.
--     got_no_table      so it was granted none
use Rattle.std.specs.Prelude.{◌≡◌, ℕ, ◌&&◌, Bool, true, false, not, List, take}
use Rattle.std.specs.List.{range_with_len, zip}
use Rattle.std.specs.FinSet as set
use Rattle.std.specs.FinSet.{same_set, empty_of_len, contains-empty, contains-difference, contains-from_list}
use Rattle.std.proofs.Common.{sym, refl, ◌∙◌, ap, inl, inr}
use Rattle.std.proofs.lemmas.Bool.{true≢false, false_from_ne_true}
use Rattle.corten_base.specs.declared.calls.Call.{Call}
use Rattle.corten_base.specs.declared.calls.Call.TheVariants as call
use Rattle.page_map.specs.Effect.{wanted_tables, is_given_up}
use Rattle.page_map.specs.State.{State, IsConsistent}
use Rattle.page_map.specs.Tables.{Tables, need, changed_tables}
use Rattle.page_map.proofs.Growth as growth
use Rattle.page_map.proofs.NeedLaws.{out_none, in_none}
use Rattle.page_map.proofs.Places.{place_total, place_exact}
use Rattle.page_map.proofs.Wanted.{is_wanted}
use Rattle.row_cells.specs.declared.Cell.{Cell}
use Rattle.row_table.specs.declared.view.PassView.{PassView}
use Rattle.table_place.specs.declared.Place.{Place}
use Rattle.table_place.specs.Place.{place_cmp}
use Rattle.machine_plan.specs.declared.kit.Kit.{Kit}
use Rattle.machine_plan.specs.Books.{BookData, state_of, free_list}
use Rattle.machine_plan.specs.HeldRows.{Row}
use Rattle.machine_plan.proofs.Whole.{book_is_consistent}
use Rattle.cursor_apply.specs.Applying.{is_store, IsApplicable}
use Rattle.cursor_apply.specs.Moving.{IsMove, IsSwap, GotNoTable, AreLinked}
use Rattle.cursor_apply.proofs.Begun.{move_space, gives_none, was_committed, linked_here}
use Rattle.cursor_apply.proofs.Made.{IsMade, is_made, as_changed}

-- ---- tables that are not wanted

lacks_none : (wanted : List Place) (tables : Tables) → need wanted tables ≡ 0 → (q : Place) → is_wanted wanted q ≡ true → set.contains tables q ≡ false → ⊥
lacks_none wanted tables none q want lone =
    let nothing = ap (λ (s : Tables). set.contains s q) (empty_of_len (set.difference (set.from_list {R = place_cmp} wanted) tables) none) ∙ contains-empty place_cmp q in
    let there = contains-difference place_total (set.from_list {R = place_cmp} wanted) tables q ∙ (λ i. (contains-from_list place_total wanted q ∙ want) i && not (lone i)) in
    true≢false (sym there ∙ nothing)

same_tables : (is_given_up : Place → Bool) → ((p : Place) → is_given_up p ≡ false) → (wanted : List Place) (tables : Tables) → need wanted tables ≡ 0 → changed_tables is_given_up wanted tables ≡ tables
same_tables is_given_up none wanted tables lacks = same_set place_total place_exact (changed_tables is_given_up wanted tables) tables (λ q. at q (set.contains tables q) refl)
  where
    at : (q : Place) (t : Bool) → set.contains tables q ≡ t → set.contains (changed_tables is_given_up wanted tables) q ≡ set.contains tables q
    at q true there = growth.stays is_given_up wanted tables q there (none q) ∙ sym there
    at q false lone = false_from_ne_true (set.contains (changed_tables is_given_up wanted tables) q) (λ now. elim (growth.whence is_given_up wanted tables q now) [
      | inl old ↦ true≢false (sym old.0 ∙ lone)
      | inr new ↦ lacks_none wanted tables lacks q new lone
    ]) ∙ sym lone

-- ---- moves to and from swap

pub swap_moves : (c : Call) → IsSwap c → IsMove c
swap_moves (call.SwapOut space at len) swap = tt
swap_moves (call.SwapIn space at len) swap = tt
swap_moves (call.Load space at len) swap = absurd swap
swap_moves (call.Store space at bytes) swap = absurd swap
swap_moves (call.Fault space at write) swap = absurd swap
swap_moves (call.Map space where_to len perm what) swap = absurd swap
swap_moves (call.Unmap space at len) swap = absurd swap
swap_moves (call.Protect space at len perm) swap = absurd swap
swap_moves call.Spawn swap = absurd swap
swap_moves (call.Fork space) swap = absurd swap
swap_moves (call.Exit space) swap = absurd swap
swap_moves (call.Txn space at len ops) swap = absurd swap
swap_moves (call.DontNeed space at len) swap = absurd swap
swap_moves (call.Remap space at old_len new_len) swap = absurd swap

pub swap_stores : (c : Call) → IsSwap c → false ≡ is_store c
swap_stores (call.SwapOut space at len) swap = refl
swap_stores (call.SwapIn space at len) swap = refl
swap_stores (call.Load space at len) swap = absurd swap
swap_stores (call.Store space at bytes) swap = absurd swap
swap_stores (call.Fault space at write) swap = absurd swap
swap_stores (call.Map space where_to len perm what) swap = absurd swap
swap_stores (call.Unmap space at len) swap = absurd swap
swap_stores (call.Protect space at len perm) swap = absurd swap
swap_stores call.Spawn swap = absurd swap
swap_stores (call.Fork space) swap = absurd swap
swap_stores (call.Exit space) swap = absurd swap
swap_stores (call.Txn space at len ops) swap = absurd swap
swap_stores (call.DontNeed space at len) swap = absurd swap
swap_stores (call.Remap space at old_len new_len) swap = absurd swap

needs_none : (st : State) (thread : ℕ) (c : Call) → IsSwap c → IsConsistent st → need (wanted_tables st thread c) st.tables ≡ 0
needs_none st thread (call.SwapOut space at len) swap is = out_none st thread space at len is
needs_none st thread (call.SwapIn space at len) swap is = in_none st thread space at len is
needs_none st thread (call.Load space at len) swap is = absurd swap
needs_none st thread (call.Store space at bytes) swap is = absurd swap
needs_none st thread (call.Fault space at write) swap is = absurd swap
needs_none st thread (call.Map space where_to len perm what) swap is = absurd swap
needs_none st thread (call.Unmap space at len) swap is = absurd swap
needs_none st thread (call.Protect space at len perm) swap is = absurd swap
needs_none st thread call.Spawn swap is = absurd swap
needs_none st thread (call.Fork space) swap is = absurd swap
needs_none st thread (call.Exit space) swap is = absurd swap
needs_none st thread (call.Txn space at len ops) swap is = absurd swap
needs_none st thread (call.DontNeed space at len) swap is = absurd swap
needs_none st thread (call.Remap space at old_len new_len) swap is = absurd swap

module _ {B E : Type 0} (a b : BookData) (thread : ℕ) (c : Call) (v : PassView (List Cell) B E) (rows : List Row) (kit : Kit) (ready : IsApplicable a b thread c v rows kit) (done : kit.done ≡ true) (swap : IsSwap c) where
  abbrev st : State
  st = state_of a

  move : IsMove c
  move = swap_moves c swap

  made : IsMade a b thread c kit
  made = is_made a b thread c kit ready.answered done ready.same_kit (was_committed a b thread c v rows kit ready done)

  none : need (wanted_tables st thread c) st.tables ≡ 0
  none = needs_none st thread c swap (book_is_consistent a ready.books.0)

  pub got_no_table : GotNoTable a b kit
  got_no_table = record {
    done = done;
    rows = ap (λ (k : Kit). k.rows.items) made.same ∙ (made.granted.rows ∙ ap (λ n. zip (take n (free_list a)) (range_with_len a.next_generation n)) (made.rows_needed ∙ none));
    tables = ap (λ (t : State). t.tables) (made.state ∙ as_changed st thread c (move_space c move).0 move (move_space c move).1) ∙ same_tables (is_given_up st c) (λ p. gives_none st c p move) (wanted_tables st thread c) st.tables none;
  }

  pub swap_linked : AreLinked a b thread c v rows kit
  swap_linked = linked_here a b thread c v rows kit ready got_no_table
