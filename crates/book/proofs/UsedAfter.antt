-- The used pages after a call that gives each page of a range another cell: the same pages, each with its new cell.
use Rattle.std.proofs.Common.{◌≡◌, ℕ, ◌/◌, Bool, true, false, cond, List, [], refl, ap, ◌∙◌}
use Rattle.std.specs.Prelude.{Option, Some, None, length}
use Rattle.std.specs.List.{filter}
use Rattle.std.specs.Option.{option_map}
use Rattle.std.specs.Cmp.{nat_eq_equiv}
use Rattle.std.specs.FinMap as fin
use Rattle.corten_base.specs.declared.calls.Call.{Call}
use Rattle.corten_base.specs.declared.calls.Call.TheVariants as call
use Rattle.table_place.specs.Range.{within}
use Rattle.table_place.specs.Place.{pages_of}
use Rattle.page_map.specs.declared.cell.Cell.{Cell}
use Rattle.page_map.specs.Access.{Access, first_page, page_count, touched, after_access}
use Rattle.page_map.specs.Change.{change}
use Rattle.page_map.specs.Effect.{state_after, frame_grants, slot_grants}
use Rattle.page_map.specs.State.{State, AddressSpace, space_at}
use Rattle.page_map.specs.Swap.{moved, moved_to, out_to, in_to}
use Rattle.page_map.specs.Tables.{Tables}
use Rattle.page_map.specs.Takes.{granted}
use Rattle.page_map.proofs.Cells.{changed, spaces_changed}
use Rattle.page_map.proofs.Range.{get-change}
use Rattle.machine_plan.specs.Uses.{uses_page, used_cells}
use Rattle.book.proofs.SameKeys.{with_values, same_keys, same_picked}

abbrev pub in_range_only : ℕ → ℕ → (ℕ → Cell → Cell) → ℕ → Cell → Cell
in_range_only first count new page cell = cond (within first count page) (new page cell) cell

changed_cell : (first count : ℕ) (new : ℕ → Cell → Cell) (cells : AddressSpace) (k : ℕ) → fin.get (change cells first count (λ page. option_map (new page))) k ≡ option_map (in_range_only first count new k) (fin.get cells k)
changed_cell first count new cells k = get-change cells first count (λ page. option_map (new page)) k ∙ go (within first count k) (fin.get cells k)
  where
    go : (b : Bool) (o : Option Cell) → cond b (option_map (new k) o) o ≡ option_map (λ c. cond b (new k c) c) o
    go true None = refl
    go true (Some c) = refl
    go false None = refl
    go false (Some c) = refl

picked : (uses : ℕ → Bool) (first count : ℕ) (new : ℕ → Cell → Cell) (cells : AddressSpace) →
    filter (λ e. uses e.0) (fin.entries (change cells first count (λ page. option_map (new page)))) ≡ with_values (in_range_only first count new) (filter (λ e. uses e.0) (fin.entries cells))
picked uses first count new cells =
    ap (λ (es : List (ℕ × Cell)). filter (λ e. uses e.0) es) (same_keys (in_range_only first count new) cells (change cells first count (λ page. option_map (new page))) (changed_cell first count new cells))
    ∙ same_picked (in_range_only first count new) uses (fin.entries cells)

module _ (st : State) (thread : ℕ) where
  in_space : (c : Call) (space first count : ℕ) (new : ℕ → Cell → Cell) (tables : Tables) →
      filter (λ e. uses_page st thread c space e.0) (fin.entries (space_at (changed st space (change (space_at st space) first count (λ page. option_map (new page))) tables) space))
      ≡ with_values (in_range_only first count new) (filter (λ e. uses_page st thread c space e.0) (fin.entries (space_at st space)))
  in_space c space first count new tables =
      let now : AddressSpace = change (space_at st space) first count (λ page. option_map (new page)) in
      ap (λ (m : AddressSpace). filter (λ e. uses_page st thread c space e.0) (fin.entries m)) (spaces_changed st space now tables space ∙ ap (λ b. cond b now (space_at st space)) (nat_eq_equiv.refl space))
      ∙ picked (uses_page st thread c space) first count new (space_at st space)

  abbrev TouchedSo : Call → Access → Type 0
  TouchedSo c a = used_cells st (state_after st thread c) thread c ≡ with_values (in_range_only (first_page a) (page_count a) (touched st.files (frame_grants st c) a)) (used_cells st st thread c)

  pub after_load : (space at len : ℕ) → TouchedSo (call.Load space at len) (record { at = at; len = len; write = false; stored = [] })
  unfolding state_after after_access
  after_load space at len =
      let a : Access = record { at = at; len = len; write = false; stored = [] } in
      in_space (call.Load space at len) space (first_page a) (page_count a) (touched st.files (frame_grants st (call.Load space at len)) a) (state_after st thread (call.Load space at len)).tables

  pub after_store : (space at : ℕ) (bytes : List ℕ) → TouchedSo (call.Store space at bytes) (record { at = at; len = length bytes; write = true; stored = bytes })
  unfolding state_after after_access
  after_store space at bytes =
      let a : Access = record { at = at; len = length bytes; write = true; stored = bytes } in
      in_space (call.Store space at bytes) space (first_page a) (page_count a) (touched st.files (frame_grants st (call.Store space at bytes)) a) (state_after st thread (call.Store space at bytes)).tables

  pub after_fault : (space at : ℕ) (write : Bool) → TouchedSo (call.Fault space at write) (record { at = at; len = 1; write = write; stored = [] })
  unfolding state_after after_access
  after_fault space at write =
      let a : Access = record { at = at; len = 1; write = write; stored = [] } in
      in_space (call.Fault space at write) space (first_page a) (page_count a) (touched st.files (frame_grants st (call.Fault space at write)) a) (state_after st thread (call.Fault space at write)).tables

  pub after_out : (space at len : ℕ) →
      used_cells st (state_after st thread (call.SwapOut space at len)) thread (call.SwapOut space at len)
      ≡ with_values (in_range_only (at / 4096) (pages_of len) (λ page. moved out_to (granted (slot_grants st (call.SwapOut space at len)) page))) (used_cells st st thread (call.SwapOut space at len))
  unfolding state_after moved_to
  after_out space at len = in_space (call.SwapOut space at len) space (at / 4096) (pages_of len) (λ page. moved out_to (granted (slot_grants st (call.SwapOut space at len)) page)) (state_after st thread (call.SwapOut space at len)).tables

  pub after_in : (space at len : ℕ) →
      used_cells st (state_after st thread (call.SwapIn space at len)) thread (call.SwapIn space at len)
      ≡ with_values (in_range_only (at / 4096) (pages_of len) (λ page. moved in_to (granted (frame_grants st (call.SwapIn space at len)) page))) (used_cells st st thread (call.SwapIn space at len))
  unfolding state_after moved_to
  after_in space at len = in_space (call.SwapIn space at len) space (at / 4096) (pages_of len) (λ page. moved in_to (granted (frame_grants st (call.SwapIn space at len)) page)) (state_after st thread (call.SwapIn space at len)).tables
