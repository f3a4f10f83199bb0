-- Each byte of a state is below 256 where those of its files are, and a call that stores such bytes keeps that.
use Rattle.std.proofs.Common.{◌≡◌, ℕ, ◌+◌, ◌-◌, ◌*◌, ◌/◌, ◌<◌, Bool, true, false, cond, List, [], ◌∷◌, ◌++◌, length, take, drop, refl, sym, ap, subst, ◌∙◌, arith}
use Rattle.std.specs.Prelude.{Option, Some, None, nat_eq, nat_lt, slice_get}
use Rattle.std.specs.Option.{unwrap_or, option_map}
use Rattle.std.specs.List.{All}
use Rattle.std.specs.FinMap as fin
use Rattle.std.specs.FinMap.{get-empty, get-remove}
use Rattle.std.specs.Cmp.{nat_cmp_total, unsigned_tied}
use Rattle.std.specs.Ordering.{nat_cmp}
use Rattle.std.proofs.lemmas.List.Elements.{All-nil, All-append, All-take, All-drop, All-replicate, All-get_or}
use Rattle.std.proofs.lemmas.Option.{get_or_from_slice_get, slice_get_within}
use Rattle.corten_base.specs.declared.permissions.Perm.{Perm}
use Rattle.corten_base.specs.declared.calls.Backing.{Backing}
use Rattle.corten_base.specs.declared.calls.Backing.TheVariants as backing
use Rattle.corten_base.specs.declared.calls.Call.{Call}
use Rattle.corten_base.specs.declared.calls.Call.TheVariants as call
use Rattle.corten_base.specs.declared.calls.TxnOp.{TxnOp}
use Rattle.corten_base.specs.declared.calls.TxnOp.TheVariants as op
use Rattle.table_place.specs.Place.{pages_of}
use Rattle.page_map.specs.declared.cell.Cell.{Cell}
use Rattle.page_map.specs.declared.cell.Cell.TheVariants.{Anon, File, Mapped, Swapped}
use Rattle.page_map.specs.Cell.{AddressSpace, zeros, file_bytes, file_page, contents, with_perm, written, backed, backing_of, perm_of, goes_on}
use Rattle.page_map.specs.Change.{change}
use Rattle.page_map.specs.DontNeed.{given_back}
use Rattle.page_map.specs.Remap.{Resize, resize_of, put_at, left_first, left_count, filled_first, filled_count, last_cell, cell_for, remapped}
use Rattle.page_map.specs.Takes.{Grant, granted}
use Rattle.page_map.specs.Tables.{Tables, changed_tables}
use Rattle.page_map.specs.Access.{Access, first_page, page_count, touched, after_access}
use Rattle.page_map.specs.Mapping.{after_op, after_ops}
use Rattle.page_map.specs.Swap.{out_to, in_to, moved, moved_to}
use Rattle.page_map.specs.Spaces.{least_absent}
use Rattle.page_map.specs.State.{State, levels, cell_at, space_at}
use Rattle.page_map.specs.Effect.{state_after, ops_of, frame_grants, slot_grants, wanted_tables, is_given_up}
use Rattle.page_map.specs.Step.{step}
use Rattle.page_map.proofs.Steps.{not_none, by_step}
use Rattle.page_map.proofs.Cells.{changed, each_cell}
use Rattle.page_map.proofs.Fits.{in_changed, mapped_from}
use Rattle.page_map.proofs.Owners.{same_some}

abbrev pub AreBytes : List ℕ → Type 0
AreBytes bytes = All (λ b. b < 256) bytes

written_bytes : (at : ℕ) (stored : List ℕ) (page : ℕ) (bytes : List ℕ) → AreBytes stored → AreBytes bytes → AreBytes (written at stored page bytes)
written_bytes at stored page bytes new old =
    let P : ℕ → Type 0 = λ b. b < 256 in
    let start : ℕ = 4096 * page in
    let front : List ℕ = take (at - start) bytes in
    let middle : List ℕ = take (4096 - (at - start)) (drop (start - at) stored) in
    All-append P (front ++ middle) (drop (at + length stored - start) bytes)
    (All-append P front middle (All-take P (at - start) bytes old) (All-take P (4096 - (at - start)) (drop (start - at) stored) (All-drop P (start - at) stored new)))
    (All-drop P (at + length stored - start) bytes old)

module _ (files : List (List ℕ)) (files_are : All AreBytes files) where
  zeros_are : AreBytes zeros
  unfolding zeros
  zeros_are = All-replicate (λ b. b < 256) 4096 0 (omega arith)

  file_is : (file : ℕ) → AreBytes (file_bytes files file)
  file_is file = go (slice_get files file) refl
    where
      go : (o : Option (List ℕ)) → slice_get files file ≡ o → AreBytes (unwrap_or o [])
      go None e = All-nil (λ b. b < 256)
      go (Some bytes) e = subst AreBytes (get_or_from_slice_get files file bytes bytes e) (All-get_or AreBytes files file bytes (slice_get_within files file bytes e) files_are)

  page_is : (file index : ℕ) → AreBytes (file_page files file index)
  page_is file index =
      let P : ℕ → Type 0 = λ b. b < 256 in
      All-take P 4096 (drop (4096 * index) (file_bytes files file) ++ zeros)
      (All-append P (drop (4096 * index) (file_bytes files file)) zeros (All-drop P (4096 * index) (file_bytes files file) (file_is file)) zeros_are)

  backed_bytes : (what : Backing) (perm : Perm) (i : ℕ) → AreBytes (contents files (backed what perm i))
  backed_bytes backing.Zero perm i = zeros_are
  backed_bytes (backing.File file index) perm i = page_is file (index + i)

  with_perm_bytes : (perm : Perm) (d : Cell) → AreBytes (contents files d) → AreBytes (contents files (with_perm perm d))
  with_perm_bytes perm (Anon old) h = h
  with_perm_bytes perm (File old file index) h = h
  with_perm_bytes perm (Mapped old origin frame bytes) h = h
  with_perm_bytes perm (Swapped old origin slot bytes) h = h

  out_bytes : (o : Option ℕ) (d : Cell) → AreBytes (contents files d) → AreBytes (contents files (moved out_to o d))
  out_bytes None d h = h
  out_bytes (Some n) (Anon perm) h = h
  out_bytes (Some n) (File perm file index) h = h
  out_bytes (Some n) (Mapped perm origin frame bytes) h = h
  out_bytes (Some n) (Swapped perm origin slot bytes) h = h

  in_bytes : (o : Option ℕ) (d : Cell) → AreBytes (contents files d) → AreBytes (contents files (moved in_to o d))
  in_bytes None d h = h
  in_bytes (Some n) (Anon perm) h = h
  in_bytes (Some n) (File perm file index) h = h
  in_bytes (Some n) (Mapped perm origin frame bytes) h = h
  in_bytes (Some n) (Swapped perm origin slot bytes) h = h

  abbrev HasBytes : Cell → Type 0
  HasBytes c = AreBytes (contents files c)

  -- the cells of a space
  abbrev pub HaveBytes : AddressSpace → Type 0
  HaveBytes cells = (p : ℕ) (c : Cell) → fin.get cells p ≡ Some c → AreBytes (contents files c)

  op_bytes : (o : TxnOp) (cells : AddressSpace) → HaveBytes cells → HaveBytes (after_op o cells)
  unfolding after_op
  op_bytes (op.Map at fresh len perm what) cells old p c e =
      in_changed HasBytes cells (at / 4096) (pages_of len) (λ page _. Some (backed what perm (page - at / 4096))) p c e
      (λ w h. subst HasBytes (same_some h) (backed_bytes what perm (p - at / 4096))) (λ w h. old p c h)
  op_bytes (op.Unmap at len) cells old p c e =
      in_changed HasBytes cells (at / 4096) (pages_of len) (λ page _. None) p c e (λ w h. absurd (not_none (sym h))) (λ w h. old p c h)
  op_bytes (op.Protect at len perm) cells old p c e =
      in_changed HasBytes cells (at / 4096) (pages_of len) (λ page. option_map (with_perm perm)) p c e
      (λ w h. mapped_from HasBytes (with_perm perm) (fin.get cells p) c h (λ d f. with_perm_bytes perm d (old p d f))) (λ w h. old p c h)

  ops_bytes : (os : List TxnOp) (cells : AddressSpace) → HaveBytes cells → HaveBytes (after_ops os cells)
  ops_bytes [] cells old = old
  ops_bytes (o ∷ os) cells old = ops_bytes os (after_op o cells) (op_bytes o cells old)

  access_bytes : (grants : Grant) (a : Access) (cells : AddressSpace) → AreBytes a.stored → HaveBytes cells → HaveBytes (after_access files grants a cells)
  unfolding after_access
  access_bytes grants a cells new old p c e =
      in_changed HasBytes cells (first_page a) (page_count a) (λ page. option_map (touched files grants a page)) p c e
      (λ w h. mapped_from HasBytes (touched files grants a p) (fin.get cells p) c h (λ d f. written_bytes a.at a.stored p (contents files d) new (old p d f))) (λ w h. old p c h)

  outs_bytes : (grants : Grant) (first count : ℕ) (cells : AddressSpace) → HaveBytes cells → HaveBytes (moved_to out_to grants first count cells)
  unfolding moved_to
  outs_bytes grants first count cells old p c e =
      in_changed HasBytes cells first count (λ page. option_map (moved out_to (granted grants page))) p c e
      (λ w h. mapped_from HasBytes (moved out_to (granted grants p)) (fin.get cells p) c h (λ d f. out_bytes (granted grants p) d (old p d f))) (λ w h. old p c h)

  ins_bytes : (grants : Grant) (first count : ℕ) (cells : AddressSpace) → HaveBytes cells → HaveBytes (moved_to in_to grants first count cells)
  unfolding moved_to
  ins_bytes grants first count cells old p c e =
      in_changed HasBytes cells first count (λ page. option_map (moved in_to (granted grants page))) p c e
      (λ w h. mapped_from HasBytes (moved in_to (granted grants p)) (fin.get cells p) c h (λ d f. in_bytes (granted grants p) d (old p d f))) (λ w h. old p c h)

  given_bytes : (first count : ℕ) (cells : AddressSpace) → HaveBytes cells → HaveBytes (given_back first count cells)
  unfolding given_back
  given_bytes first count cells old p c e =
      in_changed HasBytes cells first count (λ page. option_map (λ cell. goes_on cell 0)) p c e
      (λ w h. mapped_from HasBytes (λ cell. goes_on cell 0) (fin.get cells p) c h (λ d f. backed_bytes (backing_of d) (perm_of d) 0)) (λ w h. old p c h)

  -- a page of a range of another length, and one behind its old end
  for_bytes : (r : Resize) (cells : AddressSpace) (i : ℕ) (c : Cell) → HaveBytes cells → cell_for cells r i ≡ Some c → HasBytes c
  for_bytes r cells i c old e = go (nat_lt i r.old) e
    where
      go : (b : Bool) → cond b (fin.get cells (r.first + i)) (option_map (λ last. goes_on last (i + 1 - r.old)) (last_cell cells r)) ≡ Some c → HasBytes c
      go true f = old (r.first + i) c f
      go false f = mapped_from HasBytes (λ last. goes_on last (i + 1 - r.old)) (last_cell cells r) c f (λ d g. backed_bytes (backing_of d) (perm_of d) (i + 1 - r.old))

  remapped_bytes : (levels thread : ℕ) (r : Resize) (cells : AddressSpace) → HaveBytes cells → HaveBytes (remapped levels thread r cells)
  unfolding remapped
  remapped_bytes levels thread r cells old p c e =
      in_changed HasBytes (change cells (left_first levels cells r) (left_count levels cells r) (λ page _. None)) (filled_first levels thread cells r) (filled_count levels cells r)
      (λ page _. cell_for cells r (page - put_at levels thread cells r)) p c e
      (λ w h. for_bytes r cells (p - put_at levels thread cells r) c old h)
      (λ w h. in_changed HasBytes cells (left_first levels cells r) (left_count levels cells r) (λ page _. None) p c h (λ v g. absurd (not_none (sym g))) (λ v g. old p c g))

-- the files and all cells
pub record AreAllBytes (st : State) : Type 0 where
  pub files : All AreBytes st.files
  pub cells : (s p : ℕ) (c : Cell) → cell_at st s p ≡ Some c → AreBytes (contents st.files c)

-- the bytes that a call stores
abbrev pub stored_by : Call → List ℕ
stored_by (call.Store space at bytes) = bytes
stored_by _ = []

module _ (st : State) (thread : ℕ) (h : AreAllBytes st) where
  changed_bytes : (space : ℕ) (cells : AddressSpace) (tables : Tables) → HaveBytes st.files h.files cells → AreAllBytes (changed st space cells tables)
  changed_bytes space cells tables new =
      record { files = h.files; cells = each_cell st space cells tables (λ s p c. AreBytes (contents st.files c)) new (λ s p c other e. h.cells s p c e) }

  -- the tables after a call
  abbrev left_by : Call → Tables
  left_by c = changed_tables (is_given_up st c) (wanted_tables st thread c) st.tables

  ops_keep : (space : ℕ) (os : List TxnOp) (c : Call) → AreAllBytes (changed st space (after_ops os (space_at st space)) (left_by c))
  ops_keep space os c = changed_bytes space (after_ops os (space_at st space)) (left_by c) (ops_bytes st.files h.files os (space_at st space) (h.cells space))

  access_keeps : (space : ℕ) (a : Access) (c : Call) → AreBytes a.stored → AreAllBytes (changed st space (after_access st.files (frame_grants st c) a (space_at st space)) (left_by c))
  access_keeps space a c new =
      changed_bytes space (after_access st.files (frame_grants st c) a (space_at st space)) (left_by c) (access_bytes st.files h.files (frame_grants st c) a (space_at st space) new (h.cells space))

  none_stored : AreBytes []
  none_stored = All-nil (λ b. b < 256)

  after_bytes : (c : Call) → AreBytes (stored_by c) → AreAllBytes (state_after st thread c)
  unfolding state_after
  after_bytes (call.Map space where_to len perm what) new = ops_keep space (ops_of st thread (call.Map space where_to len perm what)) (call.Map space where_to len perm what)
  after_bytes (call.Unmap space at len) new = ops_keep space (op.Unmap at len ∷ []) (call.Unmap space at len)
  after_bytes (call.Protect space at len perm) new = ops_keep space (op.Protect at len perm ∷ []) (call.Protect space at len perm)
  after_bytes (call.Txn space at len ops) new = ops_keep space ops (call.Txn space at len ops)
  after_bytes (call.Load space at len) new = access_keeps space (record { at = at; len = len; write = false; stored = [] }) (call.Load space at len) none_stored
  after_bytes (call.Store space at bytes) new = access_keeps space (record { at = at; len = length bytes; write = true; stored = bytes }) (call.Store space at bytes) new
  after_bytes (call.Fault space at write) new = access_keeps space (record { at = at; len = 1; write = write; stored = [] }) (call.Fault space at write) none_stored
  after_bytes (call.SwapOut space at len) new =
      let c = call.SwapOut space at len in
      changed_bytes space (moved_to out_to (slot_grants st c) (at / 4096) (pages_of len) (space_at st space)) (left_by c) (outs_bytes st.files h.files (slot_grants st c) (at / 4096) (pages_of len) (space_at st space) (h.cells space))
  after_bytes (call.SwapIn space at len) new =
      let c = call.SwapIn space at len in
      changed_bytes space (moved_to in_to (frame_grants st c) (at / 4096) (pages_of len) (space_at st space)) (left_by c) (ins_bytes st.files h.files (frame_grants st c) (at / 4096) (pages_of len) (space_at st space) (h.cells space))
  after_bytes (call.DontNeed space at len) new =
      changed_bytes space (given_back (at / 4096) (pages_of len) (space_at st space)) (left_by (call.DontNeed space at len)) (given_bytes st.files h.files (at / 4096) (pages_of len) (space_at st space) (h.cells space))
  after_bytes (call.Remap space at old_len new_len) new =
      let r : Resize = resize_of at old_len new_len in
      changed_bytes space (remapped (levels st) thread r (space_at st space)) (left_by (call.Remap space at old_len new_len)) (remapped_bytes st.files h.files (levels st) thread r (space_at st space) (h.cells space))
  after_bytes call.Spawn new = changed_bytes (unwrap_or (least_absent st) 0) fin.empty (left_by call.Spawn) (λ p c e. absurd (not_none (sym e ∙ get-empty nat_cmp p)))
  after_bytes (call.Fork space) new = changed_bytes (unwrap_or (least_absent st) 0) (space_at st space) (left_by (call.Fork space)) (h.cells space)
  after_bytes (call.Exit space) new = record { files = h.files; cells = λ s p c e. h.cells s p c (left_cell s p c e) }
    where
      still : (s : ℕ) → fin.get (fin.remove st.spaces space) s ≡ cond (nat_eq s space) None (fin.get st.spaces s)
      still s = get-remove nat_cmp_total st.spaces space s ∙ ap (λ b. cond b None (fin.get st.spaces s)) (unsigned_tied s space)

      left_cell : (s p : ℕ) (c : Cell) → fin.get (unwrap_or (fin.get (fin.remove st.spaces space) s) fin.empty) p ≡ Some c → cell_at st s p ≡ Some c
      left_cell s p c e = go (nat_eq s space) (sym (ap (λ (o : Option AddressSpace). fin.get (unwrap_or o fin.empty) p) (still s)) ∙ e)
        where
          go : (b : Bool) → fin.get (unwrap_or (cond b None (fin.get st.spaces s)) fin.empty) p ≡ Some c → cell_at st s p ≡ Some c
          go false f = f
          go true f = absurd (not_none (sym f ∙ get-empty nat_cmp p))

pub step_bytes : (st : State) (thread limbo : ℕ) (c : Call) → AreBytes (stored_by c) → AreAllBytes st → AreAllBytes (step st thread c limbo).1
step_bytes st thread limbo c new h = by_step AreAllBytes st thread c limbo h (λ passed. after_bytes st thread h c new)
