-- The file of each page is there, and a page that has a frame or a slot begins before its file's end: steps keep that.
--     HasFile, HaveFiles      so of a cell;  of all cells of a state
--     step_files      a step keeps it
--     files_after      so do the answered calls of a legal history
use Rattle.std.proofs.Common.{◌≡◌, ℕ, ◌+◌, ◌-◌, ◌*◌, ◌/◌, ◌^◌, ◌<◌, Bool, true, false, cond, List, [], ◌∷◌, length, refl, sym, ap, subst, ◌∙◌}
use Rattle.std.specs.Prelude.{Option, Some, None, nat_eq, nat_le, nat_lt}
use Rattle.std.specs.Option.{unwrap_or, option_map}
use Rattle.std.specs.List.{AllByRecursion}
use Rattle.std.specs.FinMap as fin
use Rattle.std.specs.FinMap.{get-empty, get-remove}
use Rattle.std.specs.Cmp.{nat_cmp_total, unsigned_tied}
use Rattle.std.specs.Ordering.{nat_cmp}
use Rattle.std.proofs.lemmas.Bool.{and_parts, leb-false, ltb-true}
use Rattle.corten_base.specs.declared.permissions.Perm.{Perm}
use Rattle.corten_base.specs.declared.calls.Backing.{Backing}
use Rattle.corten_base.specs.declared.calls.Backing.TheVariants as backing
use Rattle.corten_base.specs.declared.calls.Call.{Call}
use Rattle.corten_base.specs.declared.calls.Call.TheVariants as call
use Rattle.corten_base.specs.declared.calls.Entry.{Entry}
use Rattle.corten_base.specs.declared.calls.MapPlace.TheVariants as place
use Rattle.corten_base.specs.declared.calls.Reply.{Reply}
use Rattle.corten_base.specs.declared.calls.Reply.TheVariants as reply
use Rattle.corten_base.specs.declared.calls.Why.{Why}
use Rattle.corten_base.specs.declared.calls.TxnOp.{TxnOp}
use Rattle.corten_base.specs.declared.calls.TxnOp.TheVariants as op
use Rattle.table_place.specs.Range.{lies_in}
use Rattle.table_place.specs.Place.{is_page_range, pages_of}
use Rattle.table_place.proofs.Tables.{in_range}
use Rattle.page_map.specs.declared.cell.Cell.{Cell}
use Rattle.page_map.specs.declared.cell.Cell.TheVariants.{Anon, File, Mapped, Swapped}
use Rattle.page_map.specs.Cell.{AddressSpace, backed, backing_of, file_bytes, goes_on, is_past_end, perm_of, with_perm}
use Rattle.page_map.specs.Change.{change}
use Rattle.page_map.specs.DontNeed.{given_back}
use Rattle.page_map.specs.Remap.{Resize, resize_of, put_at, left_first, left_count, filled_first, filled_count, last_cell, cell_for, remapped}
use Rattle.page_map.specs.Takes.{Grant, granted}
use Rattle.page_map.specs.Tables.{Tables, changed_tables}
use Rattle.page_map.specs.Access.{Access, allows, first_page, page_count, touched, after_access, refused_access, refused_at}
use Rattle.page_map.specs.Mapping.{after_op, after_ops, is_backing, is_length, is_mappable, is_right, is_right_within, op_first, op_pages, undone}
use Rattle.page_map.specs.Swap.{out_to, in_to, moved, moved_to}
use Rattle.page_map.specs.Spaces.{least_absent}
use Rattle.page_map.specs.State.{State, levels, cell_at, space_at}
use Rattle.page_map.specs.Effect.{state_after, frame_grants, slot_grants, wanted_tables, is_given_up, placed_at}
use Rattle.page_map.specs.Step.{step}
use Rattle.page_map.specs.History.{after, entry_step, limbo_of}
use Rattle.page_map.proofs.Steps.{Passed, not_none, by_step}
use Rattle.page_map.proofs.Cells.{changed, each_cell}
use Rattle.page_map.proofs.Fits.{in_changed, mapped_from}
use Rattle.page_map.proofs.Owners.{same_some}
use Rattle.page_map.proofs.Least.{unanswered}
use Rattle.page_map.proofs.Mappings.{none_undone}
use Rattle.page_map.proofs.Unmapped.{held_of}
use Rattle.image_text.specs.Images.{IsPageOrigin}

abbrev pub IsThere : List (List ℕ) → Backing → Type 0
IsThere files backing.Zero = Unit {0}
IsThere files (backing.File file index) = file < length files

abbrev pub HasFile : List (List ℕ) → Cell → Type 0
HasFile files (Anon perm) = Unit {0}
HasFile files (File perm file index) = file < length files
HasFile files (Mapped perm origin frame bytes) = IsPageOrigin files origin
HasFile files (Swapped perm origin slot bytes) = IsPageOrigin files origin

abbrev pub HaveFiles : State → Type 0
HaveFiles st = (s p : ℕ) (c : Cell) → cell_at st s p ≡ Some c → HasFile st.files c

-- an operation that maps a file which is there
abbrev OpThere : List (List ℕ) → TxnOp → Type 0
OpThere files (op.Map at fresh len perm what) = IsThere files what
OpThere files (op.Unmap at len) = Unit {0}
OpThere files (op.Protect at len perm) = Unit {0}

module _ (files : List (List ℕ)) where
  mapped_there : (what : Backing) → is_backing files what ≡ true → IsThere files what
  mapped_there backing.Zero h = tt
  mapped_there (backing.File file index) h = ltb-true file (length files) (and_parts (nat_lt file (length files)) (nat_le index (2 ^ 40)) h).0

  origin_there : (what : Backing) → IsPageOrigin files what → IsThere files what
  origin_there backing.Zero h = tt
  origin_there (backing.File file index) h = h.0

  from_there : (c : Cell) → HasFile files c → IsThere files (backing_of c)
  from_there (Anon perm) h = tt
  from_there (File perm file index) h = h
  from_there (Mapped perm origin frame bytes) h = origin_there origin h
  from_there (Swapped perm origin slot bytes) h = origin_there origin h

  backed_has : (what : Backing) (perm : Perm) (i : ℕ) → IsThere files what → HasFile files (backed what perm i)
  backed_has backing.Zero perm i h = tt
  backed_has (backing.File file index) perm i h = h

  goes_on_has : (c : Cell) (i : ℕ) → HasFile files c → HasFile files (goes_on c i)
  goes_on_has c i h = backed_has (backing_of c) (perm_of c) i (from_there c h)

  with_perm_has : (perm : Perm) (c : Cell) → HasFile files c → HasFile files (with_perm perm c)
  with_perm_has perm (Anon old) h = h
  with_perm_has perm (File old file index) h = h
  with_perm_has perm (Mapped old origin frame bytes) h = h
  with_perm_has perm (Swapped old origin slot bytes) h = h

  out_has : (o : Option ℕ) (c : Cell) → HasFile files c → HasFile files (moved out_to o c)
  out_has None c h = h
  out_has (Some n) (Anon perm) h = h
  out_has (Some n) (File perm file index) h = h
  out_has (Some n) (Mapped perm origin frame bytes) h = h
  out_has (Some n) (Swapped perm origin slot bytes) h = h

  in_has : (o : Option ℕ) (c : Cell) → HasFile files c → HasFile files (moved in_to o c)
  in_has None c h = h
  in_has (Some n) (Anon perm) h = h
  in_has (Some n) (File perm file index) h = h
  in_has (Some n) (Mapped perm origin frame bytes) h = h
  in_has (Some n) (Swapped perm origin slot bytes) h = h

  -- a page that is touched does not lie past its file's end
  touched_origin : (c : Cell) → is_past_end files c ≡ false → HasFile files c → IsPageOrigin files (backing_of c)
  touched_origin (Anon perm) inside h = tt
  touched_origin (File perm file index) inside h = (h, less (length (file_bytes files file)) (4096 * index) inside)
    where
      less : (a b : ℕ) → nat_le a b ≡ false → b < a
      less a b e = leb-false a b e
  touched_origin (Mapped perm origin frame bytes) inside h = h
  touched_origin (Swapped perm origin slot bytes) inside h = h

  not_past : (write : Bool) (page : ℕ) (c : Cell) → refused_at files write page (Some c) ≡ None → is_past_end files c ≡ false
  not_past write page c e = go (allows write c) (is_past_end files c) e
    where
      go : (a b : Bool) → cond a (cond b (Some (reply.Bus (4096 * page))) None) (Some (reply.Denied (4096 * page))) ≡ None → b ≡ false
      go true false f = refl
      go true true f = absurd (not_none f)
      go false b f = absurd (not_none f)

  -- the cells of a space
  abbrev pub AllHave : AddressSpace → Type 0
  AllHave cells = (p : ℕ) (c : Cell) → fin.get cells p ≡ Some c → HasFile files c

  op_have : (o : TxnOp) (cells : AddressSpace) → OpThere files o → AllHave cells → AllHave (after_op o cells)
  unfolding after_op
  op_have (op.Map at fresh len perm what) cells there old p c e =
      in_changed (HasFile files) cells (at / 4096) (pages_of len) (λ page _. Some (backed what perm (page - at / 4096))) p c e
      (λ w h. subst (HasFile files) (same_some h) (backed_has what perm (p - at / 4096) there)) (λ w h. old p c h)
  op_have (op.Unmap at len) cells there old p c e =
      in_changed (HasFile files) cells (at / 4096) (pages_of len) (λ page _. None) p c e (λ w h. absurd (not_none (sym h))) (λ w h. old p c h)
  op_have (op.Protect at len perm) cells there old p c e =
      in_changed (HasFile files) cells (at / 4096) (pages_of len) (λ page. option_map (with_perm perm)) p c e
      (λ w h. mapped_from (HasFile files) (with_perm perm) (fin.get cells p) c h (λ d f. with_perm_has perm d (old p d f))) (λ w h. old p c h)

  ops_have : (os : List TxnOp) (cells : AddressSpace) → AllByRecursion (OpThere files) os → AllHave cells → AllHave (after_ops os cells)
  ops_have [] cells there old = old
  ops_have (o ∷ os) cells there old = ops_have os (after_op o cells) there.1 (op_have o cells there.0 old)

  access_have : (grants : Grant) (a : Access) (cells : AddressSpace) → refused_access files cells a ≡ None → AllHave cells → AllHave (after_access files grants a cells)
  unfolding after_access
  access_have grants a cells right old p c e =
      in_changed (HasFile files) cells (first_page a) (page_count a) (λ page. option_map (touched files grants a page)) p c e
      (λ w h. mapped_from (HasFile files) (touched files grants a p) (fin.get cells p) c h (λ d f.
      let at = in_range (first_page a) (page_count a) p w in
      let none = unanswered (λ page. refused_at files a.write page (fin.get cells page)) (first_page a) (page_count a) right p at.0 at.1 in
      touched_origin d (not_past a.write p d (ap (refused_at files a.write p) (sym f) ∙ none)) (old p d f)))
      (λ w h. old p c h)

  outs_have : (grants : Grant) (first count : ℕ) (cells : AddressSpace) → AllHave cells → AllHave (moved_to out_to grants first count cells)
  unfolding moved_to
  outs_have grants first count cells old p c e =
      in_changed (HasFile files) cells first count (λ page. option_map (moved out_to (granted grants page))) p c e
      (λ w h. mapped_from (HasFile files) (moved out_to (granted grants p)) (fin.get cells p) c h (λ d f. out_has (granted grants p) d (old p d f))) (λ w h. old p c h)

  ins_have : (grants : Grant) (first count : ℕ) (cells : AddressSpace) → AllHave cells → AllHave (moved_to in_to grants first count cells)
  unfolding moved_to
  ins_have grants first count cells old p c e =
      in_changed (HasFile files) cells first count (λ page. option_map (moved in_to (granted grants page))) p c e
      (λ w h. mapped_from (HasFile files) (moved in_to (granted grants p)) (fin.get cells p) c h (λ d f. in_has (granted grants p) d (old p d f))) (λ w h. old p c h)

  given_have : (first count : ℕ) (cells : AddressSpace) → AllHave cells → AllHave (given_back first count cells)
  unfolding given_back
  given_have first count cells old p c e =
      in_changed (HasFile files) cells first count (λ page. option_map (λ cell. goes_on cell 0)) p c e
      (λ w h. mapped_from (HasFile files) (λ cell. goes_on cell 0) (fin.get cells p) c h (λ d f. goes_on_has d 0 (old p d f))) (λ w h. old p c h)

  -- a page of a range of another length, and one behind its old end
  for_has : (r : Resize) (cells : AddressSpace) (i : ℕ) (c : Cell) → AllHave cells → cell_for cells r i ≡ Some c → HasFile files c
  for_has r cells i c old e = go (nat_lt i r.old) e
    where
      go : (b : Bool) → cond b (fin.get cells (r.first + i)) (option_map (λ last. goes_on last (i + 1 - r.old)) (last_cell cells r)) ≡ Some c → HasFile files c
      go true f = old (r.first + i) c f
      go false f = mapped_from (HasFile files) (λ last. goes_on last (i + 1 - r.old)) (last_cell cells r) c f (λ d g. goes_on_has d (i + 1 - r.old) (old (r.first + r.old - 1) d g))

  remapped_have : (levels thread : ℕ) (r : Resize) (cells : AddressSpace) → AllHave cells → AllHave (remapped levels thread r cells)
  unfolding remapped
  remapped_have levels thread r cells old p c e =
      in_changed (HasFile files) (change cells (left_first levels cells r) (left_count levels cells r) (λ page _. None)) (filled_first levels thread cells r) (filled_count levels cells r)
      (λ page _. cell_for cells r (page - put_at levels thread cells r)) p c e
      (λ w h. for_has r cells (p - put_at levels thread cells r) c old h)
      (λ w h. in_changed (HasFile files) cells (left_first levels cells r) (left_count levels cells r) (λ page _. None) p c h (λ v g. absurd (not_none (sym g))) (λ v g. old p c g))

  -- the operations of a transaction
  right_there : (levels : ℕ) (o : TxnOp) → is_right levels files o ≡ true → OpThere files o
  right_there levels (op.Map at fresh len perm what) h =
      let mappable = (and_parts (is_mappable levels files len what) (is_page_range levels at len) h).0 in
      mapped_there what (and_parts (is_length levels len) (is_backing files what) mappable).1
  right_there levels (op.Unmap at len) h = tt
  right_there levels (op.Protect at len perm) h = tt

  all_there : (levels first count : ℕ) (os : List TxnOp) → AllByRecursion (λ o. is_right_within levels files first count o ≡ true) os → AllByRecursion (OpThere files) os
  all_there levels first count [] h = tt
  all_there levels first count (o ∷ os) h =
      (right_there levels o (and_parts (is_right levels files o) (lies_in (op_first o) (op_pages o) first count) h.0).0, all_there levels first count os h.1)

module _ (st : State) (thread limbo : ℕ) (h : HaveFiles st) where
  changed_have : (space : ℕ) (cells : AddressSpace) (tables : Tables) → AllHave st.files cells → HaveFiles (changed st space cells tables)
  changed_have space cells tables new = each_cell st space cells tables (λ s p c. HasFile st.files c) new (λ s p c other e. h s p c e)

  -- the tables after a call
  abbrev left_by : Call → Tables
  left_by c = changed_tables (is_given_up st c) (wanted_tables st thread c) st.tables

  ops_keep : (space : ℕ) (os : List TxnOp) (c : Call) → AllByRecursion (OpThere st.files) os → HaveFiles (changed st space (after_ops os (space_at st space)) (left_by c))
  ops_keep space os c there = changed_have space (after_ops os (space_at st space)) (left_by c) (ops_have st.files os (space_at st space) there (h space))

  access_keeps : (space : ℕ) (a : Access) (c : Call) → refused_access st.files (space_at st space) a ≡ None → HaveFiles (changed st space (after_access st.files (frame_grants st c) a (space_at st space)) (left_by c))
  access_keeps space a c right =
      changed_have space (after_access st.files (frame_grants st c) a (space_at st space)) (left_by c) (access_have st.files (frame_grants st c) a (space_at st space) right (h space))

  not_undone : (u : Option (ℕ × Why)) → option_map {U = Reply} (λ v. reply.Undone v.0 v.1) u ≡ None → u ≡ None
  not_undone None e = refl
  not_undone (Some v) e = absurd (not_none e)

  after_have : (c : Call) → Passed st thread c limbo → HaveFiles (state_after st thread c)
  unfolding state_after
  after_have (call.Map space place.Any len perm what) passed =
      let c = call.Map space place.Any len perm what in
      ops_keep space (op.Map (placed_at st thread space place.Any len) false len perm what ∷ []) c
      (mapped_there st.files what (and_parts (is_length (levels st) len) (is_backing st.files what) (held_of _ _ passed.arguments)).1, tt)
  after_have (call.Map space (place.At at) len perm what) passed =
      ops_keep space (op.Map at false len perm what ∷ []) (call.Map space (place.At at) len perm what)
      (right_there st.files (levels st) (op.Map at false len perm what) (held_of _ _ passed.arguments), tt)
  after_have (call.Map space (place.New at) len perm what) passed =
      ops_keep space (op.Map at true len perm what ∷ []) (call.Map space (place.New at) len perm what)
      (right_there st.files (levels st) (op.Map at true len perm what) (held_of _ _ passed.arguments), tt)
  after_have (call.Unmap space at len) passed = ops_keep space (op.Unmap at len ∷ []) (call.Unmap space at len) (tt, tt)
  after_have (call.Protect space at len perm) passed = ops_keep space (op.Protect at len perm ∷ []) (call.Protect space at len perm) (tt, tt)
  after_have (call.Txn space at len ops) passed =
      ops_keep space ops (call.Txn space at len ops) (all_there st.files (levels st) (at / 4096) (pages_of len) ops
      (none_undone (is_right_within (levels st) st.files (at / 4096) (pages_of len)) 1 ops (space_at st space)
      (not_undone (undone (is_right_within (levels st) st.files (at / 4096) (pages_of len)) 1 ops (space_at st space)) passed.pages)))
  after_have (call.Load space at len) passed = access_keeps space (record { at = at; len = len; write = false; stored = [] }) (call.Load space at len) passed.pages
  after_have (call.Store space at bytes) passed = access_keeps space (record { at = at; len = length bytes; write = true; stored = bytes }) (call.Store space at bytes) passed.pages
  after_have (call.Fault space at write) passed = access_keeps space (record { at = at; len = 1; write = write; stored = [] }) (call.Fault space at write) passed.pages
  after_have (call.SwapOut space at len) passed =
      let c = call.SwapOut space at len in
      changed_have space (moved_to out_to (slot_grants st c) (at / 4096) (pages_of len) (space_at st space)) (left_by c) (outs_have st.files (slot_grants st c) (at / 4096) (pages_of len) (space_at st space) (h space))
  after_have (call.SwapIn space at len) passed =
      let c = call.SwapIn space at len in
      changed_have space (moved_to in_to (frame_grants st c) (at / 4096) (pages_of len) (space_at st space)) (left_by c) (ins_have st.files (frame_grants st c) (at / 4096) (pages_of len) (space_at st space) (h space))
  after_have (call.DontNeed space at len) passed =
      changed_have space (given_back (at / 4096) (pages_of len) (space_at st space)) (left_by (call.DontNeed space at len)) (given_have st.files (at / 4096) (pages_of len) (space_at st space) (h space))
  after_have (call.Remap space at old_len new_len) passed =
      let r : Resize = resize_of at old_len new_len in
      changed_have space (remapped (levels st) thread r (space_at st space)) (left_by (call.Remap space at old_len new_len)) (remapped_have st.files (levels st) thread r (space_at st space) (h space))
  after_have call.Spawn passed = changed_have (unwrap_or (least_absent st) 0) fin.empty (left_by call.Spawn) (λ p c e. absurd (not_none (sym e ∙ get-empty nat_cmp p)))
  after_have (call.Fork space) passed = changed_have (unwrap_or (least_absent st) 0) (space_at st space) (left_by (call.Fork space)) (h space)
  after_have (call.Exit space) passed = λ s p c e. h s p c (left_cell s p c e)
    where
      still : (s : ℕ) → fin.get (fin.remove st.spaces space) s ≡ cond (nat_eq s space) None (fin.get st.spaces s)
      still s = get-remove nat_cmp_total st.spaces space s ∙ ap (λ b. cond b None (fin.get st.spaces s)) (unsigned_tied s space)

      left_cell : (s p : ℕ) (c : Cell) → fin.get (unwrap_or (fin.get (fin.remove st.spaces space) s) fin.empty) p ≡ Some c → cell_at st s p ≡ Some c
      left_cell s p c e = go (nat_eq s space) (sym (ap (λ (o : Option AddressSpace). fin.get (unwrap_or o fin.empty) p) (still s)) ∙ e)
        where
          go : (b : Bool) → fin.get (unwrap_or (cond b None (fin.get st.spaces s)) fin.empty) p ≡ Some c → cell_at st s p ≡ Some c
          go false f = f
          go true f = absurd (not_none (sym f ∙ get-empty nat_cmp p))

pub step_files : (st : State) (thread limbo : ℕ) (c : Call) → HaveFiles st → HaveFiles (step st thread c limbo).1
step_files st thread limbo c h = by_step HaveFiles st thread c limbo h (λ passed. after_have st thread limbo h c passed)

pub files_after : (st : State) (es : List Entry) → HaveFiles st → HaveFiles (after st es)
files_after st [] h = h
files_after st (e ∷ es) h = files_after (entry_step st e).1 es (step_files st e.thread (limbo_of e.reply) e.call h)
