-- The references that a transaction leaves are those of the pages that none of its operations maps or unmaps.
use Rattle.std.proofs.Common.{◌≡◌, ℕ, zero, suc, ◌+◌, ◌-◌, ◌/◌, Bool, true, false, cond, not, ◌||◌, List, [], ◌∷◌, ◌++◌, map, refl, sym, ap, ◌∙◌, arith}
use Rattle.std.specs.Prelude.{Option, Some, None}
use Rattle.std.specs.List.{filter}
use Rattle.std.specs.Option.{option_map, option_map_or}
use Rattle.std.specs.Cmp.{nat_eq_equiv}
use Rattle.std.specs.FinMap as fin
use Rattle.std.proofs.lemmas.List.Elements.{filter-append}
use Rattle.corten_base.specs.declared.permissions.Perm.{Perm}
use Rattle.corten_base.specs.declared.calls.Backing.{Backing}
use Rattle.corten_base.specs.declared.calls.Call.TheVariants as call
use Rattle.corten_base.specs.declared.calls.TxnOp.{TxnOp}
use Rattle.corten_base.specs.declared.calls.TxnOp.TheVariants as op
use Rattle.table_place.specs.Range.{within}
use Rattle.table_place.specs.Place.{pages_of}
use Rattle.page_map.specs.declared.cell.Cell.{Cell}
use Rattle.page_map.specs.declared.cell.Cell.TheVariants.{Anon, File, Mapped, Swapped}
use Rattle.page_map.specs.Cell.{AddressSpace, frame_of, slot_of, contents, backed, with_perm}
use Rattle.page_map.specs.Mapping.{after_op, after_ops}
use Rattle.page_map.specs.State.{State, space_at}
use Rattle.page_map.specs.Effect.{state_after}
use Rattle.page_map.proofs.Cells.{spaces_changed}
use Rattle.page_map.proofs.Range.{get-change}
use Rattle.machine_plan.specs.declared.kit.Change.TheVariants as change
use Rattle.machine_plan.specs.Uses.{Ref, uses_page, used_cells, ref_at, refs_of}
use Rattle.book.specs.Rearranging.{remakes, is_remade}
use Rattle.book.proofs.Gathered.{gather, gather_same, here, bound}
use Rattle.book.proofs.UsedRefs.{used_ref, refs_by_page}

pub same_frame : (perm : Perm) (c : Cell) → frame_of (with_perm perm c) ≡ frame_of c
same_frame perm (Anon p) = refl
same_frame perm (File p file index) = refl
same_frame perm (Mapped p origin frame bytes) = refl
same_frame perm (Swapped p origin slot bytes) = refl

pub same_slot : (perm : Perm) (c : Cell) → slot_of (with_perm perm c) ≡ slot_of c
same_slot perm (Anon p) = refl
same_slot perm (File p file index) = refl
same_slot perm (Mapped p origin frame bytes) = refl
same_slot perm (Swapped p origin slot bytes) = refl

module _ (number_of : Cell → Option ℕ) (no_number : (what : Backing) (perm : Perm) (i : ℕ) → number_of (backed what perm i) ≡ None) (same_number : (perm : Perm) (c : Cell) → number_of (with_perm perm c) ≡ number_of c) (uses : ℕ → Bool) where
  abbrev at_cell : ℕ → Option Cell → List Ref
  at_cell k o = option_map_or (used_ref number_of uses k) o []

  bare : (k : ℕ) (c : Cell) → number_of c ≡ None → at_cell k (Some c) ≡ []
  bare k c none = go (uses k) (ap (λ o. option_map_or (λ n. (k, (n, contents [] c)) ∷ []) o []) none)
    where
      go : (b : Bool) → ref_at number_of (k, c) ≡ [] → cond b (ref_at number_of (k, c)) [] ≡ []
      go true e = e
      go false e = refl

  alike : (k : ℕ) (perm : Perm) (c : Cell) → at_cell k (Some (with_perm perm c)) ≡ at_cell k (Some c)
  alike k perm c = ap (λ l. cond (uses k) l []) (λ i. option_map_or (λ n. (k, (n, bytes c i)) ∷ []) (same_number perm c i) [])
    where
      bytes : (c : Cell) → contents [] (with_perm perm c) ≡ contents [] c
      bytes (Anon p) = refl
      bytes (File p file index) = refl
      bytes (Mapped p origin frame b) = refl
      bytes (Swapped p origin slot b) = refl

  at_op : (o : TxnOp) (cells : AddressSpace) (k : ℕ) → here (used_ref number_of uses) (after_op o cells) k ≡ cond (remakes (change.Op o) k) [] (here (used_ref number_of uses) cells k)
  unfolding after_op
  at_op (op.Map at fresh len perm what) cells k =
      ap (at_cell k) (get-change cells (at / 4096) (pages_of len) (λ page _. Some (backed what perm (page - at / 4096))) k) ∙ go (within (at / 4096) (pages_of len) k)
    where
      go : (b : Bool) → at_cell k (cond b (Some (backed what perm (k - at / 4096))) (fin.get cells k)) ≡ cond b [] (at_cell k (fin.get cells k))
      go true = bare k (backed what perm (k - at / 4096)) (no_number what perm (k - at / 4096))
      go false = refl
  at_op (op.Unmap at len) cells k = ap (at_cell k) (get-change cells (at / 4096) (pages_of len) (λ page _. None) k) ∙ go (within (at / 4096) (pages_of len) k)
    where
      go : (b : Bool) → at_cell k (cond b None (fin.get cells k)) ≡ cond b [] (at_cell k (fin.get cells k))
      go true = refl
      go false = refl
  at_op (op.Protect at len perm) cells k = ap (at_cell k) (get-change cells (at / 4096) (pages_of len) (λ page. option_map (with_perm perm)) k) ∙ go (within (at / 4096) (pages_of len) k) (fin.get cells k)
    where
      go : (b : Bool) (o : Option Cell) → at_cell k (cond b (option_map (with_perm perm) o) o) ≡ at_cell k o
      go true None = refl
      go true (Some c) = alike k perm c
      go false o = refl

  at_ops : (ops : List TxnOp) (cells : AddressSpace) (k : ℕ) → here (used_ref number_of uses) (after_ops ops cells) k ≡ cond (is_remade (map change.Op ops) k) [] (here (used_ref number_of uses) cells k)
  at_ops [] cells k = refl
  at_ops (o ∷ os) cells k =
      at_ops os (after_op o cells) k ∙ ap (λ l. cond (is_remade (map change.Op os) k) [] l) (at_op o cells k)
      ∙ go (remakes (change.Op o) k) (is_remade (map change.Op os) k) (here (used_ref number_of uses) cells k)
    where
      go : (a b : Bool) (l : List Ref) → cond b [] (cond a [] l) ≡ cond (a || b) [] l
      go true true l = refl
      go true false l = refl
      go false b l = refl

  -- the references of the pages that are not made anew
  module _ (goes : ℕ → Bool) (cells : AddressSpace) where
    one_page : (k : ℕ) → filter (λ (r : Ref). not (goes r.0)) (here (used_ref number_of uses) cells k) ≡ cond (goes k) [] (here (used_ref number_of uses) cells k)
    one_page k = go (fin.get cells k)
      where
        either : (r : Ref) (b : Bool) → filter (λ (r : Ref). not b) (r ∷ []) ≡ cond b [] (r ∷ [])
        either r true = refl
        either r false = refl

        nothing : (b : Bool) → ◌≡◌ {A = List Ref} [] (cond b [] [])
        nothing true = refl
        nothing false = refl

        number : (c : Cell) (o : Option ℕ) → filter (λ (r : Ref). not (goes r.0)) (option_map_or (λ n. (k, (n, contents [] c)) ∷ []) o []) ≡ cond (goes k) [] (option_map_or (λ n. (k, (n, contents [] c)) ∷ []) o [])
        number c None = nothing (goes k)
        number c (Some n) = either (k, (n, contents [] c)) (goes k)

        used : (c : Cell) (b : Bool) → filter (λ (r : Ref). not (goes r.0)) (cond b (ref_at number_of (k, c)) []) ≡ cond (goes k) [] (cond b (ref_at number_of (k, c)) [])
        used c true = number c (number_of c)
        used c false = nothing (goes k)

        go : (o : Option Cell) → filter (λ (r : Ref). not (goes r.0)) (at_cell k o) ≡ cond (goes k) [] (at_cell k o)
        go None = nothing (goes k)
        go (Some c) = used c (uses k)

    rest : (low n : ℕ) → filter (λ (r : Ref). not (goes r.0)) (gather (here (used_ref number_of uses) cells) low n) ≡ gather (λ k. cond (goes k) [] (here (used_ref number_of uses) cells k)) low n
    unfolding gather
    rest low zero = refl
    rest low (suc n) =
        filter-append (λ (r : Ref). not (goes r.0)) (here (used_ref number_of uses) cells low) (gather (here (used_ref number_of uses) cells) (low + 1) n)
        ∙ (λ i. one_page low i ++ rest (low + 1) n i)

  refs_after : (ops : List TxnOp) (cells : AddressSpace) → refs_of number_of (filter (λ e. uses e.0) (fin.entries (after_ops ops cells))) ≡ filter (λ (r : Ref). not (is_remade (map change.Op ops) r.0)) (refs_of number_of (filter (λ e. uses e.0) (fin.entries cells)))
  refs_after ops cells =
      let n = bound (used_ref number_of uses) cells + bound (used_ref number_of uses) (after_ops ops cells) in
      refs_by_page number_of uses (after_ops ops cells) n (omega arith)
      ∙ gather_same _ _ 0 n (λ k a b. at_ops ops cells k)
      ∙ sym (rest (is_remade (map change.Op ops)) cells 0 n)
      ∙ ap (filter (λ (r : Ref). not (is_remade (map change.Op ops) r.0))) (sym (refs_by_page number_of uses cells n (omega arith)))

module _ (number_of : Cell → Option ℕ) (no_number : (what : Backing) (perm : Perm) (i : ℕ) → number_of (backed what perm i) ≡ None) (same_number : (perm : Perm) (c : Cell) → number_of (with_perm perm c) ≡ number_of c) where
  pub after_txn : (st : State) (thread space at len : ℕ) (ops : List TxnOp) →
      refs_of number_of (used_cells st (state_after st thread (call.Txn space at len ops)) thread (call.Txn space at len ops))
      ≡ filter (λ (r : Ref). not (is_remade (map change.Op ops) r.0)) (refs_of number_of (used_cells st st thread (call.Txn space at len ops)))
  unfolding state_after
  after_txn st thread space at len ops =
      ap (λ (m : AddressSpace). refs_of number_of (filter (λ e. uses_page st thread (call.Txn space at len ops) space e.0) (fin.entries m)))
      (spaces_changed st space (after_ops ops (space_at st space)) (state_after st thread (call.Txn space at len ops)).tables space ∙ ap (λ b. cond b (after_ops ops (space_at st space)) (space_at st space)) (nat_eq_equiv.refl space))
      ∙ refs_after number_of no_number same_number (uses_page st thread (call.Txn space at len ops) space) ops (space_at st space)
