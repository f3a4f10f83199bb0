-- What an access does to counts and kit, and its reply, by the kind of access.
use Rattle.std.proofs.Common.{◌≡◌, ℕ, ◌≤◌, ◌<◌, ◌+◌, true, false, List, [], length, get_or, refl, sym, ap, subst, ◌∙◌, arith}
use mathlib.Core.Bool.{true≢false}
use Rattle.std.specs.Prelude.{Some}
use Rattle.corten_base.specs.declared.calls.Call.{Call}
use Rattle.corten_base.specs.declared.calls.Call.TheVariants as call
use Rattle.corten_base.specs.declared.calls.Reply.TheVariants as reply
use Rattle.counted_pages.specs.Pages.{PageCounts}
use Rattle.page_map.specs.Access.{Access}
use Rattle.page_map.specs.Effect.{answer}
use Rattle.page_map.specs.State.{State}
use Rattle.page_map.proofs.Owners.{same_some}
use Rattle.machine_plan.specs.declared.kit.Kit.{Kit}
use Rattle.machine_plan.specs.Books.{BookData, state_of}
use Rattle.machine_plan.specs.Kits.{IsServed}
use Rattle.book.specs.Filling.{bytes_of}
use Rattle.book.specs.Settling.{Settles}
use Rattle.book.specs.Storing.{AreTouched, byte_from}
use Rattle.book.specs.Touching.{MayFill, Fills, MayStore, StoresAll, is_access, IsAccess}
use Rattle.book.proofs.AccessCalls.{IsAccessCall, load_call, store_call, fault_call}
use Rattle.book.proofs.AccessLoads.{read_is}
use Rattle.book.proofs.AccessSettles.{may_fill_at}
use Rattle.book.proofs.AccessStores.{own_touched, came_touched, settles_unstored, may_store, settles_stored}

record Chosen (st : State) (thread : ℕ) (c : Call) : Type 0 where
  space : ℕ
  acc : Access
  is : IsAccessCall st thread c space acc
  some : 1 ≤ acc.len

chosen : (st : State) (thread : ℕ) (c : Call) → is_access c ≡ true → IsServed c → Chosen st thread c
chosen st thread (call.Load space at len) h s = record { space = space; acc = record { at = at; len = len; write = false; stored = [] }; is = load_call st thread space at len; some = s.0 }
chosen st thread (call.Store space at bytes) h s = record { space = space; acc = record { at = at; len = length bytes; write = true; stored = bytes }; is = store_call st thread space at bytes; some = s.0 }
chosen st thread (call.Fault space at write) h s = record { space = space; acc = record { at = at; len = 1; write = write; stored = [] }; is = fault_call st thread space at write; some = omega arith }
chosen st thread (call.Map space where_to len perm what) h s = absurd (true≢false (sym h))
chosen st thread (call.Unmap space at len) h s = absurd (true≢false (sym h))
chosen st thread (call.Protect space at len perm) h s = absurd (true≢false (sym h))
chosen st thread call.Spawn h s = absurd (true≢false (sym h))
chosen st thread (call.Fork space) h s = absurd (true≢false (sym h))
chosen st thread (call.Exit space) h s = absurd (true≢false (sym h))
chosen st thread (call.SwapOut space at len) h s = absurd (true≢false (sym h))
chosen st thread (call.SwapIn space at len) h s = absurd (true≢false (sym h))
chosen st thread (call.Txn space at len ops) h s = absurd (true≢false (sym h))
chosen st thread (call.DontNeed space at len) h s = absurd (true≢false (sym h))
chosen st thread (call.Remap space at old_len new_len) h s = absurd (true≢false (sym h))

module _ (a : BookData) (thread : ℕ) (pool area : PageCounts) (files : List (List ℕ)) (kit : Kit) where
  pub may_fill_for : (c : Call) → IsAccess a thread pool area files c kit → MayFill pool area kit
  may_fill_for c m =
      let x = chosen (state_of a) thread c m.access m.filled.served in
      subst (λ (p : PageCounts × PageCounts). MayFill p.0 p.1 kit) (λ i. (m.same_pool i, m.same_area i)) (may_fill_at a thread c kit m.book m.sum m.filled m.accepted x.space x.acc x.is)

  module _ (pool' area' : PageCounts) (mid : Kit) (f : Fills files pool area kit pool' area' mid) where
    at_book : (c : Call) → IsAccess a thread pool area files c kit → Fills a.files a.frames a.slots kit pool' area' mid
    at_book c m = subst (λ (p : List (List ℕ) × (PageCounts × PageCounts)). Fills p.0 p.1.0 p.1.1 kit pool' area' mid) (λ i. (sym m.same_files i, (sym m.same_pool i, sym m.same_area i))) f

    abbrev Ends : Call → Type 0
    Ends c = Settles a thread c kit pool' area' mid × (reply.Ok ≡ answer (state_of a) thread c)

    -- a page fault
    pub faulted : (c : Call) → IsAccess a thread pool area files c kit → ((space at len : ℕ) → c ≡ call.Load space at len → ⊥) → ((space at : ℕ) (bytes : List ℕ) → c ≡ call.Store space at bytes → ⊥) → Ends c
    unfolding answer
    faulted (call.Fault space at write) m no_load no_store =
        (settles_unstored a thread (call.Fault space at write) kit m.book m.sum m.filled m.accepted space _ (fault_call (state_of a) thread space at write) (omega arith) pool' area' mid (at_book (call.Fault space at write) m) refl mid refl, refl)
    faulted (call.Load space at len) m no_load no_store = absurd (no_load space at len refl)
    faulted (call.Store space at bytes) m no_load no_store = absurd (no_store space at bytes refl)
    faulted (call.Map space where_to len perm what) m no_load no_store = absurd (true≢false (sym m.access))
    faulted (call.Unmap space at len) m no_load no_store = absurd (true≢false (sym m.access))
    faulted (call.Protect space at len perm) m no_load no_store = absurd (true≢false (sym m.access))
    faulted call.Spawn m no_load no_store = absurd (true≢false (sym m.access))
    faulted (call.Fork space) m no_load no_store = absurd (true≢false (sym m.access))
    faulted (call.Exit space) m no_load no_store = absurd (true≢false (sym m.access))
    faulted (call.SwapOut space at len) m no_load no_store = absurd (true≢false (sym m.access))
    faulted (call.SwapIn space at len) m no_load no_store = absurd (true≢false (sym m.access))
    faulted (call.Txn space at len ops) m no_load no_store = absurd (true≢false (sym m.access))
    faulted (call.DontNeed space at len) m no_load no_store = absurd (true≢false (sym m.access))
    faulted (call.Remap space at old_len new_len) m no_load no_store = absurd (true≢false (sym m.access))

    -- a store
    module _ (space at : ℕ) (bytes given : List ℕ) (same : given ≡ bytes) (c : Call) (e : c ≡ call.Store space at bytes) (m : IsAccess a thread pool area files c kit) where
      abbrev the_store : Call
      the_store = call.Store space at bytes

      here : IsAccess a thread pool area files the_store kit
      here = subst (λ (c : Call). IsAccess a thread pool area files c kit) e m

      pub may_store_for : MayStore at given pool' mid
      may_store_for = subst (λ (l : List ℕ). MayStore at l pool' mid) (sym same)
          (may_store a thread the_store kit here.book here.sum here.filled here.accepted space _ (store_call (state_of a) thread space at bytes) here.filled.served.0 pool' area' mid (at_book the_store here) refl refl here.filled.served.1)

      pub stored_settles : (last_pool : PageCounts) (last : Kit) → StoresAll at given pool' mid last_pool last → Settles a thread c kit last_pool area' last
      stored_settles last_pool last stores = subst (λ (c : Call). Settles a thread c kit last_pool area' last) (sym e)
          (settles_stored a thread the_store kit here.book here.sum here.filled here.accepted space _ (store_call (state_of a) thread space at bytes) here.filled.served.0 pool' area' mid (at_book the_store here) refl refl here.filled.served.1 last_pool last
          (subst (λ (l : List ℕ). StoresAll at l pool' mid last_pool last) same stores))

      pub stored_answer : reply.Ok ≡ answer (state_of a) thread c
      unfolding answer
      stored_answer = ap (answer (state_of a) thread) (sym e)

    -- a load
    module _ (space at len : ℕ) (c : Call) (e : c ≡ call.Load space at len) (m : IsAccess a thread pool area files c kit) where
      abbrev the_load : Call
      the_load = call.Load space at len

      loads : IsAccess a thread pool area files the_load kit
      loads = subst (λ (c : Call). IsAccess a thread pool area files c kit) e m

      pub long_bytes : (list : List ℕ) → mid.bytes ≡ Some list → length list ≡ len
      long_bytes list is = let l = loads.filled.lists.0 in ap length (same_some (sym is ∙ ap (λ (k : Kit). k.bytes) f.same_kit ∙ l.1)) ∙ l.2

      pub long_copy : (list : List ℕ) → mid.copy ≡ Some list → length list ≡ len
      long_copy list is = let l = loads.filled.lists.1 in ap length (same_some (sym is ∙ ap (λ (k : Kit). k.copy) f.same_kit ∙ l.1)) ∙ l.2

      pub load_own_touched : (list : List ℕ) → length list ≡ len → AreTouched at (length list) mid.own_frames.items
      load_own_touched list long = subst (λ n. AreTouched at n mid.own_frames.items) (sym long)
          (own_touched a thread the_load kit loads.book loads.sum loads.filled loads.accepted space _ (load_call (state_of a) thread space at len) loads.filled.served.0 pool' area' mid (at_book the_load loads))

      pub load_came_touched : (list : List ℕ) → length list ≡ len → AreTouched at (length list) mid.frames.items
      load_came_touched list long = subst (λ n. AreTouched at n mid.frames.items) (sym long)
          (came_touched a thread the_load kit loads.book loads.sum loads.filled loads.accepted space _ (load_call (state_of a) thread space at len) loads.filled.served.0 pool' area' mid (at_book the_load loads))

      pub loaded_settles : (last : Kit) → last ≡ record mid { bytes = last.bytes; copy = last.copy } → Settles a thread c kit pool' area' last
      loaded_settles last same = subst (λ (c : Call). Settles a thread c kit pool' area' last) (sym e)
          (settles_unstored a thread the_load kit loads.book loads.sum loads.filled loads.accepted space _ (load_call (state_of a) thread space at len) loads.filled.served.0 pool' area' mid (at_book the_load loads) refl last same)

      pub loaded_answer : (list result : List ℕ) → length list ≡ len → length result ≡ length list →
          ((i : ℕ) → i < length list → get_or result i 0 ≡ byte_from (bytes_of mid.frames.items) (byte_from (bytes_of mid.own_frames.items) (get_or list i 0) (at + i)) (at + i)) → reply.Bytes result ≡ answer (state_of a) thread c
      unfolding answer
      loaded_answer list result long same each =
          ap reply.Bytes (read_is a thread the_load kit loads.book loads.sum loads.filled loads.accepted space _ (load_call (state_of a) thread space at len) loads.filled.served.0 pool' area' mid (at_book the_load loads) list result long same each)
          ∙ ap (answer (state_of a) thread) (sym e)
