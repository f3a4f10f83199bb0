-- How many page tables each call needs, from what its operation, its access or its ranges lack.
use Rattle.std.proofs.Common.{◌≡◌, ℕ, suc, zero, ◌+◌, ◌*◌, ◌/◌, ◌%◌, ◌^◌, ◌<◌, ◌≤◌, Bool, true, false, cond, not, List, [], ◌∷◌, length, refl, sym, ap, subst, ◌∙◌, arith}
use mathlib.Core.Bool.{true≢false}
use Rattle.std.specs.Prelude.{min, nat_le, nat_lt, Option, Some, None, is_some}
use Rattle.std.specs.Option.{unwrap_or, option_map, option_map_or}
use Rattle.std.specs.List.{Contains, AllByRecursion}
use Rattle.std.specs.FinSet as set
use Rattle.std.proofs.lemmas.Bool.{and_parts, and_from, eq-eqb, leb-true, false_from_ne_true, not-true}
use Rattle.corten_base.specs.declared.calls.Backing.{Backing}
use Rattle.corten_base.specs.declared.calls.Call.{Call}
use Rattle.corten_base.specs.declared.calls.Call.TheVariants as call
use Rattle.corten_base.specs.declared.calls.MapPlace.{MapPlace}
use Rattle.corten_base.specs.declared.calls.MapPlace.TheVariants as place
use Rattle.corten_base.specs.declared.calls.Reply.{Reply}
use Rattle.corten_base.specs.declared.calls.Reply.TheVariants as reply
use Rattle.corten_base.specs.declared.calls.TxnOp.{TxnOp}
use Rattle.corten_base.specs.declared.calls.TxnOp.TheVariants as op
use Rattle.corten_base.specs.declared.calls.Why.{Why}
use Rattle.corten_base.specs.declared.permissions.Perm.{Perm}
use Rattle.table_place.specs.Range.{lies_in}
use Rattle.table_place.specs.Place.{root, is_page_range, is_user_range, pages_of}
use Rattle.table_place.proofs.Tables.{in_range}
use Rattle.page_map.specs.Access.{Access, first_page, page_count, after_access}
use Rattle.page_map.specs.Alike.{unlike_tables}
use Rattle.page_map.specs.Effect.{wanted_tables, frame_grants}
use Rattle.page_map.specs.Mapping.{after_op, op_at, op_len, op_first, op_pages, is_right, is_right_within, is_mappable, is_length, is_backing, undone, arena_first}
use Rattle.page_map.specs.Spaces.{least_absent, copied_tables}
use Rattle.page_map.specs.State.{State, IsConsistent, levels, space_at, is_present}
use Rattle.page_map.specs.Tables.{need}
use Rattle.page_map.proofs.Gaps.{gap_in_arena}
use Rattle.page_map.proofs.Least.{least_passes}
use Rattle.page_map.proofs.Mappings.{none_undone, gap_user, user_few}
use Rattle.page_map.proofs.Steps.{not_none}
use Rattle.page_map.proofs.Unmapped.{held_of}
use Rattle.tree_lock.specs.declared.zone.Zone.TheVariants as zone
use Rattle.tree_lock.specs.Zone.{ZoneHas}
use Rattle.machine_plan.specs.HeldRows.{Row}
use Rattle.held_needs.specs.Operation.{OpLacks}
use Rattle.held_needs.specs.Several.{IsReached, AccessLacks, IsWithin, OpsLack}
use Rattle.held_needs.specs.Copies.{CopyNeeds}
use Rattle.held_needs.specs.Calls.{map_op, IsHeldFor, IsPlacedAt}
use Rattle.held_needs.proofs.Counted.{need_none, need_push}
use Rattle.held_needs.proofs.Early.{told, present, op_told, access_told, in_pages}

module _ (number : ℕ) (rows : List Row) (thread : ℕ) (st : State) (some : 4 ≤ number) where
  -- with the state's own number of levels
  own_levels : (c : Call) → IsHeldFor number rows thread c st → (space : ℕ) (o : TxnOp) (n : ℕ) → need (unlike_tables number space (after_op o (space_at st space))) st.tables ≡ n →
      need (unlike_tables (levels st) space (after_op o (space_at st space))) st.tables ≡ n
  own_levels c h space o n e = ap (λ k. need (unlike_tables k space (after_op o (space_at st space))) st.tables) h.state.same_levels ∙ e

  -- one operation
  op_needs : (c : Call) (space : ℕ) (o : TxnOp) (n : ℕ) → IsHeldFor number rows thread c st → OpLacks number rows o n → IsWithin number rows space o →
      need (unlike_tables (levels st) space (after_op o (space_at st space))) st.tables ≡ n
  op_needs c space o n h lacks told = own_levels c h space o n (lacks space st h.state told.right told.near told.far)

  right : (c : Call) (at len : ℕ) → IsHeldFor number rows thread c st → is_page_range (levels st) at len ≡ true → is_page_range number at len ≡ true
  right c at len h e = ap (λ k. is_page_range k at len) (sym h.state.same_levels) ∙ e

  pub unmap_needs : (space at len n : ℕ) → IsHeldFor number rows thread (call.Unmap space at len) st → OpLacks number rows (op.Unmap at len) n →
      need (wanted_tables st thread (call.Unmap space at len)) st.tables ≡ n
  unmap_needs space at len n h lacks =
      let c : Call = call.Unmap space at len in
      op_needs c space (op.Unmap at len) n h lacks (op_told number rows thread c st h space (op.Unmap at len) refl
      (right c at len h (held_of _ reply.Einval (told number rows thread c st h).arguments)) (in_pages space (at / 4096) (pages_of len) true))

  pub protect_needs : (space at len : ℕ) (perm : Perm) (n : ℕ) → IsHeldFor number rows thread (call.Protect space at len perm) st → OpLacks number rows (op.Protect at len perm) n →
      need (wanted_tables st thread (call.Protect space at len perm)) st.tables ≡ n
  protect_needs space at len perm n h lacks =
      let c : Call = call.Protect space at len perm in
      op_needs c space (op.Protect at len perm) n h lacks (op_told number rows thread c st h space (op.Protect at len perm) refl
      (right c at len h (held_of _ reply.Einval (told number rows thread c st h).arguments)) (in_pages space (at / 4096) (pages_of len) false))

  pub map_needs : (space : ℕ) (where_to : _) (len : ℕ) (perm : Perm) (what : Backing) (to n : ℕ) → IsHeldFor number rows thread (call.Map space where_to len perm what) st →
      IsPlacedAt st thread (call.Map space where_to len perm what) to → OpLacks number rows (map_op where_to to len perm what) n →
      need (wanted_tables st thread (call.Map space where_to len perm what)) st.tables ≡ n
  map_needs space (place.At at) len perm what to n h placed lacks =
      let c : Call = call.Map space (place.At at) len perm what in
      let o : TxnOp = op.Map at false len perm what in
      let fits = and_parts (is_mappable (levels st) st.files len what) (is_page_range (levels st) at len) (held_of _ reply.Einval (told number rows thread c st h).arguments) in
      op_needs c space o n h lacks (op_told number rows thread c st h space o refl (right c at len h fits.1) (in_pages space (at / 4096) (pages_of len) false))
  map_needs space (place.New at) len perm what to n h placed lacks =
      let c : Call = call.Map space (place.New at) len perm what in
      let o : TxnOp = op.Map at true len perm what in
      let fits = and_parts (is_mappable (levels st) st.files len what) (is_page_range (levels st) at len) (held_of _ reply.Einval (told number rows thread c st h).arguments) in
      op_needs c space o n h lacks (op_told number rows thread c st h space o refl (right c at len h fits.1) (in_pages space (at / 4096) (pages_of len) false))
  map_needs space place.Any len perm what to n h placed lacks =
      let c : Call = call.Map space place.Any len perm what in
      let o : TxnOp = op.Map (4096 * to) false len perm what in
      let fits = and_parts (is_length (levels st) len) (is_backing st.files what) (held_of _ reply.Einval (told number rows thread c st h).arguments) in
      let long = and_parts (nat_lt 0 len) (nat_le len (2 ^ (9 * levels st + 11))) fits.0 in
      let user = gap_user number thread (space_at st space) (pages_of len) to some h.known placed in
      ap (λ g. need (unlike_tables (levels st) space (after_op (op.Map (4096 * unwrap_or g 0) false len perm what) (space_at st space))) st.tables) placed
      ∙ op_needs c space o n h lacks (op_told number rows thread c st h space o refl
      (and_from _ _ (and_from _ _ (eq-eqb (4096 * to % 4096) 0 (aligned to)) long.0) (subst (λ p. is_user_range number p (pages_of len) ≡ true) (sym (page_of to)) user))
      (λ page w. in_arena page (in_range (4096 * to / 4096) (pages_of len) page w)))
    where
      aligned : (n : ℕ) → 4096 * n % 4096 ≡ 0
      aligned n = omega arith

      page_of : (n : ℕ) → 4096 * n / 4096 ≡ n
      page_of n = omega arith

      in_arena : (page : ℕ) → (4096 * to / 4096 ≤ page) × (page < 4096 * to / 4096 + pages_of len) → ZoneHas (zone.Pages space (arena_first thread) (2 ^ 27) false) space page
      in_arena page at =
          let arena = and_parts (nat_le (arena_first thread) to) (nat_le (to + pages_of len) (arena_first thread + 2 ^ 27)) (gap_in_arena thread (space_at st space) (pages_of len) to placed) in
          (refl, omega (arith, at.0, page_of to, leb-true (arena_first thread) to arena.0), omega (arith, at.1, page_of to, leb-true (to + pages_of len) (arena_first thread + 2 ^ 27) arena.1))

  -- the operations of a transaction
  all_at : {A : Type 0} (P : A → Type 0) (xs : List A) (x : A) → AllByRecursion P xs → Contains xs x → P x
  all_at P [] x all (n, inside, is) = absurd (omega (arith, inside))
  all_at P (y ∷ ys) x all (zero, inside, is) = subst P is all.0
  all_at P (y ∷ ys) x all (suc n, inside, is) = all_at P ys x all.1 (n, omega (arith, inside), is)

  range_right : (o : TxnOp) → is_right (levels st) st.files o ≡ true → is_page_range (levels st) (op_at o) (op_len o) ≡ true
  range_right (op.Map at fresh len perm what) e = (and_parts (is_mappable (levels st) st.files len what) (is_page_range (levels st) at len) e).1
  range_right (op.Unmap at len) e = e
  range_right (op.Protect at len perm) e = e

  abbrev fits : ℕ → ℕ → TxnOp → Bool
  fits first count o = is_right_within (levels st) st.files first count o

  pub txn_needs : (space at len : ℕ) (ops : List TxnOp) (n : ℕ) → IsHeldFor number rows thread (call.Txn space at len ops) st → OpsLack number rows ops n →
      need (wanted_tables st thread (call.Txn space at len ops)) st.tables ≡ n
  txn_needs space at len ops n h lacks = lacks space st h.state (λ o held. within_it o (all_at (λ o. fits (at / 4096) (pages_of len) o ≡ true) ops o each held))
    where
      not_undone : (u : Option (ℕ × Why)) → option_map {U = Reply} (λ v. reply.Undone v.0 v.1) u ≡ None → u ≡ None
      not_undone None e = refl
      not_undone (Some v) e = absurd (not_none e)

      each : AllByRecursion (λ o. fits (at / 4096) (pages_of len) o ≡ true) ops
      each = none_undone (fits (at / 4096) (pages_of len)) 1 ops (space_at st space) (not_undone (undone (fits (at / 4096) (pages_of len)) 1 ops (space_at st space)) (told number rows thread (call.Txn space at len ops) st h).pages)

      within_it : (o : TxnOp) → fits (at / 4096) (pages_of len) o ≡ true → IsWithin number rows space o
      within_it o e =
          let both = and_parts (is_right (levels st) st.files o) (lies_in (op_first o) (op_pages o) (at / 4096) (pages_of len)) e in
          let ends = and_parts (nat_le (at / 4096) (op_first o)) (nat_le (op_first o + op_pages o) (at / 4096 + pages_of len)) both.1 in
          op_told number rows thread (call.Txn space at len ops) st h space o refl (right (call.Txn space at len ops) (op_at o) (op_len o) h (range_right o both.0)) (λ page w.
          let here = in_range (op_first o) (op_pages o) page w in
          (refl, omega (arith, here.0, leb-true (at / 4096) (op_first o) ends.0), omega (arith, here.1, leb-true (op_first o + op_pages o) (at / 4096 + pages_of len) ends.1)))

  -- accesses
  access_needs : (c : Call) (space : ℕ) (a : Access) (n : ℕ) → IsHeldFor number rows thread c st → AccessLacks number rows a.at a.len n → IsReached number rows space st a →
      need (unlike_tables (levels st) space (after_access st.files (frame_grants st c) a (space_at st space))) st.tables ≡ n
  access_needs c space a n h lacks reached =
      ap (λ k. need (unlike_tables k space (after_access st.files (frame_grants st c) a (space_at st space))) st.tables) h.state.same_levels
      ∙ lacks space st (frame_grants st c) a refl refl h.state reached

  pub load_needs : (space at len n : ℕ) → IsHeldFor number rows thread (call.Load space at len) st → AccessLacks number rows at len n → need (wanted_tables st thread (call.Load space at len)) st.tables ≡ n
  load_needs space at len n h lacks =
      let c : Call = call.Load space at len in
      let a : Access = record { at = at; len = len; write = false; stored = [] } in
      let t = told number rows thread c st h in
      access_needs c space a n h lacks (access_told number rows thread c st h space a refl t.arguments t.pages (in_pages space (first_page a) (page_count a) false))

  pub store_needs : (space at : ℕ) (bytes : List ℕ) (n : ℕ) → IsHeldFor number rows thread (call.Store space at bytes) st → AccessLacks number rows at (length bytes) n →
      need (wanted_tables st thread (call.Store space at bytes)) st.tables ≡ n
  store_needs space at bytes n h lacks =
      let c : Call = call.Store space at bytes in
      let a : Access = record { at = at; len = length bytes; write = true; stored = bytes } in
      let t = told number rows thread c st h in
      access_needs c space a n h lacks (access_told number rows thread c st h space a refl t.arguments t.pages (in_pages space (first_page a) (page_count a) false))

  pub fault_needs : (space at : ℕ) (write : Bool) (n : ℕ) → IsHeldFor number rows thread (call.Fault space at write) st → AccessLacks number rows at 1 n →
      need (wanted_tables st thread (call.Fault space at write)) st.tables ≡ n
  fault_needs space at write n h lacks =
      let c : Call = call.Fault space at write in
      let a : Access = record { at = at; len = 1; write = write; stored = [] } in
      let t = told number rows thread c st h in
      access_needs c space a n h lacks (access_told number rows thread c st h space a refl t.arguments t.pages (in_pages space (first_page a) (page_count a) false))

  -- a new space
  pub root_missing : (new : ℕ) → least_absent st ≡ Some new → IsConsistent st → set.contains st.tables (root (levels st) new) ≡ false
  root_missing new e ok = false_from_ne_true _ (λ there. true≢false (sym (ok.absent (root (levels st) new) there) ∙ not-true (is_present st new) (least_passes 0 64 (λ s. not (is_present st s)) new e).2))

  pub spawn_needs : IsHeldFor number rows thread call.Spawn st → need (wanted_tables st thread call.Spawn) st.tables ≡ 1
  spawn_needs h = go (least_absent st) refl (held_of _ reply.NoSpaces (told number rows thread call.Spawn st h).spaces)
    where
      go : (o : Option ℕ) → least_absent st ≡ o → is_some o ≡ true → need (option_map_or (λ new. root (levels st) new ∷ []) o []) st.tables ≡ 1
      go None e some = absurd (true≢false (sym some))
      go (Some new) e some =
          need_push [] (root (levels st) new) st.tables
          ∙ (λ i. need_none st.tables i + cond {A = ℕ} (not (root_missing new e h.state.consistent i)) 1 0)

-- calls that add none
pub exit_needs : (st : State) (thread space : ℕ) → need (wanted_tables st thread (call.Exit space)) st.tables ≡ 0
exit_needs st thread space = need_none st.tables

module _ (number : ℕ) (rows : List Row) (thread : ℕ) (st : State) where
  pub fork_needs : (space n : ℕ) → IsHeldFor number rows thread (call.Fork space) st → CopyNeeds rows n → need (wanted_tables st thread (call.Fork space)) st.tables ≡ n
  fork_needs space n h needs = go (least_absent st) refl (held_of _ reply.NoSpaces (told number rows thread (call.Fork space) st h).spaces)
    where
      go : (o : Option ℕ) → least_absent st ≡ o → is_some o ≡ true → need (option_map_or (copied_tables st space) o []) st.tables ≡ n
      go None e some = absurd (true≢false (sym some))
      go (Some new) e some =
          needs number space new st h.state (h.one_space space refl) h.cover (present number rows thread (call.Fork space) st h space refl)
          (not-true (is_present st new) (least_passes 0 64 (λ s. not (is_present st s)) new e).2)

-- a page found in an arena is one of five levels
module _ (number : ℕ) (rows : List Row) (thread : ℕ) (st : State) (some : 4 ≤ number) (few : number ≤ 5) where
  pub placed_min : (space : ℕ) (where_to : MapPlace) (len : ℕ) (perm : Perm) (what : Backing) (to : ℕ) → IsHeldFor number rows thread (call.Map space where_to len perm what) st →
      IsPlacedAt st thread (call.Map space where_to len perm what) to → IsPlacedAt st thread (call.Map space where_to len perm what) (min to (2 ^ 45))
  placed_min space (place.At at) len perm what to h placed = tt
  placed_min space (place.New at) len perm what to h placed = tt
  placed_min space place.Any len perm what to h placed =
      placed ∙ ap (λ n. Some n) (least (user_few number to (pages_of len) few (gap_user number thread (space_at st space) (pages_of len) to some h.known placed)))
    where
      least : to + pages_of len < 2 ^ 44 → to ≡ min to (2 ^ 45)
      least small = omega (arith, small)
