-- Owner counts after each kind of call, by the references that it uses.
use Rattle.std.proofs.Common.{◌≡◌, ℕ, ◌+◌, ◌/◌, Bool, true, false, cond, not, List, [], ◌∷◌, refl, sym, ap, subst, ◌∙◌, arith}
use mathlib.Core.Bool.{true≢false}
use Rattle.std.specs.Prelude.{Option, Some, None, is_some, nat_eq, map}
use Rattle.std.specs.List.{count_by, filter}
use Rattle.std.specs.Option.{unwrap_or, option_map, option_map_or}
use Rattle.std.specs.Ordering.{nat_cmp}
use Rattle.std.specs.Cmp.{nat_cmp_total, unsigned_tied, nat_eq_equiv}
use Rattle.std.specs.FinMap as fin
use Rattle.std.specs.FinMap.{get-remove}
use Rattle.std.proofs.lemmas.Bool.{eqb-true, not-true}
use Rattle.corten_base.specs.declared.permissions.Perm.{Perm}
use Rattle.corten_base.specs.declared.calls.Call.{Call}
use Rattle.corten_base.specs.declared.calls.Call.TheVariants as call
use Rattle.corten_base.specs.declared.calls.TxnOp.TheVariants as op
use Rattle.table_place.specs.Range.{within}
use Rattle.table_place.specs.Place.{pages_of}
use Rattle.page_map.specs.declared.cell.Cell.{Cell}
use Rattle.page_map.specs.declared.cell.Cell.TheVariants.{Anon, File, Mapped, Swapped}
use Rattle.page_map.specs.Cell.{frame_of, slot_of, with_perm}
use Rattle.page_map.specs.Mapping.{after_op}
use Rattle.page_map.specs.State.{State, AddressSpace, carries, owners, space_at, cell_at, is_present}
use Rattle.page_map.specs.Spaces.{least_absent}
use Rattle.corten_base.specs.declared.calls.Reply.TheVariants as reply
use Rattle.page_map.specs.Step.{refused_unless}
use Rattle.page_map.specs.Takes.{Grant}
use Rattle.page_map.specs.Tables.{Tables}
use Rattle.page_map.specs.Effect.{state_after, frame_grants, slot_grants}
use Rattle.page_map.proofs.Range.{get-change}
use Rattle.page_map.proofs.Weights.{weight_insert}
use Rattle.page_map.proofs.Owners.{weight_at}
use Rattle.page_map.proofs.Evaluate.{entries_empty}
use Rattle.page_map.proofs.Steps.{Passed, passed}
use Rattle.page_map.proofs.Unmapped.{held_of}
use Rattle.page_map.proofs.Least.{least_passes}
use Rattle.page_map.proofs.Cells.{changed, cell_changed, spaces_changed}
use Rattle.page_map.proofs.Named.{after_unnamed}
use Rattle.machine_plan.specs.Uses.{uses_page, refs_of}
use Rattle.machine_plan.specs.Kits.{is_granted}
use Rattle.book.specs.Balance.{times}
use Rattle.book.specs.Follow.{UsedFollow, OwnersFollow}
use Rattle.book.proofs.Totals.{used_in, used_follow, times_parts, times_all}

some_of : {X : Type 0} (o : Option X) → is_some o ≡ true → (x : X) × (o ≡ Some x)
some_of None h = absurd (true≢false (sym h))
some_of (Some x) h = (x, refl)

none_of : {X : Type 0} (o : Option X) → is_some o ≡ false → o ≡ None
none_of None h = refl
none_of (Some x) h = absurd (true≢false h)

is_fork : Call → Bool
is_fork (call.Fork space) = true
is_fork (call.Map space where_to len perm what) = false
is_fork (call.Unmap space at len) = false
is_fork (call.Protect space at len perm) = false
is_fork (call.Load space at len) = false
is_fork (call.Store space at bytes) = false
is_fork (call.Fault space at write) = false
is_fork call.Spawn = false
is_fork (call.Exit space) = false
is_fork (call.SwapOut space at len) = false
is_fork (call.SwapIn space at len) = false
is_fork (call.Txn space at len ops) = false
is_fork (call.DontNeed space at len) = false
is_fork (call.Remap space at old_len new_len) = false

module _ (number_of : Cell → Option ℕ) (n : ℕ) where
  abbrev weight : Option Cell → ℕ
  weight o = option_map_or (λ c. cond (carries number_of n c) 1 0) o 0

  abbrev all : AddressSpace → ℕ
  all cells = count_by (carries number_of n) (fin.values cells)

  nothing : all fin.empty ≡ 0
  nothing = ap (λ es. count_by (carries number_of n) (map (λ e. e.1) es)) (entries_empty nat_cmp)

  module _ (st : State) (thread : ℕ) where
    -- the cells of one space change
    in_space : (c : Call) (space : ℕ) (cells : AddressSpace) (tables : Tables) → is_present st space ≡ true →
        ((q : ℕ) → uses_page st thread c space q ≡ false → weight (cell_at (changed st space cells tables) space q) ≡ weight (cell_at st space q)) →
        owners number_of (changed st space cells tables) n + times n (refs_of number_of (used_in number_of n (uses_page st thread c space) (space_at st space)))
        ≡ owners number_of st n + times n (refs_of number_of (used_in number_of n (uses_page st thread c space) (space_at (changed st space cells tables) space)))
    unfolding owners
    in_space c space cells tables here same =
        let was = some_of (fin.get st.spaces space) here in
        let old : space_at st space ≡ was.0 = ap (λ o. unwrap_or o fin.empty) was.1 in
        let new : space_at (changed st space cells tables) space ≡ cells = spaces_changed st space cells tables space ∙ ap (λ b. cond b cells (space_at st space)) (nat_eq_equiv.refl space) in
        let sums = weight_insert nat_cmp_total all st.spaces space cells in
        let gone : option_map_or all (fin.get st.spaces space) 0 ≡ all (space_at st space) = ap (λ o. option_map_or all o 0) was.1 ∙ ap all (sym old) in
        let come : all (space_at (changed st space cells tables) space) ≡ all cells = ap all new in
        let used = used_follow number_of n (uses_page st thread c space) (space_at st space) (space_at (changed st space cells tables) space) same in
        omega (arith, sums, gone, come, used)

    -- each call but a fork: the references that stay and those that came are those of the pages that it uses
    apart : (c : Call) (grants : Grant) (now : List (ℕ × Cell)) → times n (refs_of number_of (filter (λ e. not (is_granted grants e)) now)) + times n (refs_of number_of (filter (is_granted grants) now)) ≡ times n (refs_of number_of now)
    apart c grants now = let parts = times_parts number_of n (is_granted grants) now in omega (arith, parts)

    -- a space comes
    added : (space : ℕ) (cells : AddressSpace) (tables : Tables) → fin.get st.spaces space ≡ None → owners number_of (changed st space cells tables) n ≡ owners number_of st n + all cells
    unfolding owners
    added space cells tables absent =
        let sums = weight_insert nat_cmp_total all st.spaces space cells in
        let none : option_map_or all (fin.get st.spaces space) 0 ≡ 0 = ap (λ o. option_map_or all o 0) absent in
        omega (arith, sums, none)

    new_space : (limbo : ℕ) (c : Call) → Passed st thread c limbo → refused_unless (is_some (least_absent st)) reply.NoSpaces ≡ None → fin.get st.spaces (unwrap_or (least_absent st) 0) ≡ None
    new_space limbo c p some =
        let new = some_of (least_absent st) (held_of _ _ some) in
        let absent = not-true (is_present st new.0) (least_passes 0 64 (λ s. not (is_present st s)) new.0 new.1).2 in
        none_of _ (ap (λ o. is_present st (unwrap_or o 0)) new.1 ∙ absent)

    protected : ((p : Perm) (d : Cell) → number_of (with_perm p d) ≡ number_of d) → (space at len : ℕ) (perm : Perm) (tables : Tables) (q : ℕ) →
        weight (cell_at (changed st space (after_op (op.Protect at len perm) (space_at st space)) tables) space q) ≡ weight (cell_at st space q)
    unfolding after_op
    protected perms space at len perm tables q =
        ap weight (cell_changed st space (after_op (op.Protect at len perm) (space_at st space)) tables space q
        ∙ ap (λ b. cond b (fin.get (after_op (op.Protect at len perm) (space_at st space)) q) (cell_at st space q)) (nat_eq_equiv.refl space)
        ∙ get-change (space_at st space) (at / 4096) (pages_of len) (λ _. option_map (with_perm perm)) q)
        ∙ go (within (at / 4096) (pages_of len) q) (cell_at st space q)
      where
        go : (b : Bool) (o : Option Cell) → weight (cond b (option_map (with_perm perm) o) o) ≡ weight o
        go true None = refl
        go true (Some d) = ap (λ o. cond (option_map_or (λ m. nat_eq m n) o false) 1 0) (perms perm d)
        go false o = refl

    -- a space goes
    ended : (limbo : ℕ) (grants : Grant) (space : ℕ) → Passed st thread (call.Exit space) limbo → UsedFollow number_of st thread (call.Exit space) grants n
    unfolding state_after owners
    ended limbo grants space p =
        let was = some_of (fin.get st.spaces space) (held_of _ _ p.space) in
        let old : space_at st space ≡ was.0 = ap (λ o. unwrap_or o fin.empty) was.1 in
        let sums = weight_at all st.spaces space was.0 was.1 in
        let uses : ℕ → Bool = uses_page st thread (call.Exit space) space in
        let now : space_at (state_after st thread (call.Exit space)) space ≡ fin.empty = ap (λ (o : Option AddressSpace). unwrap_or o fin.empty)
        (get-remove nat_cmp_total st.spaces space space ∙ ap (λ b. cond b None (fin.get st.spaces space)) (unsigned_tied space space ∙ nat_eq_equiv.refl space)) in
        let used = used_follow number_of n uses (space_at st space) fin.empty (λ q h. absurd (true≢false (sym (nat_eq_equiv.refl space) ∙ h))) in
        let left : times n (refs_of number_of (used_in number_of n uses (space_at (state_after st thread (call.Exit space)) space))) ≡ times n (refs_of number_of (used_in number_of n uses fin.empty)) = ap (λ m. times n (refs_of number_of (used_in number_of n uses m))) now in
        let parts = apart (call.Exit space) grants (used_in number_of n uses (space_at (state_after st thread (call.Exit space)) space)) in
        let cells : all (space_at st space) ≡ all was.0 = ap all old in
        omega (arith, sums, used, left, parts, cells, nothing)

    none_granted : (es : List (ℕ × Cell)) → times n (refs_of number_of (filter (is_granted []) es)) ≡ 0
    none_granted [] = refl
    none_granted (e ∷ es) = none_granted es

    -- a space has a copy
    pub forked : (limbo : ℕ) (space : ℕ) → Passed st thread (call.Fork space) limbo → UsedFollow number_of st thread (call.Fork space) [] n
    unfolding state_after
    forked limbo space p =
        let new = new_space limbo (call.Fork space) p p.spaces in
        let k : ℕ = unwrap_or (least_absent st) 0 in
        let now : State = state_after st thread (call.Fork space) in
        let uses : ℕ → Bool = uses_page st thread (call.Fork space) space in
        let grown = added k (space_at st space) now.tables new in
        let copied : space_at now k ≡ space_at st space = spaces_changed st k (space_at st space) now.tables k ∙ ap (λ b. cond b (space_at st space) (space_at st k)) (nat_eq_equiv.refl k) in
        let differ : nat_eq space k ≡ false = apart_of (nat_eq space k) refl (held_of _ _ p.space) new in
        let stays : space_at now space ≡ space_at st space = spaces_changed st k (space_at st space) now.tables space ∙ ap (λ b. cond b (space_at st space) (space_at st space)) differ in
        let came : times n (refs_of number_of (fin.entries (space_at now k))) ≡ times n (refs_of number_of (fin.entries (space_at st space))) = ap (λ m. times n (refs_of number_of (fin.entries m))) copied in
        let every = times_all number_of n (fin.entries (space_at st space)) in
        let left : times n (refs_of number_of (used_in number_of n uses (space_at now space))) ≡ times n (refs_of number_of (used_in number_of n uses (space_at st space))) = ap (λ m. times n (refs_of number_of (used_in number_of n uses m))) stays in
        let parts = times_parts number_of n (is_granted []) (used_in number_of n uses (space_at now space)) in
        let none = none_granted (used_in number_of n uses (space_at now space)) in
        omega (arith, grown, came, every, left, parts, none)
      where
        apart_of : (b : Bool) → nat_eq space (unwrap_or (least_absent st) 0) ≡ b → is_present st space ≡ true → fin.get st.spaces (unwrap_or (least_absent st) 0) ≡ None → nat_eq space (unwrap_or (least_absent st) 0) ≡ false
        apart_of false e here gone = e
        apart_of true e here gone = absurd (true≢false (sym here ∙ ap (is_present st) (eqb-true space _ e) ∙ ap is_some gone))

    module _ (limbo : ℕ) (grants : Grant) where
      named : (c : Call) (space : ℕ) (cells : AddressSpace) (tables : Tables) → is_present st space ≡ true →
          ((q : ℕ) → uses_page st thread c space q ≡ false → weight (cell_at (changed st space cells tables) space q) ≡ weight (cell_at st space q)) →
          owners number_of (changed st space cells tables) n + times n (refs_of number_of (used_in number_of n (uses_page st thread c space) (space_at st space)))
          ≡ owners number_of st n + times n (refs_of number_of (filter (λ e. not (is_granted grants e)) (used_in number_of n (uses_page st thread c space) (space_at (changed st space cells tables) space))))
          + times n (refs_of number_of (filter (is_granted grants) (used_in number_of n (uses_page st thread c space) (space_at (changed st space cells tables) space))))
      named c space cells tables here same =
          let follow = in_space c space cells tables here same in
          let parts = apart c grants (used_in number_of n (uses_page st thread c space) (space_at (changed st space cells tables) space)) in
          omega (arith, follow, parts)

      pub named_kinds : (c : Call) → Passed st thread c limbo → ((p : Perm) (d : Cell) → number_of (with_perm p d) ≡ number_of d) → ((space : ℕ) → c ≡ call.Fork space → ⊥) → UsedFollow number_of st thread c grants n
      unfolding state_after
      named_kinds (call.Map space where_to len perm what) p perms fork =
          named (call.Map space where_to len perm what) space _ _ (held_of _ _ p.space) (λ q h. ap weight (after_unnamed st thread limbo space q (call.Map space where_to len perm what) h p))
      named_kinds (call.Unmap space at len) p perms fork =
          named (call.Unmap space at len) space _ _ (held_of _ _ p.space) (λ q h. ap weight (after_unnamed st thread limbo space q (call.Unmap space at len) h p))
      named_kinds (call.Protect space at len perm) p perms fork =
          named (call.Protect space at len perm) space _ _ (held_of _ _ p.space) (λ q h. protected perms space at len perm (state_after st thread (call.Protect space at len perm)).tables q)
      named_kinds (call.Load space at len) p perms fork =
          named (call.Load space at len) space _ _ (held_of _ _ p.space) (λ q h. ap weight (after_unnamed st thread limbo space q (call.Load space at len) h p))
      named_kinds (call.Store space at bytes) p perms fork =
          named (call.Store space at bytes) space _ _ (held_of _ _ p.space) (λ q h. ap weight (after_unnamed st thread limbo space q (call.Store space at bytes) h p))
      named_kinds (call.Fault space at write) p perms fork =
          named (call.Fault space at write) space _ _ (held_of _ _ p.space) (λ q h. ap weight (after_unnamed st thread limbo space q (call.Fault space at write) h p))
      named_kinds call.Spawn p perms fork =
          let new = new_space limbo call.Spawn p p.spaces in
          let grown = added (unwrap_or (least_absent st) 0) fin.empty (state_after st thread call.Spawn).tables new in
          omega (arith, grown, nothing)
      named_kinds (call.Fork space) p perms fork = absurd (fork space refl)
      named_kinds (call.Exit space) p perms fork = ended limbo grants space p
      named_kinds (call.SwapOut space at len) p perms fork =
          named (call.SwapOut space at len) space _ _ (held_of _ _ p.space) (λ q h. ap weight (after_unnamed st thread limbo space q (call.SwapOut space at len) h p))
      named_kinds (call.SwapIn space at len) p perms fork =
          named (call.SwapIn space at len) space _ _ (held_of _ _ p.space) (λ q h. ap weight (after_unnamed st thread limbo space q (call.SwapIn space at len) h p))
      named_kinds (call.Txn space at len ops) p perms fork =
          named (call.Txn space at len ops) space _ _ (held_of _ _ p.space) (λ q h. ap weight (after_unnamed st thread limbo space q (call.Txn space at len ops) h p))
      named_kinds (call.DontNeed space at len) p perms fork =
          named (call.DontNeed space at len) space _ _ (held_of _ _ p.space) (λ q h. ap weight (after_unnamed st thread limbo space q (call.DontNeed space at len) h p))
      named_kinds (call.Remap space at old_len new_len) p perms fork =
          named (call.Remap space at old_len new_len) space _ _ (held_of _ _ p.space) (λ q h. ap weight (after_unnamed st thread limbo space q (call.Remap space at old_len new_len) h p))

pub owners_follow : OwnersFollow
unfolding is_fork
owners_follow st thread c limbo none = let p = passed st thread c limbo none in (
  (λ n. go frame_of (frame_grants st c) n c p same_frame (λ space e. subst (λ d. frame_grants st d ≡ []) (sym e) refl)),
  (λ n. go slot_of (slot_grants st c) n c p same_slot (λ space e. subst (λ d. slot_grants st d ≡ []) (sym e) refl)),
)
  where
    same_frame : (p : Perm) (d : Cell) → frame_of (with_perm p d) ≡ frame_of d
    same_frame p (Anon q) = refl
    same_frame p (File q file index) = refl
    same_frame p (Mapped q origin frame bytes) = refl
    same_frame p (Swapped q origin slot bytes) = refl

    same_slot : (p : Perm) (d : Cell) → slot_of (with_perm p d) ≡ slot_of d
    same_slot p (Anon q) = refl
    same_slot p (File q file index) = refl
    same_slot p (Mapped q origin frame bytes) = refl
    same_slot p (Swapped q origin slot bytes) = refl

    differs : (d : Call) (space : ℕ) → is_fork d ≡ false → d ≡ call.Fork space → ⊥
    differs d space h e = true≢false (sym (ap is_fork e) ∙ h)

    go : (number_of : Cell → Option ℕ) (grants : Grant) (n : ℕ) (d : Call) → Passed st thread d limbo → ((p : Perm) (x : Cell) → number_of (with_perm p x) ≡ number_of x) → ((space : ℕ) → d ≡ call.Fork space → grants ≡ []) → UsedFollow number_of st thread d grants n
    go number_of grants n (call.Fork space) p perms none = subst (λ (g : Grant). UsedFollow number_of st thread (call.Fork space) g n) (sym (none space refl)) (forked number_of n st thread limbo space p)
    go number_of grants n (call.Map space where_to len perm what) p perms none = named_kinds number_of n st thread limbo grants (call.Map space where_to len perm what) p perms (λ s. differs (call.Map space where_to len perm what) s refl)
    go number_of grants n (call.Unmap space at len) p perms none = named_kinds number_of n st thread limbo grants (call.Unmap space at len) p perms (λ s. differs (call.Unmap space at len) s refl)
    go number_of grants n (call.Protect space at len perm) p perms none = named_kinds number_of n st thread limbo grants (call.Protect space at len perm) p perms (λ s. differs (call.Protect space at len perm) s refl)
    go number_of grants n (call.Load space at len) p perms none = named_kinds number_of n st thread limbo grants (call.Load space at len) p perms (λ s. differs (call.Load space at len) s refl)
    go number_of grants n (call.Store space at bytes) p perms none = named_kinds number_of n st thread limbo grants (call.Store space at bytes) p perms (λ s. differs (call.Store space at bytes) s refl)
    go number_of grants n (call.Fault space at write) p perms none = named_kinds number_of n st thread limbo grants (call.Fault space at write) p perms (λ s. differs (call.Fault space at write) s refl)
    go number_of grants n call.Spawn p perms none = named_kinds number_of n st thread limbo grants call.Spawn p perms (λ s. differs call.Spawn s refl)
    go number_of grants n (call.Exit space) p perms none = named_kinds number_of n st thread limbo grants (call.Exit space) p perms (λ s. differs (call.Exit space) s refl)
    go number_of grants n (call.SwapOut space at len) p perms none = named_kinds number_of n st thread limbo grants (call.SwapOut space at len) p perms (λ s. differs (call.SwapOut space at len) s refl)
    go number_of grants n (call.SwapIn space at len) p perms none = named_kinds number_of n st thread limbo grants (call.SwapIn space at len) p perms (λ s. differs (call.SwapIn space at len) s refl)
    go number_of grants n (call.Txn space at len ops) p perms none = named_kinds number_of n st thread limbo grants (call.Txn space at len ops) p perms (λ s. differs (call.Txn space at len ops) s refl)
    go number_of grants n (call.DontNeed space at len) p perms none = named_kinds number_of n st thread limbo grants (call.DontNeed space at len) p perms (λ s. differs (call.DontNeed space at len) s refl)
    go number_of grants n (call.Remap space at old_len new_len) p perms none = named_kinds number_of n st thread limbo grants (call.Remap space at old_len new_len) p perms (λ s. differs (call.Remap space at old_len new_len) s refl)
