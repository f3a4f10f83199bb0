-- The changes of a call of one range lead to the state after it.
--     ranged_steps      the law of `specs/Between.antt`
use Rattle.std.specs.Prelude.{◌≡◌, ◌≢◌, ℕ, ◌+◌, ◌*◌, ◌/◌, ◌^◌, ◌<◌, ◌≤◌, ◌&&◌, Bool, true, false, cond, not, nat_eq, nat_lt, nat_le, List, [], ◌∷◌, length, is_some, Option, Some, None}
use Rattle.std.specs.Option.{unwrap_or}
use Rattle.std.specs.FinMap.{get}
use Rattle.std.specs.FinSet as set
use Rattle.std.proofs.Common.{sym, refl, ◌∙◌, ap, subst, arith, eq-eqb}
use Rattle.std.proofs.lemmas.Bool.{true≢false, false≢true, and_parts, leb-true}
use Rattle.corten_base.specs.declared.permissions.Perm.{Perm}
use Rattle.corten_base.specs.declared.calls.Backing.{Backing}
use Rattle.corten_base.specs.declared.calls.Backing.TheVariants as backing
use Rattle.corten_base.specs.declared.calls.Call.{Call}
use Rattle.corten_base.specs.declared.calls.Call.TheVariants as call
use Rattle.corten_base.specs.declared.calls.MapPlace.{MapPlace}
use Rattle.corten_base.specs.declared.calls.MapPlace.TheVariants as place
use Rattle.corten_base.specs.declared.calls.TxnOp.{TxnOp}
use Rattle.corten_base.specs.declared.calls.TxnOp.TheVariants as op
use Rattle.page_map.specs.Cell.{AddressSpace}
use Rattle.page_map.specs.Effect.{space_of, placed_at, is_new, is_given_up, wanted_tables, state_after}
use Rattle.page_map.specs.Mapping.{after_op, gap, is_backing, is_length, is_mappable, op_first, op_pages}
use Rattle.page_map.specs.DontNeed.{given_back}
use Rattle.page_map.specs.State.{State, IsConsistent, levels, space_at, cell_at, is_present}
use Rattle.page_map.specs.Step.{refusal}
use Rattle.page_map.specs.Tables.{Tables}
use Rattle.page_map.proofs.Cells.{changed, cell_changed}
use Rattle.page_map.proofs.Growth.{stays}
use Rattle.page_map.proofs.Mappings.{page_range, user_few, gap_user}
use Rattle.page_map.proofs.Steps.{Passed, passed}
use Rattle.page_map.proofs.Unmapped.{held_of}
use Rattle.table_place.specs.declared.Place.{Place}
use Rattle.table_place.specs.Place.{root, is_inside, is_user_range, is_page_range, pages_of}
use Rattle.table_place.specs.Range.{within}
use Rattle.table_place.proofs.Tables.{inside_parts}
use Rattle.machine_plan.specs.declared.kit.Change.{Change}
use Rattle.machine_plan.specs.declared.kit.Change.TheVariants.{Op, Reset, GiveUp}
use Rattle.machine_plan.specs.Changes.{made_by}
use Rattle.machine_plan.specs.Given.{IsRemoved}
use Rattle.machine_plan.specs.Uses.{uses_page, changes_of}
use Rattle.cursor_apply.specs.declared.becoming.Making.{Making}
use Rattle.cursor_apply.specs.declared.becoming.Making.TheVariants.{Back, Clear, Permit, GiveBack}
use Rattle.cursor_apply.specs.declared.becoming.RangeChange.{RangeChange}
use Rattle.cursor_apply.specs.Between.{IsBetween, is_ranged, RangedSteps}
use Rattle.cursor_apply.specs.Changed.{LiesIn, IsChange, Steps, all_clean, op_change, range_change}
use Rattle.cursor_apply.specs.Changing.{IsNear, IsNearAll}
use Rattle.cursor_apply.proofs.Between.{leads}

pub near_of : (files : List (List ℕ)) (what : Backing) (count : ℕ) → is_backing files what ≡ true → count < 2 ^ 46 → (i : ℕ) → i < count → IsNear what i
near_of files backing.Zero count right few i low = tt
near_of files (backing.File file index) count right few i low = let small = leb-true index (2 ^ 40) (and_parts (nat_lt file (length files)) (nat_le index (2 ^ 40)) right).1 in omega arith

module _ (old : State) (thread space : ℕ) (was : IsConsistent old) where
  -- ---- the state after the call

  at_own : (cells : AddressSpace) (tables : Tables) (page : ℕ) → cell_at (changed old space cells tables) space page ≡ get cells page
  at_own cells tables page = cell_changed old space cells tables space page ∙ ap (λ t. cond t (get cells page) (cell_at old space page)) (eq-eqb space space refl)

  cells_map : (where_to : MapPlace) (len : ℕ) (perm : Perm) (what : Backing) (page : ℕ) → cell_at (state_after old thread (call.Map space where_to len perm what)) space page
      ≡ get (made_by (Op (op.Map (placed_at old thread space where_to len) (is_new where_to) len perm what)) (space_at old space)) page
  unfolding state_after
  cells_map where_to len perm what page = at_own (after_op (op.Map (placed_at old thread space where_to len) (is_new where_to) len perm what) (space_at old space)) (state_after old thread (call.Map space where_to len perm what)).tables page

  cells_unmap : (at len page : ℕ) → cell_at (state_after old thread (call.Unmap space at len)) space page ≡ get (made_by (Op (op.Unmap at len)) (space_at old space)) page
  unfolding state_after
  cells_unmap at len page = at_own (after_op (op.Unmap at len) (space_at old space)) (state_after old thread (call.Unmap space at len)).tables page

  cells_protect : (at len : ℕ) (perm : Perm) (page : ℕ) → cell_at (state_after old thread (call.Protect space at len perm)) space page ≡ get (made_by (Op (op.Protect at len perm)) (space_at old space)) page
  unfolding state_after
  cells_protect at len perm page = at_own (after_op (op.Protect at len perm) (space_at old space)) (state_after old thread (call.Protect space at len perm)).tables page

  cells_given : (at len page : ℕ) → cell_at (state_after old thread (call.DontNeed space at len)) space page ≡ get (made_by (Reset (at / 4096) (pages_of len)) (space_at old space)) page
  unfolding state_after
  cells_given at len page = at_own (given_back (at / 4096) (pages_of len) (space_at old space)) (state_after old thread (call.DontNeed space at len)).tables page

  same_levels : (c : Call) → levels (state_after old thread c) ≡ levels old
  unfolding state_after
  same_levels c = refl

  pub gone : (c : Call) (p : Place) → IsRemoved old (state_after old thread c) p → is_given_up old c p ≡ true
  unfolding state_after
  gone c p r = go (is_given_up old c p) refl
    where
      go : (t : Bool) → is_given_up old c p ≡ t → is_given_up old c p ≡ true
      go true e = e
      go false e = absurd (true≢false (sym (stays (is_given_up old c) (wanted_tables old thread c) old.tables p r.0 e) ∙ r.1))

  -- the root of the space stays
  top_stays : (c : Call) → is_present old space ≡ true → (is_given_up old c (root (levels old) space) ≡ true → ⊥) → set.contains (state_after old thread c).tables (root (levels (state_after old thread c)) space) ≡ true
  top_stays c here never = ap (λ n. set.contains (state_after old thread c).tables (root n space)) (same_levels c) ∙ go (set.contains (state_after old thread c).tables (root (levels old) space)) refl
    where
      go : (t : Bool) → set.contains (state_after old thread c).tables (root (levels old) space) ≡ t → t ≡ true
      go true e = refl
      go false e = absurd (never (gone c (root (levels old) space) (was.roots space here, e)))

  few_of : (first count : ℕ) → is_user_range (levels old) first count ≡ true → first + count < 2 ^ 46
  few_of first count user = let few = user_few (levels old) first count was.few_levels user in omega arith

  at_place : (at len : ℕ) (perm : Perm) (what : Backing) → (is_mappable (levels old) old.files len what && is_page_range (levels old) at len) ≡ true
      → (is_user_range (levels old) (at / 4096) (pages_of len) ≡ true) × (is_backing old.files what ≡ true)
  at_place at len perm what right =
      let both = and_parts (is_mappable (levels old) old.files len what) (is_page_range (levels old) at len) right in
      ((page_range (levels old) at len both.1).0, (and_parts (is_length (levels old) len) (is_backing old.files what) both.0).1)

  -- where a mapping goes
  pub user_map : (limbo : ℕ) (where_to : MapPlace) (len : ℕ) (perm : Perm) (what : Backing) → thread < 8 → Passed old thread (call.Map space where_to len perm what) limbo
      → (is_user_range (levels old) (placed_at old thread space where_to len / 4096) (pages_of len) ≡ true) × (is_backing old.files what ≡ true)
  user_map limbo place.Any len perm what small ok =
      let right = and_parts (is_length (levels old) len) (is_backing old.files what) (held_of _ _ ok.arguments) in
      (go (gap thread (space_at old space) (pages_of len)) refl (held_of _ _ ok.place), right.1)
    where
      go : (o : Option ℕ) → gap thread (space_at old space) (pages_of len) ≡ o → is_some o ≡ true → is_user_range (levels old) (4096 * unwrap_or (gap thread (space_at old space) (pages_of len)) 0 / 4096) (pages_of len) ≡ true
      go None e h = absurd (true≢false (sym h))
      go (Some first) e h = ap (λ n. is_user_range (levels old) n (pages_of len)) (ap (λ (p : Option ℕ). 4096 * unwrap_or p 0 / 4096) e ∙ same first) ∙ gap_user (levels old) thread (space_at old space) (pages_of len) first was.some_levels small e
        where
          same : (n : ℕ) → 4096 * n / 4096 ≡ n
          same n = omega arith
  user_map limbo (place.At at) len perm what small ok = at_place at len perm what (held_of _ _ ok.arguments)
  user_map limbo (place.New at) len perm what small ok = at_place at len perm what (held_of _ _ ok.arguments)

  -- ---- the changes

  map_steps : (st : State) (limbo : ℕ) (where_to : MapPlace) (len : ℕ) (perm : Perm) (what : Backing) → thread < 8 → IsConsistent (state_after old thread (call.Map space where_to len perm what)) → Passed old thread (call.Map space where_to len perm what) limbo
      → IsBetween old (state_after old thread (call.Map space where_to len perm what)) st space (uses_page old thread (call.Map space where_to len perm what) space)
      → Steps (changes_of old thread (call.Map space where_to len perm what)) space st (state_after old thread (call.Map space where_to len perm what))
  unfolding changes_of
  map_steps st limbo where_to len perm what small new ok between =
      let c = call.Map space where_to len perm what in
      let o = op.Map (placed_at old thread space where_to len) (is_new where_to) len perm what in
      let range = user_map limbo where_to len perm what small ok in
      let end = few_of (op_first o) (op_pages o) range.0 in (
        state_after old thread c,
        leads (Op o) (op_change o) refl space (uses_page old thread c space) old (state_after old thread c) st was new (same_levels c) (cells_map where_to len perm what) between
            (λ p r. absurd (false≢true (gone c p r))) (λ q page e. absurd (cc)) (λ page e. (and_parts (nat_eq space space) (within (op_first o) (op_pages o) page) e).1)
            (top_stays c (held_of _ _ ok.space) (λ e. false≢true e)) end (near_of old.files what (op_pages o) range.1 (omega (arith, end))),
        refl,
      )

  unmap_steps : (st : State) (limbo at len : ℕ) → IsConsistent (state_after old thread (call.Unmap space at len)) → Passed old thread (call.Unmap space at len) limbo
      → IsBetween old (state_after old thread (call.Unmap space at len)) st space (uses_page old thread (call.Unmap space at len) space)
      → Steps (changes_of old thread (call.Unmap space at len)) space st (state_after old thread (call.Unmap space at len))
  unfolding changes_of
  unmap_steps st limbo at len new ok between =
      let c = call.Unmap space at len in
      let o = op.Unmap at len in
      let user = (page_range (levels old) at len (held_of _ _ ok.arguments)).0 in (
        state_after old thread c,
        leads (Op o) (op_change o) refl space (uses_page old thread c space) old (state_after old thread c) st was new (same_levels c) (cells_unmap at len) between
            (λ p r. (refl, let parts = inside_parts (levels old) space (at / 4096) (pages_of len) p (gone c p r) in (parts.from, parts.to)))
            (λ q page e. absurd (cc)) (λ page e. (and_parts (nat_eq space space) (within (op_first o) (op_pages o) page) e).1)
            (top_stays c (held_of _ _ ok.space) (λ e. let parts = inside_parts (levels old) space (at / 4096) (pages_of len) (root (levels old) space) e in let low = parts.below in omega arith)) (few_of (op_first o) (op_pages o) user) (λ i low. tt),
        (state_after old thread c, refl, refl),
      )

  protect_steps : (st : State) (limbo at len : ℕ) (perm : Perm) → IsConsistent (state_after old thread (call.Protect space at len perm)) → Passed old thread (call.Protect space at len perm) limbo
      → IsBetween old (state_after old thread (call.Protect space at len perm)) st space (uses_page old thread (call.Protect space at len perm) space)
      → Steps (changes_of old thread (call.Protect space at len perm)) space st (state_after old thread (call.Protect space at len perm))
  unfolding changes_of
  protect_steps st limbo at len perm new ok between =
      let c = call.Protect space at len perm in
      let o = op.Protect at len perm in
      let user = (page_range (levels old) at len (held_of _ _ ok.arguments)).0 in (
        state_after old thread c,
        leads (Op o) (op_change o) refl space (uses_page old thread c space) old (state_after old thread c) st was new (same_levels c) (cells_protect at len perm) between
            (λ p r. absurd (false≢true (gone c p r))) (λ q page e. refl) (λ page e. absurd (false≢true e))
            (top_stays c (held_of _ _ ok.space) (λ e. false≢true e)) (few_of (op_first o) (op_pages o) user) (λ i low. tt),
        refl,
      )

  given_steps : (st : State) (limbo at len : ℕ) → IsConsistent (state_after old thread (call.DontNeed space at len)) → Passed old thread (call.DontNeed space at len) limbo
      → IsBetween old (state_after old thread (call.DontNeed space at len)) st space (uses_page old thread (call.DontNeed space at len) space)
      → Steps (changes_of old thread (call.DontNeed space at len)) space st (state_after old thread (call.DontNeed space at len))
  unfolding changes_of
  given_steps st limbo at len new ok between =
      let c = call.DontNeed space at len in
      let r : RangeChange = record { making = GiveBack; first = at / 4096; count = pages_of len } in
      let user = (page_range (levels old) at len (held_of _ _ ok.arguments)).0 in (
        state_after old thread c,
        leads (Reset (at / 4096) (pages_of len)) r refl space (uses_page old thread c space) old (state_after old thread c) st was new (same_levels c) (cells_given at len) between
            (λ p gone_p. absurd (false≢true (gone c p gone_p))) (λ q page e. absurd (cc)) (λ page e. (and_parts (nat_eq space space) (within (at / 4096) (pages_of len) page) e).1)
            (top_stays c (held_of _ _ ok.space) (λ e. false≢true e)) (few_of (at / 4096) (pages_of len) user) (λ i low. tt),
        refl,
      )

-- no page that the call uses is left
both_off : (a w : Bool) → ((a && w) && not w) ≡ false
both_off true true = refl
both_off true false = refl
both_off false w = refl

ranged_clean : (old : State) (thread space : ℕ) (c : Call) → is_ranged c ≡ true → (page : ℕ) → all_clean (changes_of old thread c) (uses_page old thread c space) page ≡ false
unfolding changes_of
ranged_clean old thread space (call.Map s where_to len perm what) ranged page = both_off (nat_eq space s) (within (placed_at old thread s where_to len / 4096) (pages_of len) page)
ranged_clean old thread space (call.Unmap s at len) ranged page = both_off (nat_eq space s) (within (at / 4096) (pages_of len) page)
ranged_clean old thread space (call.Protect s at len perm) ranged page = refl
ranged_clean old thread space (call.DontNeed s at len) ranged page = both_off (nat_eq space s) (within (at / 4096) (pages_of len) page)
ranged_clean old thread space (call.Load s at len) ranged page = absurd (false≢true ranged)
ranged_clean old thread space (call.Store s at bytes) ranged page = absurd (false≢true ranged)
ranged_clean old thread space (call.Fault s at write) ranged page = absurd (false≢true ranged)
ranged_clean old thread space call.Spawn ranged page = absurd (false≢true ranged)
ranged_clean old thread space (call.Fork s) ranged page = absurd (false≢true ranged)
ranged_clean old thread space (call.Exit s) ranged page = absurd (false≢true ranged)
ranged_clean old thread space (call.SwapOut s at len) ranged page = absurd (false≢true ranged)
ranged_clean old thread space (call.SwapIn s at len) ranged page = absurd (false≢true ranged)
ranged_clean old thread space (call.Txn s at len ops) ranged page = absurd (false≢true ranged)
ranged_clean old thread space (call.Remap s at old_len new_len) ranged page = absurd (false≢true ranged)

pub ranged_steps : RangedSteps
ranged_steps old st thread limbo space c small ranged named was new fine between = (go c ranged named new (passed old thread c limbo fine) between, ranged_clean old thread space c ranged)
  where
    own : (s : ℕ) → Some s ≡ Some space → s ≡ space
    own s e = cc

    go : (c : Call) → is_ranged c ≡ true → space_of c ≡ Some space → IsConsistent (state_after old thread c) → Passed old thread c limbo → IsBetween old (state_after old thread c) st space (uses_page old thread c space)
        → Steps (changes_of old thread c) space st (state_after old thread c)
    go (call.Map s where_to len perm what) ranged named new ok between =
        subst (λ n. Steps (changes_of old thread (call.Map n where_to len perm what)) space st (state_after old thread (call.Map n where_to len perm what))) (sym (own s named))
        (map_steps old thread space was st limbo where_to len perm what small
        (subst (λ n. IsConsistent (state_after old thread (call.Map n where_to len perm what))) (own s named) new)
        (subst (λ n. Passed old thread (call.Map n where_to len perm what) limbo) (own s named) ok)
        (subst (λ n. IsBetween old (state_after old thread (call.Map n where_to len perm what)) st space (uses_page old thread (call.Map n where_to len perm what) space)) (own s named) between))
    go (call.Unmap s at len) ranged named new ok between =
        subst (λ n. Steps (changes_of old thread (call.Unmap n at len)) space st (state_after old thread (call.Unmap n at len))) (sym (own s named))
        (unmap_steps old thread space was st limbo at len
        (subst (λ n. IsConsistent (state_after old thread (call.Unmap n at len))) (own s named) new)
        (subst (λ n. Passed old thread (call.Unmap n at len) limbo) (own s named) ok)
        (subst (λ n. IsBetween old (state_after old thread (call.Unmap n at len)) st space (uses_page old thread (call.Unmap n at len) space)) (own s named) between))
    go (call.Protect s at len perm) ranged named new ok between =
        subst (λ n. Steps (changes_of old thread (call.Protect n at len perm)) space st (state_after old thread (call.Protect n at len perm))) (sym (own s named))
        (protect_steps old thread space was st limbo at len perm
        (subst (λ n. IsConsistent (state_after old thread (call.Protect n at len perm))) (own s named) new)
        (subst (λ n. Passed old thread (call.Protect n at len perm) limbo) (own s named) ok)
        (subst (λ n. IsBetween old (state_after old thread (call.Protect n at len perm)) st space (uses_page old thread (call.Protect n at len perm) space)) (own s named) between))
    go (call.DontNeed s at len) ranged named new ok between =
        subst (λ n. Steps (changes_of old thread (call.DontNeed n at len)) space st (state_after old thread (call.DontNeed n at len))) (sym (own s named))
        (given_steps old thread space was st limbo at len
        (subst (λ n. IsConsistent (state_after old thread (call.DontNeed n at len))) (own s named) new)
        (subst (λ n. Passed old thread (call.DontNeed n at len) limbo) (own s named) ok)
        (subst (λ n. IsBetween old (state_after old thread (call.DontNeed n at len)) st space (uses_page old thread (call.DontNeed n at len) space)) (own s named) between))
    go (call.Load s at len) ranged named new ok between = absurd (false≢true ranged)
    go (call.Store s at bytes) ranged named new ok between = absurd (false≢true ranged)
    go (call.Fault s at write) ranged named new ok between = absurd (false≢true ranged)
    go call.Spawn ranged named new ok between = absurd (false≢true ranged)
    go (call.Fork s) ranged named new ok between = absurd (false≢true ranged)
    go (call.Exit s) ranged named new ok between = absurd (false≢true ranged)
    go (call.SwapOut s at len) ranged named new ok between = absurd (false≢true ranged)
    go (call.SwapIn s at len) ranged named new ok between = absurd (false≢true ranged)
    go (call.Txn s at len ops) ranged named new ok between = absurd (false≢true ranged)
    go (call.Remap s at old_len new_len) ranged named new ok between = absurd (false≢true ranged)
