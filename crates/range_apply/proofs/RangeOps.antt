-- A call of one range that lacks tables is one mapping operation.
--     one_op      as the definitions make it
use Rattle.std.specs.Prelude.{◌≡◌, ℕ, ◌+◌, ◌*◌, ◌/◌, ◌^◌, ◌<◌, ◌≤◌, true, List, [], ◌∷◌, length, slice_index_or, is_some, Option, Some, None}
use Rattle.std.specs.Option.{unwrap_or}
use Rattle.std.proofs.Common.{sym, refl, ◌∙◌, ap, subst, arith}
use Rattle.std.proofs.lemmas.Bool.{true≢false, false≢true, false_from_ne_true, leb-true, and_parts}
use Rattle.corten_base.specs.declared.permissions.Perm.{Perm}
use Rattle.corten_base.specs.declared.calls.Backing.{Backing}
use Rattle.corten_base.specs.declared.calls.Call.{Call}
use Rattle.corten_base.specs.declared.calls.Call.TheVariants as call
use Rattle.corten_base.specs.declared.calls.MapPlace.{MapPlace}
use Rattle.corten_base.specs.declared.calls.MapPlace.TheVariants as place
use Rattle.corten_base.specs.declared.calls.TxnOp.{TxnOp}
use Rattle.corten_base.specs.declared.calls.TxnOp.TheVariants as op
use Rattle.page_map.specs.Effect.{space_of, placed_at, is_new, wanted_tables}
use Rattle.page_map.specs.Mapping.{arena_first, gap, is_backing, is_length, is_mappable, op_first, op_pages}
use Rattle.page_map.specs.State.{State, IsConsistent, levels, space_at}
use Rattle.page_map.specs.Tables.{need}
use Rattle.page_map.proofs.Gaps.{gap_in_arena}
use Rattle.page_map.proofs.Mappings.{page_range, some_pages, user_few}
use Rattle.page_map.proofs.NeedLaws.{dont_need_none}
use Rattle.page_map.proofs.Steps.{Passed}
use Rattle.page_map.proofs.Unmapped.{held_of}
use Rattle.table_place.specs.Place.{root, is_page_range, pages_of}
use Rattle.table_place.proofs.Tables.{inside_parts}
use Rattle.tree_lock.specs.Zone.{ZoneHas}
use Rattle.machine_plan.specs.declared.kit.Change.{Change}
use Rattle.machine_plan.specs.declared.kit.Change.TheVariants.{Op}
use Rattle.machine_plan.specs.declared.kit.Kit.{Kit}
use Rattle.machine_plan.specs.Books.{BookData, state_of}
use Rattle.machine_plan.specs.Uses.{changes_of, zone_of}
use Rattle.cursor_apply.specs.Between.{is_ranged}
use Rattle.range_apply.specs.Ranging.{IsRangedIn}
use Rattle.cursor_apply.proofs.CallSteps.{near_of, user_map}
use Rattle.range_apply.proofs.RangeEnds.{IsOneOp}

module _ (a : BookData) (thread space : ℕ) (kit : Kit) (was : IsConsistent (state_of a)) (limbo : ℕ) where
  abbrev st : State
  st = state_of a

  first_of : (o : TxnOp) (rest : List Change) → kit.changes.items ≡ Op o ∷ rest → (0 < length kit.changes.items) × ((d : Change) → slice_index_or kit.changes.items 0 d ≡ Op o)
  first_of o rest is = (let e = ap length is in omega (arith, e), λ d. ap (λ (l : List Change). slice_index_or l 0 d) is)

  map_zone : (where_to : MapPlace) (len : ℕ) (perm : Perm) (what : Backing) → Passed st thread (call.Map space where_to len perm what) limbo → (q : ℕ) → placed_at st thread space where_to len / 4096 ≤ q → q < placed_at st thread space where_to len / 4096 + pages_of len
      → ZoneHas (zone_of thread (call.Map space where_to len perm what)) space q
  map_zone place.Any len perm what ok q from to = go (gap thread (space_at st space) (pages_of len)) refl (held_of _ _ ok.place)
    where
      same : (n : ℕ) → 4096 * n / 4096 ≡ n
      same n = omega arith

      go : (o : Option ℕ) → gap thread (space_at st space) (pages_of len) ≡ o → is_some o ≡ true → ZoneHas (zone_of thread (call.Map space place.Any len perm what)) space q
      go None e h = absurd (true≢false (sym h))
      go (Some first) e h =
          let at : 4096 * unwrap_or (gap thread (space_at st space) (pages_of len)) 0 / 4096 ≡ first = ap (λ (p : Option ℕ). 4096 * unwrap_or p 0 / 4096) e ∙ same first in
          let lies = and_parts _ _ (gap_in_arena thread (space_at st space) (pages_of len) first e) in
          let low = leb-true (arena_first thread) first lies.0 in
          let high = leb-true (first + pages_of len) (arena_first thread + 2 ^ 27) lies.1 in
          (refl, omega (arith, at, from, low), omega (arith, at, to, high))
  map_zone (place.At at) len perm what ok q from to = (refl, from, to)
  map_zone (place.New at) len perm what ok q from to = (refl, from, to)

  some_map : (where_to : MapPlace) (len : ℕ) (perm : Perm) (what : Backing) → Passed st thread (call.Map space where_to len perm what) limbo → 1 ≤ pages_of len
  some_map place.Any len perm what ok = some_pages len (and_parts _ _ (and_parts (is_length (levels st) len) (is_backing st.files what) (held_of _ _ ok.arguments)).0).0
  some_map (place.At at) len perm what ok = (page_range (levels st) at len (and_parts (is_mappable (levels st) st.files len what) (is_page_range (levels st) at len) (held_of _ _ ok.arguments)).1).1
  some_map (place.New at) len perm what ok = (page_range (levels st) at len (and_parts (is_mappable (levels st) st.files len what) (is_page_range (levels st) at len) (held_of _ _ ok.arguments)).1).1

  of_map : (where_to : MapPlace) (len : ℕ) (perm : Perm) (what : Backing) → thread < 8 → Passed st thread (call.Map space where_to len perm what) limbo → kit.changes.items ≡ changes_of st thread (call.Map space where_to len perm what)
      → (o : TxnOp) × IsOneOp a thread (call.Map space where_to len perm what) space kit o
  unfolding changes_of
  of_map where_to len perm what small ok changes =
      let o = op.Map (placed_at st thread space where_to len) (is_new where_to) len perm what in
      let range = user_map st thread space was limbo where_to len perm what small ok in
      let end = user_few (levels st) (op_first o) (op_pages o) was.few_levels range.0 in
      let one = first_of o [] changes in (
        o,
        record {
          wanted = refl;
          some_change = one.0;
          change = one.1;
          some = some_map where_to len perm what ok;
          user = range.0;
          near = near_of st.files what (op_pages o) range.1 (omega (arith, end));
          given = λ p e. absurd (false≢true e);
          top_stays = refl;
          zone = map_zone where_to len perm what ok;
          present = held_of _ _ ok.space;
        },
      )

  of_unmap : (at len : ℕ) → Passed st thread (call.Unmap space at len) limbo → kit.changes.items ≡ changes_of st thread (call.Unmap space at len) → (o : TxnOp) × IsOneOp a thread (call.Unmap space at len) space kit o
  unfolding changes_of
  of_unmap at len ok changes =
      let range = page_range (levels st) at len (held_of _ _ ok.arguments) in
      let one = first_of (op.Unmap at len) _ changes in (
        op.Unmap at len,
        record {
          wanted = refl;
          some_change = one.0;
          change = one.1;
          some = range.1;
          user = range.0;
          near = λ i low. tt;
          given = λ p e. let parts = inside_parts (levels st) space (at / 4096) (pages_of len) p e in (parts.from, parts.to);
          top_stays = false_from_ne_true _ (λ e. let parts = inside_parts (levels st) space (at / 4096) (pages_of len) (root (levels st) space) e in let low = parts.below in omega arith);
          zone = λ q from to. (refl, from, to);
          present = held_of _ _ ok.space;
        },
      )

  of_protect : (at len : ℕ) (perm : Perm) → Passed st thread (call.Protect space at len perm) limbo → kit.changes.items ≡ changes_of st thread (call.Protect space at len perm) → (o : TxnOp) × IsOneOp a thread (call.Protect space at len perm) space kit o
  unfolding changes_of
  of_protect at len perm ok changes =
      let range = page_range (levels st) at len (held_of _ _ ok.arguments) in
      let one = first_of (op.Protect at len perm) [] changes in (
        op.Protect at len perm,
        record {
          wanted = refl;
          some_change = one.0;
          change = one.1;
          some = range.1;
          user = range.0;
          near = λ i low. tt;
          given = λ p e. absurd (false≢true e);
          top_stays = refl;
          zone = λ q from to. (refl, from, to);
          present = held_of _ _ ok.space;
        },
      )

pub one_op : (a : BookData) (thread : ℕ) (c : Call) (space : ℕ) (kit : Kit) → IsConsistent (state_of a) → (limbo : ℕ) → IsRangedIn thread space c → Passed (state_of a) thread c limbo → kit.changes.items ≡ changes_of (state_of a) thread c
    → (need (wanted_tables (state_of a) thread c) (state_of a).tables ≡ 0 → ⊥) → (o : TxnOp) × IsOneOp a thread c space kit o
one_op a thread c space kit was limbo is ok changes lacks = go c is.ranged is.of_space ok changes lacks
  where
    own : (s : ℕ) → Some s ≡ Some space → s ≡ space
    own s e = cc

    go : (c : Call) → is_ranged c ≡ true → space_of c ≡ Some space → Passed (state_of a) thread c limbo → kit.changes.items ≡ changes_of (state_of a) thread c
        → (need (wanted_tables (state_of a) thread c) (state_of a).tables ≡ 0 → ⊥) → (o : TxnOp) × IsOneOp a thread c space kit o
    go (call.Map s where_to len perm what) ranged named ok changes lacks =
        subst (λ n. (o : TxnOp) × IsOneOp a thread (call.Map n where_to len perm what) space kit o) (sym (own s named))
        (of_map a thread space kit was limbo where_to len perm what is.small (subst (λ n. Passed (state_of a) thread (call.Map n where_to len perm what) limbo) (own s named) ok)
        (subst (λ n. kit.changes.items ≡ changes_of (state_of a) thread (call.Map n where_to len perm what)) (own s named) changes))
    go (call.Unmap s at len) ranged named ok changes lacks =
        subst (λ n. (o : TxnOp) × IsOneOp a thread (call.Unmap n at len) space kit o) (sym (own s named))
        (of_unmap a thread space kit was limbo at len (subst (λ n. Passed (state_of a) thread (call.Unmap n at len) limbo) (own s named) ok)
        (subst (λ n. kit.changes.items ≡ changes_of (state_of a) thread (call.Unmap n at len)) (own s named) changes))
    go (call.Protect s at len perm) ranged named ok changes lacks =
        subst (λ n. (o : TxnOp) × IsOneOp a thread (call.Protect n at len perm) space kit o) (sym (own s named))
        (of_protect a thread space kit was limbo at len perm (subst (λ n. Passed (state_of a) thread (call.Protect n at len perm) limbo) (own s named) ok)
        (subst (λ n. kit.changes.items ≡ changes_of (state_of a) thread (call.Protect n at len perm)) (own s named) changes))
    go (call.DontNeed s at len) ranged named ok changes lacks = absurd (lacks (dont_need_none (state_of a) thread s at len was))
    go (call.Load s at len) ranged named ok changes lacks = absurd (false≢true ranged)
    go (call.Store s at bytes) ranged named ok changes lacks = absurd (false≢true ranged)
    go (call.Fault s at write) ranged named ok changes lacks = absurd (false≢true ranged)
    go call.Spawn ranged named ok changes lacks = absurd (false≢true ranged)
    go (call.Fork s) ranged named ok changes lacks = absurd (false≢true ranged)
    go (call.Exit s) ranged named ok changes lacks = absurd (false≢true ranged)
    go (call.SwapOut s at len) ranged named ok changes lacks = absurd (false≢true ranged)
    go (call.SwapIn s at len) ranged named ok changes lacks = absurd (false≢true ranged)
    go (call.Txn s at len ops) ranged named ok changes lacks = absurd (false≢true ranged)
    go (call.Remap s at old_len new_len) ranged named ok changes lacks = absurd (false≢true ranged)
