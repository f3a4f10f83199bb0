-- The rows of the list of a cover.
--     cover_is_fit      the law of `specs/Covered.antt`
use Rattle.std.specs.Prelude.{◌≡◌, ℕ, ◌<◌, ◌≤◌, length, Some}
use Rattle.std.proofs.Common.{◌∙◌, ap, subst, arith, inl, inr}
use Rattle.std.proofs.lemmas.List.{length-map}
use mathlib.Core.Logic.{dite}
use native.Mathlib.Decide.{ℕ_discrete}
use Rattle.corten_base.specs.declared.calls.Call.{Call}
use Rattle.corten_base.specs.declared.calls.Call.TheVariants as call
use Rattle.corten_base.specs.declared.calls.MapPlace.TheVariants as place
use Rattle.page_map.specs.Effect.{space_of}
use Rattle.table_place.specs.declared.Place.{Place}
use Rattle.table_place.proofs.Entries.{page_parts}
use Rattle.tree_lock.specs.Held.{row_number, row_numbers}
use Rattle.tree_lock.specs.Zone.{IsMet, ZoneHas}
use Rattle.walk_core.specs.Lists.{times}
use Rattle.walk_core.proofs.Stepped.{length-most}
use Rattle.machine_plan.specs.HeldRows.{AreOf}
use Rattle.machine_plan.specs.Uses.{zone_of}
use Rattle.cursor_detach.proofs.Started.{row_with}
use Rattle.cursor_apply.specs.Covered.{CoverIsFit}

-- the pages of a call's zone are of its space
zone_space : (thread : ℕ) (c : Call) (s t p : ℕ) → space_of c ≡ Some s → ZoneHas (zone_of thread c) t p → t ≡ s
zone_space thread (call.Map space place.Any len perm what) s t p e has = has.0 ∙ (cc)
zone_space thread (call.Map space (place.At at) len perm what) s t p e has = has.0 ∙ (cc)
zone_space thread (call.Map space (place.New at) len perm what) s t p e has = has.0 ∙ (cc)
zone_space thread (call.Unmap space at len) s t p e has = has.0 ∙ (cc)
zone_space thread (call.Protect space at len perm) s t p e has = has.0 ∙ (cc)
zone_space thread (call.Load space at len) s t p e has = has.0 ∙ (cc)
zone_space thread (call.Store space at bytes) s t p e has = has.0 ∙ (cc)
zone_space thread (call.Fault space at write) s t p e has = has.0 ∙ (cc)
zone_space thread call.Spawn s t p e has = absurd (cc)
zone_space thread (call.Fork space) s t p e has = has ∙ (cc)
zone_space thread (call.Exit space) s t p e has = has ∙ (cc)
zone_space thread (call.SwapOut space at len) s t p e has = has.0 ∙ (cc)
zone_space thread (call.SwapIn space at len) s t p e has = has.0 ∙ (cc)
zone_space thread (call.Txn space at len ops) s t p e has = has.0 ∙ (cc)
zone_space thread (call.DontNeed space at len) s t p e has = has.0 ∙ (cc)
zone_space thread (call.Remap space at old_len new_len) s t p e has = has ∙ (cc)

pub cover_is_fit : CoverIsFit
cover_is_fit levels count thread c numbers known rows few covers listed once = (of_space, small)
  where
    met_space : (s : ℕ) → space_of c ≡ Some s → (p : Place) → p.level < 6 → IsMet levels (zone_of thread c) p → p.space ≡ s
    met_space s e p low met = elim met [
      | inl top ↦ let high : p.level ≡ 6 = ap (λ (x : Place). x.level) top in absurd (omega (arith, low, high))
      | inr both ↦ (page_parts p both.1.space both.1.page low both.1.of_span).0 ∙ zone_space thread c s both.1.space both.1.page e both.1.of_zone
    ]

    of_space : (s : ℕ) → space_of c ≡ Some s → AreOf s rows
    of_space s e x has low =
        let l = listed.each x has in
        met_space s e x.place low (subst (IsMet levels (zone_of thread c)) l.same_place (covers.each l.known l.held).met)

    past : (r : ℕ) → count ≤ r → times r (row_numbers rows) ≡ 0
    past r high = dite (ℕ_discrete (times r (row_numbers rows)) 0)
        (λ z. z)
        (λ ne.
        let x = row_with rows r (omega arith) in
        let l = listed.each x.0 x.1 in
        let there = (covers.each l.known l.held).there in
        let same : l.known.row ≡ r = l.same_row ∙ x.2 in
        absurd (omega (arith, there, same, high)))

    small : length rows ≤ count
    small = subst (λ (n : ℕ). n ≤ count) (length-map rows row_number) (length-most (row_numbers rows) count once past)
