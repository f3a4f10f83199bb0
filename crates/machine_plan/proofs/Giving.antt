-- The book after a commit may be given.
--     step_removes      what a step removes
--     commit_follows      the law of `specs/Given.antt`
use Rattle.std.specs.Prelude.{◌≡◌, ℕ, ◌+◌, ◌/◌, ◌<◌, true, false, Bool}
use Rattle.std.specs.FinSet as set
use Rattle.std.proofs.Common.{sym, refl, ◌∙◌, ap, subst, arith}
use Rattle.std.proofs.lemmas.Bool.{true≢false, eqb-true}
use Rattle.corten_base.specs.declared.calls.Call.{Call}
use Rattle.corten_base.specs.declared.calls.Call.TheVariants as call
use Rattle.corten_base.specs.declared.calls.Reply.{Reply}
use Rattle.corten_base.specs.declared.numbers.Limits.{Limits}
use Rattle.page_map.specs.Effect.{state_after, wanted_tables, is_given_up}
use Rattle.page_map.specs.State.{State, IsConsistent, levels, space_at}
use Rattle.page_map.specs.Remap.{resize_of, left_first, left_count}
use Rattle.page_map.proofs.Growth.{stays}
use Rattle.page_map.proofs.Steps.{accepted}
use Rattle.page_map.proofs.StepKeeps.{step_keeps}
use Rattle.table_place.specs.declared.Place.{Place}
use Rattle.table_place.specs.Place.{pages_of, span_first, span_count, is_inside}
use Rattle.table_place.proofs.Spans.{span_pos}
use Rattle.table_place.proofs.Tables.{in_range, IsInside, inside_parts}
use Rattle.table_place.proofs.Entries.{page_parts, page_in_span, first_page}
use Rattle.tree_lock.specs.declared.zone.Zone.TheVariants as zone
use Rattle.tree_lock.specs.Zone.{Meets, Spans}
use Rattle.machine_plan.specs.Books.{state_of}
use Rattle.machine_plan.specs.Given.{Removes, StepRemoves, CommitFollows}
use Rattle.machine_plan.specs.Local.{IsLocal}
use Rattle.machine_plan.specs.Uses.{zone_of}
use Rattle.machine_plan.proofs.Near.{level_is}
use Rattle.machine_plan.proofs.Local.{step_is_local}
use Rattle.machine_plan.proofs.Leaving.{leaves_cover}
use Rattle.machine_plan.proofs.Following.{given_follows}

module _ (st : State) (is : IsConsistent st) (thread : ℕ) where
  given_up : (c : Call) (p : Place) → set.contains st.tables p ≡ true → set.contains (state_after st thread c).tables p ≡ false → is_given_up st c p ≡ true
  unfolding state_after
  given_up c p here lost = go (is_given_up st c p) refl
    where
      go : (t : Bool) → is_given_up st c p ≡ t → is_given_up st c p ≡ true
      go true e = e
      go false e = absurd (true≢false (sym (stays (is_given_up st c) (wanted_tables st thread c) st.tables p here e) ∙ lost))

  inside_meets : (space first count : ℕ) (p : Place) → is_inside (levels st) space first count p ≡ true → Meets (zone.Pages space first count true) p
  inside_meets space first count p h =
      let parts = inside_parts (levels st) space first count p h in
      let wide : 0 < span_count p = span_pos p.level in
      record { space = p.space; page = span_first p; of_zone = (parts.same_space, parts.from, omega (arith, parts.to, wide)); of_span = first_page p (omega (arith, parts.below, is.few_levels)) }

  inside_no_top : (space first count : ℕ) (p : Place) → is_inside (levels st) space first count p ≡ true → ¬ Spans (zone.Pages space first count true) p
  inside_no_top space first count p h spans =
      let parts = inside_parts (levels st) space first count p h in
      let low : p.level < 6 = omega (arith, parts.below, is.few_levels) in
      spans.greater refl (λ s x has.
      let at = in_range (span_first p) (span_count p) x (page_in_span p s x low has) in
      (sym (page_parts p s x low has).0 ∙ parts.same_space, omega (arith, parts.from, at.0), omega (arith, parts.to, at.1)))

  space_no_top : (space : ℕ) (p : Place) → set.contains st.tables p ≡ true → ¬ Spans (zone.Space space) p
  space_no_top space p here spans =
      let depth = level_is st is p here in
      let low : p.level < 6 = omega (arith, depth.1, is.few_levels) in
      let end : ℕ = span_first p + span_count p in
      let at = in_range (span_first p) (span_count p) end (page_in_span p space end low (spans.all space end refl)) in
      omega (arith, at.1)

  given_parts : (space at old_len new_len : ℕ) (p : Place) → is_given_up st (call.Remap space at old_len new_len) p ≡ true
      → IsInside (levels st) space (left_first (levels st) (space_at st space) (resize_of at old_len new_len)) (left_count (levels st) (space_at st space) (resize_of at old_len new_len)) p
  given_parts space at old_len new_len p g =
      let r = resize_of at old_len new_len in
      inside_parts (levels st) space (left_first (levels st) (space_at st space) r) (left_count (levels st) (space_at st space) r) p g

  removes_of : (c : Call) → Removes (zone_of thread c) st (state_after st thread c)
  removes_of c = record { meets = λ p r. meets c p r.0 (given_up c p r.0 r.1); no_top = λ p r. no_top c p r.0 (given_up c p r.0 r.1) }
    where
      meets : (c : Call) (p : Place) → set.contains st.tables p ≡ true → is_given_up st c p ≡ true → Meets (zone_of thread c) p
      meets (call.Map space where_to len perm what) p here g = absurd (true≢false (sym g))
      meets (call.Unmap space at len) p here g = inside_meets space (at / 4096) (pages_of len) p g
      meets (call.Protect space at len perm) p here g = absurd (true≢false (sym g))
      meets (call.Load space at len) p here g = absurd (true≢false (sym g))
      meets (call.Store space at bytes) p here g = absurd (true≢false (sym g))
      meets (call.Fault space at write) p here g = absurd (true≢false (sym g))
      meets call.Spawn p here g = absurd (true≢false (sym g))
      meets (call.Fork space) p here g = absurd (true≢false (sym g))
      meets (call.Exit space) p here g =
          let depth = level_is st is p here in
          record { space = p.space; page = span_first p; of_zone = eqb-true p.space space g; of_span = first_page p (omega (arith, depth.1, is.few_levels)) }
      meets (call.SwapOut space at len) p here g = absurd (true≢false (sym g))
      meets (call.SwapIn space at len) p here g = absurd (true≢false (sym g))
      meets (call.Txn space at len ops) p here g = absurd (true≢false (sym g))
      meets (call.DontNeed space at len) p here g = absurd (true≢false (sym g))
      meets (call.Remap space at old_len new_len) p here g =
          let depth = level_is st is p here in
          record { space = p.space; page = span_first p; of_zone = (given_parts space at old_len new_len p g).same_space; of_span = first_page p (omega (arith, depth.1, is.few_levels)) }

      no_top : (c : Call) (p : Place) → set.contains st.tables p ≡ true → is_given_up st c p ≡ true → ¬ Spans (zone_of thread c) p
      no_top (call.Map space where_to len perm what) p here g = absurd (true≢false (sym g))
      no_top (call.Unmap space at len) p here g = inside_no_top space (at / 4096) (pages_of len) p g
      no_top (call.Protect space at len perm) p here g = absurd (true≢false (sym g))
      no_top (call.Load space at len) p here g = absurd (true≢false (sym g))
      no_top (call.Store space at bytes) p here g = absurd (true≢false (sym g))
      no_top (call.Fault space at write) p here g = absurd (true≢false (sym g))
      no_top call.Spawn p here g = absurd (true≢false (sym g))
      no_top (call.Fork space) p here g = absurd (true≢false (sym g))
      no_top (call.Exit space) p here g = space_no_top space p here
      no_top (call.SwapOut space at len) p here g = absurd (true≢false (sym g))
      no_top (call.SwapIn space at len) p here g = absurd (true≢false (sym g))
      no_top (call.Txn space at len ops) p here g = absurd (true≢false (sym g))
      no_top (call.DontNeed space at len) p here g = absurd (true≢false (sym g))
      no_top (call.Remap space at old_len new_len) p here g = space_no_top space p here

pub step_removes : StepRemoves
step_removes st thread c limbo is went = subst (Removes (zone_of thread c) st) (ap (λ (x : Reply × State). x.1) (sym (accepted st thread c limbo went))) (removes_of st is thread c)

pub commit_follows : CommitFollows
commit_follows a b thread c limbo entry v w few is same agree shows went state leaves before after frames slots journal generation fixed =
    let is_b : IsConsistent (state_of b) = subst IsConsistent (sym state) (step_keeps (state_of a) thread limbo c few is) in
    let local = subst (IsLocal (zone_of thread c) (state_of a) thread c) (sym state) (step_is_local (state_of a) thread c limbo is went) in
    let removes = subst (Removes (zone_of thread c) (state_of a)) (sym state) (step_removes (state_of a) thread c limbo is went) in
    let confines = leaves_cover (zone_of thread c) a b v w is is_b same (same ∙ sym (ap (λ (l : Limits). l.levels) fixed.limits)) agree shows removes leaves in
    given_follows _ a b thread c entry local confines before after frames slots journal generation fixed
