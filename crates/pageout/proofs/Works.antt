-- The pages whose marks are looked at after a call are those that it may have touched.
use Rattle.std.proofs.Common.{◌≡◌, ℕ, ◌+◌, ◌-◌, ◌*◌, ◌/◌, ◌^◌, ◌<◌, ◌≤◌, Bool, true, false, cond, not, length, refl, sym, ap, subst, ◌∙◌, inl, inr, arith}
use mathlib.Core.Bool.{true≢false}
use Rattle.std.specs.Prelude.{Option, Some, None, ◌&&◌, ◌||◌, nat_eq, nat_le, nat_lt, is_some}
use Rattle.std.specs.Option.{unwrap_or, option_and_then}
use Rattle.std.proofs.lemmas.Bool.{and_parts, and_from, and_right, or_left, or_right, or_cases, leb-true, ltb-true, le-leb, lt-ltb, le-ltb, cases_lt, false_from_ne_true}
use Rattle.corten_base.specs.declared.calls.Call.{Call}
use Rattle.corten_base.specs.declared.calls.Call.TheVariants as call
use Rattle.corten_base.specs.declared.calls.Reply.{Reply}
use Rattle.table_place.specs.Range.{within}
use Rattle.table_place.specs.Place.{pages_of}
use Rattle.page_map.specs.Cell.{frame_of}
use Rattle.page_map.specs.State.{State, AddressSpace, IsConsistent, levels, space_at, is_present}
use Rattle.page_map.specs.Spaces.{least_absent}
use Rattle.page_map.specs.Effect.{answer, placed_at}
use Rattle.page_map.specs.Memory.{is_refusal, names_key}
use Rattle.page_map.specs.Mapping.{gap}
use Rattle.page_map.specs.Remap.{Resize, resize_of, moves, put_at, left_first, left_count, filled_first, filled_count}
use Rattle.page_map.specs.Step.{step, refusal}
use Rattle.page_map.proofs.Steps.{Passed, passed, refused, accepted}
use Rattle.page_map.proofs.StepKeeps.{step_keeps}
use Rattle.page_map.proofs.Unmapped.{held_of}
use Rattle.page_map.proofs.Least.{least_passes}
use Rattle.page_map.proofs.Named.{unnamed_stays}
use Rattle.page_map.proofs.Replies.{answer_accepts}
use Rattle.mm_model.specs.Pages.{frame_at}
use Rattle.mm_model.specs.Served.{IsServed}
use Rattle.mm_model.proofs.Framed.{high_unmapped}
use Rattle.pageout.specs.declared.work.Work.{Work}
use Rattle.pageout.specs.Touches.{is_reached}
use Rattle.pageout.specs.Work.{in_span, in_work, no_span, whole_span, span_of, access_span, made_work, no_work, over, answered_work, work_of, made_space}

-- ---- spans

empty : (p : ℕ) → in_span no_span p ≡ false
empty p = and_right (nat_le 0 p) (nat_lt p 0) (le-ltb p 0 (omega arith))

alone : (b : Bool) (p : ℕ) → (b || in_span no_span p) ≡ b
alone true p = refl
alone false p = empty p

pub no_pages : (place s p : ℕ) → in_work (no_work place) s p ≡ false
no_pages place s p = and_right (nat_eq s 0) _ (λ i. empty p i || empty p i)

-- the last page of an access is not before the first
rises : (at len : ℕ) → 1 ≤ len → at / 4096 ≤ (at + len - 1) / 4096
rises at len some = omega (arith, some)

access_pages : (at len p : ℕ) → 1 ≤ len → in_span (access_span at len) p ≡ within (at / 4096) ((at + len - 1) / 4096 + 1 - at / 4096) p
access_pages at len p some =
    let e : (at + len - 1) / 4096 + 1 ≡ at / 4096 + ((at + len - 1) / 4096 + 1 - at / 4096) = omega (arith, rises at len some) in
    ap (λ n. nat_le (at / 4096) p && nat_lt p n) e

and_true : (b : Bool) → (b && true) ≡ b
and_true true = refl
and_true false = refl

and_false : (b : Bool) → (b && false) ≡ false
and_false true = refl
and_false false = refl

-- what an access reaches is the work after it
reached_pages : (space at len s p : ℕ) → 1 ≤ len →
    (nat_eq s space && within (at / 4096) ((at + len - 1) / 4096 + 1 - at / 4096) p) ≡ ((nat_eq s space && (in_span (access_span at len) p || in_span no_span p)) && true)
reached_pages space at len s p some =
    sym (and_true _ ∙ ap (λ b. nat_eq s space && b) (alone (in_span (access_span at len) p) p ∙ access_pages at len p some))

pub reached_is : (c : Call) (r : Reply) (place s p : ℕ) → IsServed c → is_reached c s p ≡ (in_work (answered_work c r place) s p && (answered_work c r place).is_access)
reached_is (call.Map space where_to len perm what) r place s p served = and_false _ ∙ sym (and_false _)
reached_is (call.Unmap space at len) r place s p served = and_false _ ∙ sym (and_false _)
reached_is (call.Protect space at len perm) r place s p served = and_false _ ∙ sym (and_false _)
reached_is (call.Load space at len) r place s p served = reached_pages space at len s p served.0
reached_is (call.Store space at bytes) r place s p served = reached_pages space at (length bytes) s p served.0
reached_is (call.Fault space at write) r place s p served = reached_pages space at 1 s p (omega arith)
reached_is call.Spawn r place s p served = sym (and_false _)
reached_is (call.Fork space) r place s p served = and_false _ ∙ sym (ap (λ b. in_work (made_work (made_space r) place) s p && b) (none (nat_lt (made_space r) 64)) ∙ and_false _)
  where
    none : (b : Bool) → (cond b (record { space = made_space r; near = whole_span; far = no_span; place = place; is_access = false }) (no_work place)).is_access ≡ false
    none true = refl
    none false = refl
reached_is (call.Exit space) r place s p served = and_false _ ∙ sym (and_false _)
reached_is (call.SwapOut space at len) r place s p served = and_false _ ∙ sym (and_false _)
reached_is (call.SwapIn space at len) r place s p served = and_false _ ∙ sym (and_false _)
reached_is (call.Txn space at len ops) r place s p served = and_false _ ∙ sym (and_false _)
reached_is (call.DontNeed space at len) r place s p served = and_false _ ∙ sym (and_false _)
reached_is (call.Remap space at old_len new_len) r place s p served = and_false _ ∙ sym (and_false _)

pub access_is : (c : Call) (r : Reply) (place s p : ℕ) → IsServed c → (not (is_refusal r) && is_reached c s p) ≡ (in_work (work_of c r place) s p && (work_of c r place).is_access)
access_is c r place s p served = go (is_refusal r) refl
  where
    go : (b : Bool) → is_refusal r ≡ b → (not (is_refusal r) && is_reached c s p) ≡ (in_work (work_of c r place) s p && (work_of c r place).is_access)
    go true e = ap (λ b. not b && is_reached c s p) e ∙ sym (ap (λ b. in_work (cond b (no_work place) (answered_work c r place)) s p && (cond b (no_work place) (answered_work c r place)).is_access) e ∙ and_false _)
    go false e = ap (λ b. not b && is_reached c s p) e ∙ reached_is c r place s p served
        ∙ sym (ap (λ b. in_work (cond b (no_work place) (answered_work c r place)) s p && (cond b (no_work place) (answered_work c r place)).is_access) e)

-- the work is that after the call at this place
answered_place : (c : Call) (r : Reply) (place : ℕ) → (answered_work c r place).place ≡ place
answered_place (call.Map space where_to len perm what) r place = refl
answered_place (call.Unmap space at len) r place = refl
answered_place (call.Protect space at len perm) r place = refl
answered_place (call.Load space at len) r place = refl
answered_place (call.Store space at bytes) r place = refl
answered_place (call.Fault space at write) r place = refl
answered_place call.Spawn r place = refl
answered_place (call.Fork space) r place = go (nat_lt (made_space r) 64)
  where
    go : (b : Bool) → (cond b (over (made_space r) whole_span place) (no_work place)).place ≡ place
    go true = refl
    go false = refl
answered_place (call.Exit space) r place = refl
answered_place (call.SwapOut space at len) r place = refl
answered_place (call.SwapIn space at len) r place = refl
answered_place (call.Txn space at len ops) r place = refl
answered_place (call.DontNeed space at len) r place = refl
answered_place (call.Remap space at old_len new_len) r place = refl

pub work_place : (c : Call) (r : Reply) (place : ℕ) → (work_of c r place).place ≡ place
work_place c r place = go (is_refusal r)
  where
    go : (b : Bool) → (cond b (no_work place) (answered_work c r place)).place ≡ place
    go true = refl
    go false = answered_place c r place

-- ---- the pages that an accepted call names

near_of : (a b d : Bool) → (a && b) ≡ true → (a && (b || d)) ≡ true
near_of a b d h = let both = and_parts a b h in and_from a (b || d) both.0 (or_left b d both.1)

whole : (p : ℕ) → p < 2 ^ 44 → in_span whole_span p ≡ true
whole p low = and_from (nat_le 0 p) (nat_lt p (2 ^ 44)) (le-leb 0 p (omega arith)) (lt-ltb p (2 ^ 44) low)

module _ (lv thread at old_len new_len p : ℕ) (cells : AddressSpace) where
  abbrev r : Resize
  r = resize_of at old_len new_len

  abbrev to : ℕ
  to = put_at lv thread cells r

  abbrev near : Bool
  near = in_span (record { first = r.first; end = r.first + r.old }) p

  abbrev far : Bool
  far = in_span (record { first = to; end = to + r.new }) p

  bounds : (first count : ℕ) → within first count p ≡ true → (first ≤ p) × (p < first + count)
  bounds first count h = let both = and_parts (nat_le first p) (nat_lt p (first + count)) h in (leb-true first p both.0, ltb-true p (first + count) both.1)

  into : (low end : ℕ) → low ≤ p → p < end → in_span (record { first = low; end = end }) p ≡ true
  into low end a b = and_from (nat_le low p) (nat_lt p end) (le-leb low p a) (lt-ltb p end b)

  left_in : (m : Bool) → moves lv cells r ≡ m → within (left_first lv cells r) (left_count lv cells r) p ≡ true → near ≡ true
  left_in true e h =
      let at_p = bounds r.first r.old ((λ i. within (cond (sym e i) r.first (r.first + r.new)) (cond (sym e i) r.old (r.old - r.new)) p) ∙ h) in
      into r.first (r.first + r.old) at_p.0 at_p.1
  left_in false e h =
      let at_p = bounds (r.first + r.new) (r.old - r.new) ((λ i. within (cond (sym e i) r.first (r.first + r.new)) (cond (sym e i) r.old (r.old - r.new)) p) ∙ h) in
      into r.first (r.first + r.old) (omega (arith, at_p.0)) (omega (arith, at_p.0, at_p.1))

  filled_in : (m : Bool) → moves lv cells r ≡ m → within (filled_first lv thread cells r) (filled_count lv cells r) p ≡ true → far ≡ true
  filled_in true e h =
      let at_p = bounds to r.new ((λ i. within (cond (sym e i) to (r.first + r.old)) (cond (sym e i) r.new (r.new - r.old)) p) ∙ h) in
      into to (to + r.new) at_p.0 at_p.1
  filled_in false e h =
      let at_p = bounds (r.first + r.old) (r.new - r.old) ((λ i. within (cond (sym e i) to (r.first + r.old)) (cond (sym e i) r.new (r.new - r.old)) p) ∙ h) in
      let stays : to ≡ r.first = ap (λ b. cond b (unwrap_or (gap thread cells r.new) 0) r.first) e in
      into to (to + r.new) (omega (arith, at_p.0, stays)) (omega (arith, at_p.0, at_p.1, stays))

  pub resized_in : (within (left_first lv cells r) (left_count lv cells r) p || within (filled_first lv thread cells r) (filled_count lv cells r) p) ≡ true → (near || far) ≡ true
  resized_in h = elim (or_cases (within (left_first lv cells r) (left_count lv cells r) p) (within (filled_first lv thread cells r) (filled_count lv cells r) p) h) [
    | inl left ↦ or_left near far (left_in (moves lv cells r) refl left)
    | inr filled ↦ or_right near far (filled_in (moves lv cells r) refl filled)
  ]

put_back : (n : ℕ) → 4096 * n / 4096 ≡ n
put_back n = omega arith

module _ (st : State) (thread limbo place s p : ℕ) (low : p < 2 ^ 44) where
  made : (o : Option ℕ) → least_absent st ≡ o → is_some o ≡ true → nat_eq s (unwrap_or o 0) ≡ true → in_work (made_work (unwrap_or o 0) place) s p ≡ true
  made None e some h = absurd (true≢false (sym some))
  made (Some n) e some h =
      let few : n < 64 = (least_passes 0 64 (λ s. not (is_present st s)) n e).1 in
      ap (λ b. in_work (cond b (record { space = n; near = whole_span; far = no_span; place = place; is_access = false }) (no_work place)) s p) (lt-ltb n 64 few)
      ∙ near_of (nat_eq s n) (in_span whole_span p) (in_span no_span p) (and_from (nat_eq s n) (in_span whole_span p) h (whole p low))

  reached_in : (c : Call) (r : Reply) → IsServed c → is_reached c s p ≡ true → in_work (answered_work c r place) s p ≡ true
  reached_in c r served h = (and_parts (in_work (answered_work c r place) s p) (answered_work c r place).is_access (sym (reached_is c r place s p served) ∙ h)).0

  ranged : (space at len : ℕ) → (nat_eq s space && within (at / 4096) (pages_of len) p) ≡ true → in_work (over space (span_of at len) place) s p ≡ true
  ranged space at len h = near_of (nat_eq s space) (in_span (span_of at len) p) (in_span no_span p) h

  pub named_in : (c : Call) → Passed st thread c limbo → IsServed c → names_key st thread c s p ≡ true → in_work (answered_work c (answer st thread c) place) s p ≡ true
  unfolding answer
  named_in (call.Map space where_to len perm what) passed served h = ranged space (placed_at st thread space where_to len) len h
  named_in (call.Unmap space at len) passed served h = ranged space at len h
  named_in (call.Protect space at len perm) passed served h = ranged space at len h
  named_in (call.Load space at len) passed served h = reached_in (call.Load space at len) (answer st thread (call.Load space at len)) served h
  named_in (call.Store space at bytes) passed served h = reached_in (call.Store space at bytes) (answer st thread (call.Store space at bytes)) served h
  named_in (call.Fault space at write) passed served h = reached_in (call.Fault space at write) (answer st thread (call.Fault space at write)) served h
  named_in call.Spawn passed served h = absurd (true≢false (sym h))
  named_in (call.Fork space) passed served h = made (least_absent st) refl (held_of _ _ passed.spaces) h
  named_in (call.Exit space) passed served h = near_of (nat_eq s space) (in_span whole_span p) (in_span no_span p) (and_from (nat_eq s space) (in_span whole_span p) h (whole p low))
  named_in (call.SwapOut space at len) passed served h = ranged space at len h
  named_in (call.SwapIn space at len) passed served h = ranged space at len h
  named_in (call.Txn space at len ops) passed served h = ranged space at len h
  named_in (call.DontNeed space at len) passed served h = ranged space at len h
  named_in (call.Remap space at old_len new_len) passed served h =
      let both = and_parts (nat_eq s space) _ h in
      let to = put_at (levels st) thread (space_at st space) (resize_of at old_len new_len) in
      and_from (nat_eq s space) _ both.0
      (subst (λ n. (in_span (span_of at old_len) p || in_span (record { first = n; end = n + pages_of new_len }) p) ≡ true) (sym (put_back to))
      (resized_in (levels st) thread at old_len new_len p (space_at st space) both.1))

-- ---- all other pages keep their frames

module _ (st : State) (thread limbo place : ℕ) (c : Call) (few : thread < 8) (served : IsServed c) (facts : IsConsistent st) where
  abbrev next : State
  next = (step st thread c limbo).1

  abbrev work : Work
  work = work_of c (step st thread c limbo).0 place

  low_stays : (s p : ℕ) → p < 2 ^ 44 → in_work work s p ≡ false → frame_at next s p ≡ frame_at st s p
  low_stays s p low out = go (refusal st thread c limbo) refl
    where
      go : (o : Option Reply) → refusal st thread c limbo ≡ o → frame_at next s p ≡ frame_at st s p
      go (Some r) e = ap (λ (x : Reply × State). frame_at x.1 s p) (refused st thread c limbo r e)
      go None e =
          let is = ap (λ (x : Reply × State). x.0) (accepted st thread c limbo e) in
          let work_is : work ≡ answered_work c (answer st thread c) place =
          ap (λ r. work_of c r place) is ∙ ap (λ b. cond b (no_work place) (answered_work c (answer st thread c) place)) (answer_accepts st thread c) in
          let unnamed = false_from_ne_true (names_key st thread c s p) (λ named.
          true≢false (sym (named_in st thread limbo place s p low c (passed st thread c limbo e) served named) ∙ sym (ap (λ w. in_work w s p) work_is) ∙ out)) in
          ap (option_and_then frame_of) (unnamed_stays st thread limbo s p c unnamed)

  pub others_stay : (s p : ℕ) → in_work work s p ≡ false → frame_at next s p ≡ frame_at st s p
  others_stay s p out = elim (cases_lt p (2 ^ 44)) [
    | inl low ↦ low_stays s p low out
    | inr high ↦ high_unmapped next s p (step_keeps st thread limbo c few facts) high ∙ sym (high_unmapped st s p facts high)
  ]
