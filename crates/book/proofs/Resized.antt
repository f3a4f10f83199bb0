-- Where a range of another length goes, and the references that it has there.
use Rattle.std.proofs.Common.{◌≡◌, ℕ, ◌+◌, ◌-◌, ◌*◌, ◌/◌, ◌^◌, ◌<◌, ◌≤◌, Bool, true, false, cond, not, ◌&&◌, ◌||◌, List, [], ◌∷◌, map, length, refl, sym, ap, subst, ◌∙◌, arith}
use mathlib.Core.Bool.{true≢false}
use Rattle.std.specs.Prelude.{Option, Some, None, is_none, nat_eq, nat_lt, slice_get}
use Rattle.std.specs.List.{filter, AllByRecursion}
use Rattle.std.specs.Option.{unwrap_or, option_map_or}
use Rattle.std.specs.Cmp.{nat_eq_equiv}
use Rattle.std.specs.FinMap as fin
use Rattle.std.proofs.Math.Pow.{pow_mono}
use Rattle.std.proofs.lemmas.Bool.{and_parts, eqb-true, ltb-true, false_from_ne_true}
use Rattle.std.proofs.lemmas.List.Elements.{All-from_recursion, All-map}
use Rattle.std.proofs.lemmas.List.Sums.{sum_by-cons}
use Rattle.corten_base.specs.declared.permissions.Perm.{Perm}
use Rattle.corten_base.specs.declared.calls.Backing.{Backing}
use Rattle.corten_base.specs.declared.calls.Call.{Call}
use Rattle.corten_base.specs.declared.calls.Call.TheVariants as call
use Rattle.corten_base.specs.declared.calls.Reply.TheVariants as reply
use Rattle.corten_base.specs.declared.numbers.Limits.{Limits}
use Rattle.counted_pages.specs.Pages.{PageCounts}
use Rattle.table_place.specs.Range.{within}
use Rattle.table_place.specs.Place.{is_page_range, is_user_range, pages_of}
use Rattle.table_place.proofs.Tables.{to_range}
use Rattle.page_map.specs.declared.cell.Cell.{Cell}
use Rattle.page_map.specs.Cell.{AddressSpace, frame_of, slot_of, backed}
use Rattle.page_map.specs.Mapping.{gap, hole}
use Rattle.page_map.specs.Remap.{Resize, resize_of, grows, has_room, moves, put_at, remapped}
use Rattle.page_map.specs.Memory.{is_resized}
use Rattle.page_map.specs.State.{State, levels, space_at}
use Rattle.page_map.specs.Step.{hole_reply, refusal}
use Rattle.page_map.specs.Effect.{state_after, answer}
use Rattle.page_map.proofs.Cells.{spaces_changed}
use Rattle.page_map.proofs.Gaps.{gap_free}
use Rattle.page_map.proofs.GivenUp.{free_none}
use Rattle.page_map.proofs.Least.{unanswered}
use Rattle.page_map.proofs.Mappings.{gap_user}
use Rattle.page_map.proofs.Remapped.{roomy}
use Rattle.page_map.proofs.Steps.{Passed, not_none}
use Rattle.page_map.proofs.Unmapped.{held_of}
use Rattle.machine_plan.specs.declared.kit.Change.{Change}
use Rattle.machine_plan.specs.declared.kit.Kit.{Kit}
use Rattle.machine_plan.specs.Agrees.{HasSpareFor}
use Rattle.machine_plan.specs.Books.{BookData, state_of, RowSum}
use Rattle.machine_plan.specs.Whole.{IsBook}
use Rattle.machine_plan.specs.Kits.{Refs, AreBacked, IsFilled, IsPlanned}
use Rattle.machine_plan.specs.Uses.{Ref, shown_ref, shown_refs, uses_page, used_cells, refs_of, changes_of}
use Rattle.book.specs.Balance.{times, AreHeld}
use Rattle.book.specs.Pieces.{GivesBack}
use Rattle.book.specs.Plain.{MayGiveAll}
use Rattle.book.specs.Settling.{Settles}
use Rattle.book.specs.Rearranging.{rearranges, is_remap, from_in, to_in, moved_ref, carried, AreNear, LeavesSome}
use Rattle.book.proofs.Carried.{none_stay, all_move, all_near}
use Rattle.book.proofs.Counted.{state_limits}
use Rattle.book.proofs.Leaving.{no_frame, no_slot}
use Rattle.book.proofs.Rearranged.{may_give, plan_is, passes, settles}

pub remap_rearranges : (c : Call) → is_remap c ≡ true → rearranges c ≡ true
remap_rearranges (call.Remap space at old_len new_len) h = refl
remap_rearranges _ h = absurd (true≢false (sym h))

abbrev IsNear : ℕ → ℕ → Ref → Type 0
IsNear first end e = (first ≤ e.0) × (e.0 < end)

module _ (st : State) (thread limbo space at old_len new_len : ℕ) (few : thread < 8) (some_levels : 4 ≤ levels st) (few_levels : levels st ≤ 5) (passed : Passed st thread (call.Remap space at old_len new_len) limbo) where
  abbrev cells : AddressSpace
  cells = space_at st space

  abbrev r : Resize
  r = resize_of at old_len new_len

  abbrev put : ℕ
  put = put_at (levels st) thread cells r

  abbrev after : State
  after = state_after st thread (call.Remap space at old_len new_len)

  abbrev uses : ℕ → Bool
  uses = uses_page st thread (call.Remap space at old_len new_len) space

  right : is_page_range (levels st) at old_len ≡ true
  right = (and_parts _ _ (held_of _ _ passed.arguments)).0

  -- the range is one of user pages, before and afterwards
  low_end : (first count : ℕ) → is_user_range (levels st) first count ≡ true → first + count < 2 ^ 44
  low_end first count h = omega (arith, ltb-true (first + count) (2 ^ (9 * levels st - 1)) (and_parts _ (nat_lt (first + count) (2 ^ (9 * levels st - 1))) h).1, pow_mono (nine (levels st) few_levels))
    where
      nine : (n : ℕ) → n ≤ 5 → 9 * n - 1 ≤ 44
      nine n h = omega (arith, h)

  old_end : r.first + r.old < 2 ^ 44
  old_end = low_end r.first r.old (and_parts _ (is_user_range (levels st) (at / 4096) (pages_of old_len)) right).1

  some_page : 1 ≤ r.old
  some_page = some (ltb-true 0 old_len (and_parts _ (nat_lt 0 old_len) (and_parts _ (is_user_range (levels st) (at / 4096) (pages_of old_len)) right).0).1)
    where
      some : {n : ℕ} → 0 < n → 1 ≤ (n + 4095) / 4096
      some h = omega (arith, h)

  old_there : (q : ℕ) → r.first ≤ q → q < r.first + r.old → fin.get cells q ≡ None → ⊥
  old_there q low high none = not_none (ap (λ o. cond (is_none o) (Some q) None) (sym none) ∙ unanswered (λ n. cond (is_none (fin.get cells n)) (Some n) None) r.first r.old (no_hole (hole cells at old_len) passed.pages) q low high)
    where
      no_hole : (o : Option ℕ) → hole_reply o ≡ None → o ≡ None
      no_hole None e = refl
      no_hole (Some page) e = absurd (not_none e)

  module _ (moved : moves (levels st) cells r ≡ true) where
    larger : r.old < r.new
    larger = ltb-true r.old r.new (and_parts (grows r) (not (has_room (levels st) cells r)) moved).0

    there : (to : ℕ) × (gap thread cells r.new ≡ Some to)
    there = go (gap thread cells r.new) refl (ap (λ b. b && is_none (gap thread cells r.new)) (sym moved) ∙ (roomy st thread limbo space at old_len new_len passed).0)
      where
        go : (o : Option ℕ) → gap thread cells r.new ≡ o → is_none (gap thread cells r.new) ≡ false → (to : ℕ) × (gap thread cells r.new ≡ Some to)
        go None e some = absurd (true≢false (ap is_none (sym e) ∙ some))
        go (Some to) e some = (to, e)

    put_is : put ≡ there.0
    put_is = (λ i. cond (moved i) (unwrap_or (gap thread cells r.new) 0) r.first) ∙ ap (λ o. unwrap_or o 0) there.1

    new_end : put < 2 ^ 44
    new_end = omega (arith, put_is, low_end there.0 r.new (gap_user (levels st) thread cells r.new there.0 some_levels few there.1))

    free : (q : ℕ) → within put r.new q ≡ true → fin.get cells q ≡ None
    free q w = free_none cells there.0 r.new q (gap_free thread cells r.new there.0 there.1) (ap (λ n. within n r.new q) (sym put_is) ∙ w)

    apart : nat_eq r.first put ≡ false
    apart = false_from_ne_true _ (λ same. here (eqb-true r.first put same))
      where
        here : r.first ≡ put → ⊥
        here e = old_there r.first (omega arith) (omega (arith, some_page)) (free r.first (to_range put r.new r.first (omega (arith, e)) (omega (arith, e, larger))))

    both : (k : ℕ) → uses k ≡ (within r.first r.old k || within put r.new k)
    both k =
        ap (λ b. b && is_resized st thread space r k) (nat_eq_equiv.refl space)
        ∙ ap (λ b. within (cond b r.first (r.first + r.new)) (cond b r.old (r.old - r.new)) k || within (cond b put (r.first + r.old)) (cond b r.new (r.new - r.old)) k) moved

  stays_put : moves (levels st) cells r ≡ false → put ≡ r.first
  stays_put stays = ap (λ b. cond b (unwrap_or (gap thread cells r.new) 0) r.first) stays

  fits : put < 2 ^ 44
  fits = go (moves (levels st) cells r) refl
    where
      go : (b : Bool) → moves (levels st) cells r ≡ b → put < 2 ^ 44
      go true moved = new_end moved
      go false stays = omega (arith, stays_put stays, old_end)

  module _ (number_of : Cell → Option ℕ) (no_number : (what : Backing) (perm : Perm) (i : ℕ) → number_of (backed what perm i) ≡ None) where
    abbrev refs_in : AddressSpace → List Ref
    refs_in m = refs_of number_of (filter (λ e. uses e.0) (fin.entries m))

    left : refs_of number_of (used_cells st after thread (call.Remap space at old_len new_len)) ≡ carried r.first put (refs_of number_of (used_cells st st thread (call.Remap space at old_len new_len)))
    unfolding state_after
    left =
        ap refs_in (spaces_changed st space (remapped (levels st) thread r cells) after.tables space ∙ ap (λ b. cond b (remapped (levels st) thread r cells) cells) (nat_eq_equiv.refl space))
        ∙ go (moves (levels st) cells r) refl
      where
        go : (b : Bool) → moves (levels st) cells r ≡ b → refs_in (remapped (levels st) thread r cells) ≡ carried r.first put (refs_in cells)
        go true moved =
            all_move number_of no_number uses (levels st) thread r cells put refl (more (larger moved)) (free moved) (both moved)
            ∙ ap (λ b. cond b [] (map (moved_ref r.first put) (refs_in cells))) (sym (apart moved))
          where
            more : {a b : ℕ} → a < b → a ≤ b
            more h = omega (arith, h)
        go false stays =
            none_stay number_of no_number uses (levels st) thread r cells stays (λ k. ap (λ b. b && is_resized st thread space r k) (nat_eq_equiv.refl space))
            ∙ ap (λ b. cond b [] (map (moved_ref r.first put) (refs_in cells))) (sym (ap (nat_eq r.first) (stays_put stays) ∙ nat_eq_equiv.refl r.first))

    near : nat_eq r.first put ≡ false → AllByRecursion (IsNear r.first (r.first + r.old)) (refs_of number_of (used_cells st st thread (call.Remap space at old_len new_len)))
    near other = go (moves (levels st) cells r) refl
      where
        more : {a b : ℕ} → a < b → a ≤ b
        more h = omega (arith, h)

        go : (b : Bool) → moves (levels st) cells r ≡ b → AllByRecursion (IsNear r.first (r.first + r.old)) (refs_in cells)
        go true moved = all_near number_of no_number uses (levels st) thread r cells put refl (more (larger moved)) (free moved) (both moved)
        go false stays = absurd (true≢false (sym (ap (nat_eq r.first) (stays_put stays) ∙ nat_eq_equiv.refl r.first) ∙ other))

-- What a commit of such a call relies on
pub record IsPlaced (st : State) (thread : ℕ) (c : Call) (first to : ℕ) : Type 0 where
  pub fits : to < 2 ^ 44
  pub answers : reply.At (4096 * to) ≡ answer st thread c
  pub frames : refs_of frame_of (used_cells st (state_after st thread c) thread c) ≡ carried first to (refs_of frame_of (used_cells st st thread c))
  pub slots : refs_of slot_of (used_cells st (state_after st thread c) thread c) ≡ carried first to (refs_of slot_of (used_cells st st thread c))
  pub frames_near : nat_eq first to ≡ false → AllByRecursion (IsNear first (2 ^ 62)) (refs_of frame_of (used_cells st st thread c))
  pub slots_near : nat_eq first to ≡ false → AllByRecursion (IsNear first (2 ^ 62)) (refs_of slot_of (used_cells st st thread c))

nearer : (first end far : ℕ) → end ≤ far → (refs : List Ref) → AllByRecursion (IsNear first end) refs → AllByRecursion (IsNear first far) refs
nearer first end far more [] h = tt
nearer first end far more (e ∷ refs) h = ((h.0.0, omega (arith, h.0.1, more)), nearer first end far more refs h.1)

pub placed : (st : State) (thread limbo : ℕ) (c : Call) → is_remap c ≡ true → thread < 8 → 4 ≤ levels st → levels st ≤ 5 → Passed st thread c limbo → (changes : List Change) → changes ≡ changes_of st thread c →
    IsPlaced st thread c (option_map_or from_in (slice_get changes 0) 0) (option_map_or to_in (slice_get changes 0) 0)
unfolding changes_of answer
placed st thread limbo (call.Remap space at old_len new_len) h few some_levels few_levels passed changes planned =
    let c : Call = call.Remap space at old_len new_len in
    let end = old_end st thread limbo space at old_len new_len few some_levels few_levels passed in
    subst (λ (changes : List Change). IsPlaced st thread c (option_map_or from_in (slice_get changes 0) 0) (option_map_or to_in (slice_get changes 0) 0)) (sym planned) (record {
      fits = fits st thread limbo space at old_len new_len few some_levels few_levels passed;
      answers = refl;
      frames = left st thread limbo space at old_len new_len few some_levels few_levels passed frame_of no_frame;
      slots = left st thread limbo space at old_len new_len few some_levels few_levels passed slot_of no_slot;
      frames_near = λ apart. nearer _ _ (2 ^ 62) (omega (arith, end)) _ (near st thread limbo space at old_len new_len few some_levels few_levels passed frame_of no_frame apart);
      slots_near = λ apart. nearer _ _ (2 ^ 62) (omega (arith, end)) _ (near st thread limbo space at old_len new_len few some_levels few_levels passed slot_of no_slot apart);
    })
placed st thread limbo _ h few some_levels few_levels passed changes planned = absurd (true≢false (sym h))

-- The same for the references of a kit

pub near_refs : (first end : ℕ) (own : Refs) → AllByRecursion (IsNear first end) (shown_refs own) → AreNear first end own
near_refs first end own h = All-from_recursion (λ r. (first ≤ r.0) × (r.0 < end)) own (go own h)
  where
    go : (own : Refs) → AllByRecursion (IsNear first end) (shown_refs own) → AllByRecursion (λ r. (first ≤ r.0) × (r.0 < end)) own
    go [] h = tt
    go (r ∷ refs) h = (h.0, go refs h.1)

pub shown_carried : (first to : ℕ) (own : Refs) → shown_refs (carried first to own) ≡ carried first to (shown_refs own)
shown_carried first to own = go (nat_eq first to)
  where
    each : (own : Refs) → shown_refs (map (moved_ref first to) own) ≡ map (moved_ref first to) (shown_refs own)
    each [] = refl
    each (r ∷ refs) = ap (λ (l : List Ref). moved_ref first to (shown_ref r) ∷ l) (each refs)

    go : (b : Bool) → shown_refs (cond b [] (map (moved_ref first to) own)) ≡ cond b [] (map (moved_ref first to) (shown_refs own))
    go true = refl
    go false = each own

times_moved : (first to : ℕ) (own : Refs) (n : ℕ) → times n (shown_refs (map (moved_ref first to) own)) ≡ times n (shown_refs own)
times_moved first to [] n = refl
times_moved first to (r ∷ refs) n =
    omega (arith, times_moved first to refs n, sum_by-cons (λ (r : Ref). cond (nat_eq r.1.0 n) 1 0) (shown_ref r) (shown_refs refs), sum_by-cons (λ (r : Ref). cond (nat_eq r.1.0 n) 1 0) (moved_ref first to (shown_ref r)) (shown_refs (map (moved_ref first to) refs)))

fewer_carried : (first to : ℕ) (own : Refs) (n : ℕ) → times n (shown_refs (carried first to own)) ≤ times n (shown_refs own)
fewer_carried first to own n = go (nat_eq first to)
  where
    go : (b : Bool) → times n (shown_refs (cond b [] (map (moved_ref first to) own))) ≤ times n (shown_refs own)
    go true = omega arith
    go false = omega (arith, times_moved first to own n)

-- references at other pages are the same numbers
pub all_along : (counts : PageCounts) (first to : ℕ) (own : Refs) → AreHeld counts (shown_refs own) → AreBacked counts own → GivesBack counts counts own (map (moved_ref first to) own)
all_along counts first to own held backed = record {
  balance = record { numbers = refl; counts = λ n. omega (arith, times_moved first to own n) };
  spares = λ n h. h;
  held = record { each = λ n. omega (arith, held.each n, times_moved first to own n) };
  backed = All-map (λ r. HasSpareFor counts r.1) (moved_ref first to) own backed;
}

module _ (a now : BookData) (same : a ≡ now) (thread : ℕ) (c : Call) (kit : Kit) (is : IsBook a) (sum : RowSum now) (filled : IsFilled now thread c kit) (none : refusal (state_of now) thread c (length now.limbo) ≡ None) (kind : is_remap c ≡ true) where
  pub may_carry : MayGiveAll a.frames a.slots kit
  may_carry = may_give a now same thread c kit is sum filled none (remap_rearranges c kind)

  plan : IsPlanned a thread c kit
  plan = plan_is a now same thread c kit is sum filled none (remap_rearranges c kind)

  module _ (few : thread < 8) (first to : ℕ) (first_is : first ≡ option_map_or from_in (slice_get kit.changes.items 0) 0) (to_is : to ≡ option_map_or to_in (slice_get kit.changes.items 0) 0) where
    pub place : IsPlaced (state_of a) thread c first to
    place =
        let of_limits = ap (λ (l : Limits). l.levels) (state_limits a) in
        let found = placed (state_of a) thread (length a.limbo) c kind few (omega (arith, of_limits, is.within.some_levels)) (omega (arith, of_limits, is.within.few_levels))
        (passes a now same thread c kit is sum filled none (remap_rearranges c kind)) kit.changes.items plan.changes in
        subst (λ (p : ℕ × ℕ). IsPlaced (state_of a) thread c p.0 p.1) (λ i. (sym first_is i, sym to_is i)) found

    pub frames_near_so : nat_eq first to ≡ false → AreNear first (2 ^ 62) kit.own_frames.items
    frames_near_so apart = near_refs first (2 ^ 62) kit.own_frames.items (subst (λ (refs : List Ref). AllByRecursion (IsNear first (2 ^ 62)) refs) (sym plan.frames) (place.frames_near apart))

    pub slots_near_so : nat_eq first to ≡ false → AreNear first (2 ^ 62) kit.own_slots.items
    slots_near_so apart = near_refs first (2 ^ 62) kit.own_slots.items (subst (λ (refs : List Ref). AllByRecursion (IsNear first (2 ^ 62)) refs) (sym plan.slots) (place.slots_near apart))

    pub remap_answers : reply.At (4096 * to) ≡ answer (state_of now) thread c
    remap_answers = place.answers ∙ ap (λ (x : BookData). answer (state_of x) thread c) same

    pub remap_settles : (pool area : PageCounts) (mid : Kit) → LeavesSome a.frames a.slots kit (carried first to) pool area mid → Settles a thread c kit pool area mid
    remap_settles pool area mid leaves =
        settles a now same thread c kit is sum filled none (remap_rearranges c kind) (carried first to) pool area mid leaves (fewer_carried first to)
        (shown_carried first to kit.own_frames.items ∙ ap (carried first to) plan.frames ∙ sym place.frames)
        (shown_carried first to kit.own_slots.items ∙ ap (carried first to) plan.slots ∙ sym place.slots)
