-- The commit of a `fork`.
use Rattle.std.proofs.Common.{◌≡◌, ℕ, ◌<◌, ◌≤◌, Bool, true, false, cond, not, List, [], ◌∷◌, refl, sym, ap, subst, ◌∙◌, arith}
use mathlib.Core.Bool.{true≢false}
use Rattle.std.specs.Prelude.{Option, Some, None, is_some, length, nat_eq, slice_get}
use Rattle.std.specs.List.{filter}
use Rattle.std.specs.Option.{unwrap_or, option_map_or}
use Rattle.std.specs.Cmp.{nat_eq_equiv}
use Rattle.std.specs.FinMap as fin
use Rattle.std.proofs.lemmas.Bool.{eqb-true, not-true}
use Rattle.corten_base.specs.declared.calls.Call.{Call}
use Rattle.corten_base.specs.declared.calls.Call.TheVariants as call
use Rattle.corten_base.specs.declared.calls.Reply.TheVariants as reply
use Rattle.counted_pages.specs.Pages.{PageCounts}
use Rattle.shares.specs.Counts.{count_of}
use Rattle.page_map.specs.declared.cell.Cell.{Cell}
use Rattle.page_map.specs.Cell.{frame_of, slot_of}
use Rattle.page_map.specs.Effect.{state_after, answer}
use Rattle.page_map.specs.Spaces.{least_absent}
use Rattle.page_map.specs.State.{State, IsConsistent, SharersAgree, owners, space_at, is_present}
use Rattle.page_map.specs.Step.{refusal}
use Rattle.page_map.proofs.Cells.{spaces_changed}
use Rattle.page_map.proofs.Few.{one_each, owners_fewer}
use Rattle.page_map.proofs.Least.{least_passes}
use Rattle.page_map.proofs.Steps.{Passed, passed}
use Rattle.page_map.proofs.Unmapped.{held_of}
use Rattle.machine_plan.specs.declared.kit.Kit.{Kit}
use Rattle.machine_plan.specs.Books.{BookData, state_of, RowSum}
use Rattle.machine_plan.specs.Whole.{IsBook}
use Rattle.machine_plan.specs.Kits.{Refs, AreBacked, IsFilled, IsPlanned, IsUsed, KeepsOthers, kept_cells, new_cells}
use Rattle.machine_plan.specs.Uses.{uses_page, used_cells, refs_of, shown_refs, changes_of}
use Rattle.machine_plan.proofs.Whole.{book_is_consistent}
use Rattle.book.specs.Balance.{times}
use Rattle.book.specs.Sharing.{is_fork, copy_in, AreShareable, Shares, MayShareAll, SharesAll}
use Rattle.book.specs.Settling.{Settles}
use Rattle.book.proofs.Totals.{used_most}
use Rattle.book.proofs.Leaving.{held_times, unused_times}
use Rattle.book.proofs.Ending.{planned}

fork_space : (c : Call) → is_fork c ≡ true → (space : ℕ) × (c ≡ call.Fork space)
fork_space (call.Fork space) h = (space, refl)
fork_space (call.Map space where_to len perm what) h = absurd (true≢false (sym h))
fork_space (call.Unmap space at len) h = absurd (true≢false (sym h))
fork_space (call.Protect space at len perm) h = absurd (true≢false (sym h))
fork_space (call.Load space at len) h = absurd (true≢false (sym h))
fork_space (call.Store space at bytes) h = absurd (true≢false (sym h))
fork_space (call.Fault space at write) h = absurd (true≢false (sym h))
fork_space call.Spawn h = absurd (true≢false (sym h))
fork_space (call.Exit space) h = absurd (true≢false (sym h))
fork_space (call.SwapOut space at len) h = absurd (true≢false (sym h))
fork_space (call.SwapIn space at len) h = absurd (true≢false (sym h))
fork_space (call.Txn space at len ops) h = absurd (true≢false (sym h))
fork_space (call.DontNeed space at len) h = absurd (true≢false (sym h))
fork_space (call.Remap space at old_len new_len) h = absurd (true≢false (sym h))

all_pass : {X : Type 0} (p : X → Bool) (xs : List X) → ((x : X) → p x ≡ true) → filter p xs ≡ xs
all_pass p [] h = refl
all_pass p (x ∷ xs) h = ap (λ b. cond b (x ∷ filter p xs) (filter p xs)) (h x) ∙ ap (λ ys. x ∷ ys) (all_pass p xs h)

some_of : {X : Type 0} (o : Option X) → is_some o ≡ true → (x : X) × (o ≡ Some x)
some_of None h = absurd (true≢false (sym h))
some_of (Some x) h = (x, refl)

none_of : {X : Type 0} (o : Option X) → is_some o ≡ false → o ≡ None
none_of None h = refl
none_of (Some x) h = absurd (true≢false h)

module _ (st : State) (thread limbo space : ℕ) (p : Passed st thread (call.Fork space) limbo) where
  abbrev c : Call
  c = call.Fork space

  abbrev now : State
  now = state_after st thread c

  abbrev copy : ℕ
  copy = unwrap_or (least_absent st) 0

  absent_at : (copy < 64) × (is_present st copy ≡ false)
  absent_at =
      let new = some_of (least_absent st) (held_of _ _ p.spaces) in
      let passes = least_passes 0 64 (λ s. not (is_present st s)) new.0 new.1 in
      let same : copy ≡ new.0 = ap (λ (o : Option ℕ). unwrap_or o 0) new.1 in
      (omega (arith, same, passes.0), ap (is_present st) same ∙ not-true (is_present st new.0) passes.2)

  differs : nat_eq space copy ≡ false
  differs = go (nat_eq space copy) refl
    where
      go : (b : Bool) → nat_eq space copy ≡ b → nat_eq space copy ≡ false
      go false e = e
      go true e = absurd (true≢false (sym (held_of _ _ p.space) ∙ ap (is_present st) (eqb-true space copy e) ∙ absent_at.1))

  copied : space_at now copy ≡ space_at st space
  unfolding state_after
  copied = spaces_changed st copy (space_at st space) now.tables copy ∙ ap (λ b. cond b (space_at st space) (space_at st copy)) (nat_eq_equiv.refl copy)

  stays : space_at now space ≡ space_at st space
  unfolding state_after
  stays = spaces_changed st copy (space_at st space) now.tables space ∙ ap (λ b. cond b (space_at st space) (space_at st space)) differs

  used_before : used_cells st st thread c ≡ fin.entries (space_at st space)
  used_before = all_pass (λ e. nat_eq space space) (fin.entries (space_at st space)) (λ e. nat_eq_equiv.refl space)

  used_after : used_cells st now thread c ≡ fin.entries (space_at st space)
  used_after = all_pass (λ e. nat_eq space space) (fin.entries (space_at now space)) (λ e. nat_eq_equiv.refl space) ∙ ap fin.entries stays

  kept_are : kept_cells st now thread c [] ≡ used_cells st st thread c
  kept_are = all_pass (λ e. true) (used_cells st now thread c) (λ e. refl) ∙ used_after ∙ sym used_before

  new_are : new_cells st now thread c [] ≡ used_cells st st thread c
  new_are = ap fin.entries copied ∙ sym used_before

  module _ (number_of : Cell → Option ℕ) (ok : IsConsistent st) (shared : SharersAgree number_of st) (counts : PageCounts) (same : (n : ℕ) → count_of counts.counts n ≡ owners number_of st n)
      (own : Refs) (was : shown_refs own ≡ refs_of number_of (used_cells st st thread c)) where
    once : (n : ℕ) → times n (shown_refs own) ≤ 1
    once n =
        let most = used_most number_of n (uses_page st thread c space) (space_at st space) in
        let one = one_each number_of n st shared space in
        let here : times n (shown_refs own) ≡ times n (refs_of number_of (filter (λ e. uses_page st thread c space e.0) (fin.entries (space_at st space)))) = ap (times n) was in
        omega (arith, most, one, here)

    shareable : AreShareable counts own
    shareable = record {
      held = λ n. let all = held_times number_of n st thread c in let here = ap (times n) was in omega (arith, all, here, same n);
      room = λ n. let few = owners_fewer number_of n st ok shared copy absent_at.0 absent_at.1 in let one = once n in omega (arith, few, one, same n);
    }

    module _ (new : PageCounts) (came : Refs) (shares : Shares counts new own came) where
      came_are : shown_refs came ≡ refs_of number_of (new_cells st now thread c [])
      came_are = ap shown_refs shares.same ∙ was ∙ ap (refs_of number_of) (sym new_are)

      left_are : shown_refs own ≡ refs_of number_of (kept_cells st now thread c [])
      left_are = was ∙ ap (refs_of number_of) (sym kept_are)

      came_backed : AreBacked new came
      came_backed = subst (λ (l : Refs). AreBacked new l) (sym shares.same) shares.backed

      others : KeepsOthers counts new (IsUsed st thread c number_of)
      others = record {
        counts = λ n owned apart.
            let none : times n (shown_refs own) ≡ 0 = ap (times n) was ∙ unused_times number_of n st thread c apart in
            let both : times n (shown_refs came) ≡ times n (shown_refs own) = ap (λ (l : Refs). times n (shown_refs l)) shares.same in
            omega (arith, shares.balance.counts n, none, both);
        spares = λ n owned apart. shares.spares n;
        shared = λ n owned. shares.spares n;
      }

module _ (a : BookData) (thread space : ℕ) (kit : Kit) (is : IsBook a) (sum : RowSum a) (filled : IsFilled a thread (call.Fork space) kit) (none : refusal (state_of a) thread (call.Fork space) (length a.limbo) ≡ None) where
  abbrev st : State
  st = state_of a

  ok : IsConsistent st
  ok = book_is_consistent a is

  pass : Passed st thread (call.Fork space) (length a.limbo)
  pass = passed st thread (call.Fork space) (length a.limbo) none

  plan : IsPlanned a thread (call.Fork space) kit
  plan = planned a thread (call.Fork space) kit is sum filled none

  may_share_at : MayShareAll a.frames a.slots kit
  may_share_at = record {
    frames = shareable st thread (length a.limbo) space pass frame_of ok ok.shared_frames a.frames is.counts.frames kit.own_frames.items plan.frames;
    slots = shareable st thread (length a.limbo) space pass slot_of ok ok.shared_slots a.slots is.counts.slots kit.own_slots.items plan.slots;
    second_frames = plan.frames_ready;
    second_slots = plan.slots_ready;
    few_frames = filled.few.frames;
    few_slots = filled.few.slots;
    no_frames = filled.ungranted.frames;
    no_slots = filled.ungranted.slots;
    room = filled.room;
  }

  module _ (pool area : PageCounts) (mid : Kit) (all : SharesAll a.frames a.slots kit pool area mid) where
    own_backed : (counts : PageCounts) (own left : Refs) → left ≡ own → AreBacked counts own → AreBacked counts left
    own_backed counts own left same backed = subst (λ (l : Refs). AreBacked counts l) (sym same) backed

    settles_at : Settles a thread (call.Fork space) kit pool area mid
    settles_at = record {
      frames = record { numbers = all.frames.balance.numbers; counts = λ n. let same = ap (λ (l : Refs). times n (shown_refs l)) all.left_frames in omega (arith, all.frames.balance.counts n, same) };
      slots = record { numbers = all.slots.balance.numbers; counts = λ n. let same = ap (λ (l : Refs). times n (shown_refs l)) all.left_slots in omega (arith, all.slots.balance.counts n, same) };
      left_frames = ap shown_refs all.left_frames ∙ left_are st thread (length a.limbo) space pass frame_of ok ok.shared_frames a.frames is.counts.frames kit.own_frames.items plan.frames pool mid.frames.items all.frames;
      left_slots = ap shown_refs all.left_slots ∙ left_are st thread (length a.limbo) space pass slot_of ok ok.shared_slots a.slots is.counts.slots kit.own_slots.items plan.slots area mid.slots.items all.slots;
      new_frames = came_are st thread (length a.limbo) space pass frame_of ok ok.shared_frames a.frames is.counts.frames kit.own_frames.items plan.frames pool mid.frames.items all.frames;
      new_slots = came_are st thread (length a.limbo) space pass slot_of ok ok.shared_slots a.slots is.counts.slots kit.own_slots.items plan.slots area mid.slots.items all.slots;
      backed = (
        own_backed pool _ _ all.left_frames all.frames.backed,
        came_backed st thread (length a.limbo) space pass frame_of ok ok.shared_frames a.frames is.counts.frames kit.own_frames.items plan.frames pool mid.frames.items all.frames,
        own_backed area _ _ all.left_slots all.slots.backed,
        came_backed st thread (length a.limbo) space pass slot_of ok ok.shared_slots a.slots is.counts.slots kit.own_slots.items plan.slots area mid.slots.items all.slots,
      );
      seconds = (all.second_frames, all.second_slots);
      frames_kept = others st thread (length a.limbo) space pass frame_of ok ok.shared_frames a.frames is.counts.frames kit.own_frames.items plan.frames pool mid.frames.items all.frames;
      slots_kept = others st thread (length a.limbo) space pass slot_of ok ok.shared_slots a.slots is.counts.slots kit.own_slots.items plan.slots area mid.slots.items all.slots;
      lists = all.lists;
    }

  answered_at : reply.Space (option_map_or copy_in (slice_get kit.changes.items 0) 0) ≡ answer st thread (call.Fork space)
  unfolding changes_of answer
  answered_at = ap (λ changes. reply.Space (option_map_or copy_in (slice_get changes 0) 0)) plan.changes

-- The same for a book by what clauses see of it
module _ (a now : BookData) (same : a ≡ now) (thread : ℕ) (c : Call) (kit : Kit) (is : IsBook a) (sum : RowSum now) (filled : IsFilled now thread c kit) (none : refusal (state_of now) thread c (length now.limbo) ≡ None) (fork : is_fork c ≡ true) where
  abbrev space : ℕ
  space = (fork_space c fork).0

  is_it : c ≡ call.Fork space
  is_it = (fork_space c fork).1

  sum_a : RowSum a
  sum_a = subst (λ (x : BookData). RowSum x) (sym same) sum

  filled_a : IsFilled a thread (call.Fork space) kit
  filled_a = subst (λ (x : BookData × Call). IsFilled x.0 thread x.1 kit) (λ i. (sym same i, is_it i)) filled

  none_a : refusal (state_of a) thread (call.Fork space) (length a.limbo) ≡ None
  none_a = subst (λ (x : BookData × Call). refusal (state_of x.0) thread x.1 (length x.0.limbo) ≡ None) (λ i. (sym same i, is_it i)) none

  pub may_share : MayShareAll a.frames a.slots kit
  may_share = may_share_at a thread space kit is sum_a filled_a none_a

  pub settles : (pool area : PageCounts) (mid : Kit) → SharesAll a.frames a.slots kit pool area mid → Settles a thread c kit pool area mid
  settles pool area mid all = subst (λ (d : Call). Settles a thread d kit pool area mid) (sym is_it) (settles_at a thread space kit is sum_a filled_a none_a pool area mid all)

  pub answered : (number : ℕ) → number ≡ option_map_or copy_in (slice_get kit.changes.items 0) 0 → reply.Space number ≡ answer (state_of now) thread c
  answered number by_kit =
      ap (λ n. reply.Space n) by_kit ∙ answered_at a thread space kit is sum_a filled_a none_a ∙ (λ i. answer (state_of (same i)) thread (sym is_it i))
