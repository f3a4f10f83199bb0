-- The commit of a call that takes no number, where references of its pages stay.
use Rattle.std.proofs.Common.{◌≡◌, ℕ, ◌+◌, ◌≤◌, true, false, List, [], ◌∷◌, length, refl, sym, ap, subst, ◌∙◌, arith}
use mathlib.Core.Bool.{true≢false}
use Rattle.std.specs.Prelude.{Option, None}
use Rattle.std.specs.List.{filter}
use Rattle.corten_base.specs.declared.calls.Call.{Call}
use Rattle.corten_base.specs.declared.calls.Call.TheVariants as call
use Rattle.corten_base.specs.declared.calls.TxnOp.{TxnOp}
use Rattle.counted_pages.specs.Pages.{PageCounts}
use Rattle.shares.specs.Counts.{count_of}
use Rattle.page_map.specs.declared.cell.Cell.{Cell}
use Rattle.page_map.specs.Cell.{frame_of, slot_of}
use Rattle.page_map.specs.State.{State}
use Rattle.page_map.specs.Step.{refusal}
use Rattle.page_map.specs.Effect.{state_after, frame_grants, slot_grants}
use Rattle.page_map.proofs.Steps.{Passed, passed}
use Rattle.machine_plan.specs.declared.kit.Kit.{Kit}
use Rattle.machine_plan.specs.Books.{BookData, state_of, RowSum}
use Rattle.machine_plan.specs.Whole.{IsBook}
use Rattle.machine_plan.specs.Kits.{Refs, Seconds, AreReady, AreBacked, IsFilled, IsPlanned, IsUsed, KeepsOthers, kept_cells, new_cells}
use Rattle.machine_plan.specs.Uses.{refs_of, used_cells, shown_refs}
use Rattle.book.specs.Balance.{times, InBalance}
use Rattle.book.specs.Pieces.{GivesBack}
use Rattle.book.specs.Plain.{MayGiveAll}
use Rattle.book.specs.Settling.{Settles}
use Rattle.book.specs.Rearranging.{rearranges, LeavesSome}
use Rattle.book.proofs.Ending.{planned, held_frames, held_slots}
use Rattle.book.proofs.Leaving.{unused_times}

pub by_kind : (P : Call → Type 0) → ((space at len : ℕ) (ops : List TxnOp) → P (call.Txn space at len ops)) → ((space at old_len new_len : ℕ) → P (call.Remap space at old_len new_len)) → (c : Call) → rearranges c ≡ true → P c
by_kind P txn remap (call.Txn space at len ops) h = txn space at len ops
by_kind P txn remap (call.Remap space at old_len new_len) h = remap space at old_len new_len
by_kind P txn remap (call.Map space where_to len perm what) h = absurd (true≢false (sym h))
by_kind P txn remap (call.Unmap space at len) h = absurd (true≢false (sym h))
by_kind P txn remap (call.Protect space at len perm) h = absurd (true≢false (sym h))
by_kind P txn remap (call.Load space at len) h = absurd (true≢false (sym h))
by_kind P txn remap (call.Store space at bytes) h = absurd (true≢false (sym h))
by_kind P txn remap (call.Fault space at write) h = absurd (true≢false (sym h))
by_kind P txn remap call.Spawn h = absurd (true≢false (sym h))
by_kind P txn remap (call.Fork space) h = absurd (true≢false (sym h))
by_kind P txn remap (call.Exit space) h = absurd (true≢false (sym h))
by_kind P txn remap (call.SwapOut space at len) h = absurd (true≢false (sym h))
by_kind P txn remap (call.SwapIn space at len) h = absurd (true≢false (sym h))
by_kind P txn remap (call.DontNeed space at len) h = absurd (true≢false (sym h))

-- No number is taken, so each used page keeps its own, or has none.

all_kept : (es : List (ℕ × Cell)) → filter (λ _. true) es ≡ es
all_kept [] = refl
all_kept (e ∷ es) = ap (λ l. e ∷ l) (all_kept es)

none_kept : (es : List (ℕ × Cell)) → filter (λ _. false) es ≡ []
none_kept [] = refl
none_kept (e ∷ es) = none_kept es

module _ (st now : State) (thread : ℕ) (c : Call) (h : rearranges c ≡ true) where
  no_frames : frame_grants st c ≡ []
  no_frames = by_kind (λ c. frame_grants st c ≡ []) (λ space at len ops. refl) (λ space at old_len new_len. refl) c h

  no_slots : slot_grants st c ≡ []
  no_slots = by_kind (λ c. slot_grants st c ≡ []) (λ space at len ops. refl) (λ space at old_len new_len. refl) c h

  nothing_new : new_cells st now thread c [] ≡ []
  nothing_new = by_kind (λ c. new_cells st now thread c [] ≡ []) (λ space at len ops. none_kept (used_cells st now thread (call.Txn space at len ops)))
      (λ space at old_len new_len. none_kept (used_cells st now thread (call.Remap space at old_len new_len))) c h

  kept_frames : kept_cells st now thread c (frame_grants st c) ≡ used_cells st now thread c
  kept_frames = ap (kept_cells st now thread c) no_frames ∙ all_kept (used_cells st now thread c)

  kept_slots : kept_cells st now thread c (slot_grants st c) ≡ used_cells st now thread c
  kept_slots = ap (kept_cells st now thread c) no_slots ∙ all_kept (used_cells st now thread c)

  came_frames : new_cells st now thread c (frame_grants st c) ≡ []
  came_frames = ap (new_cells st now thread c) no_frames ∙ nothing_new

  came_slots : new_cells st now thread c (slot_grants st c) ≡ []
  came_slots = ap (new_cells st now thread c) no_slots ∙ nothing_new

ready_backed : (c : Call) (counts : PageCounts) (refs : Refs) (seconds : Seconds) → rearranges c ≡ true → AreReady c counts refs seconds → AreBacked counts refs × (seconds ≡ [])
ready_backed c counts refs seconds h = by_kind (λ c. AreReady c counts refs seconds → AreBacked counts refs × (seconds ≡ [])) (λ space at len ops r. r) (λ space at old_len new_len r. r) c h

module _ (a : BookData) (thread : ℕ) (c : Call) (kit : Kit) (is : IsBook a) (sum : RowSum a) (filled : IsFilled a thread c kit) (none : refusal (state_of a) thread c (length a.limbo) ≡ None) (rearranged : rearranges c ≡ true) where
  abbrev st : State
  st = state_of a

  plan : IsPlanned a thread c kit
  plan = planned a thread c kit is sum filled none

  frames_ready : AreBacked a.frames kit.own_frames.items × (kit.second_frames.items ≡ [])
  frames_ready = ready_backed c a.frames kit.own_frames.items kit.second_frames.items rearranged plan.frames_ready

  slots_ready : AreBacked a.slots kit.own_slots.items × (kit.second_slots.items ≡ [])
  slots_ready = ready_backed c a.slots kit.own_slots.items kit.second_slots.items rearranged plan.slots_ready

  may_give_at : MayGiveAll a.frames a.slots kit
  may_give_at = record {
    held_frames = held_frames a thread c kit is sum filled none;
    held_slots = held_slots a thread c kit is sum filled none;
    backed_frames = frames_ready.0;
    backed_slots = slots_ready.0;
  }

  others : (number_of : Cell → Option ℕ) (old new : PageCounts) (own left : Refs) → GivesBack old new own left → ((n : ℕ) → times n (shown_refs left) ≤ times n (shown_refs own)) → shown_refs own ≡ refs_of number_of (used_cells st st thread c) →
      KeepsOthers old new (IsUsed st thread c number_of)
  others number_of old new own left gives fewer was = record {
    counts = λ n owned apart. same n (gives.balance.counts n) (fewer n) (ap (times n) was ∙ unused_times number_of n st thread c apart);
    spares = λ n owned apart. gives.spares n;
    shared = λ n owned. gives.spares n;
  }
    where
      same : (n : ℕ) → count_of new.counts n + times n (shown_refs own) ≡ count_of old.counts n + times n (shown_refs left) + times n [] → times n (shown_refs left) ≤ times n (shown_refs own) → times n (shown_refs own) ≡ 0 → count_of new.counts n ≡ count_of old.counts n
      same n e g h = omega (arith, e, g, h)

  empty_backed : (counts : PageCounts) (refs : Refs) → refs ≡ [] → AreBacked counts refs
  empty_backed counts refs e = subst (λ (refs : Refs). AreBacked counts refs) (sym e) (λ k d inside. absurd (omega (arith, inside)))

  module _ (stay : Refs → Refs) (pool area : PageCounts) (mid : Kit) (leaves : LeavesSome a.frames a.slots kit stay pool area mid) (fewer : (refs : Refs) (n : ℕ) → times n (shown_refs (stay refs)) ≤ times n (shown_refs refs))
      (left_frames : shown_refs (stay kit.own_frames.items) ≡ refs_of frame_of (used_cells st (state_after st thread c) thread c)) (left_slots : shown_refs (stay kit.own_slots.items) ≡ refs_of slot_of (used_cells st (state_after st thread c) thread c)) where
    came_so : mid.frames.items ≡ []
    came_so = leaves.came_frames ∙ filled.ungranted.frames

    came_too : mid.slots.items ≡ []
    came_too = leaves.came_slots ∙ filled.ungranted.slots

    fewer_frames : (n : ℕ) → times n (shown_refs mid.own_frames.items) ≤ times n (shown_refs kit.own_frames.items)
    fewer_frames n = omega (arith, fewer kit.own_frames.items n, ap (λ refs. times n (shown_refs refs)) leaves.left_frames)

    fewer_slots : (n : ℕ) → times n (shown_refs mid.own_slots.items) ≤ times n (shown_refs kit.own_slots.items)
    fewer_slots n = omega (arith, fewer kit.own_slots.items n, ap (λ refs. times n (shown_refs refs)) leaves.left_slots)

    settles_at : Settles a thread c kit pool area mid
    settles_at = let after = state_after st thread c in record {
      frames = subst (λ refs. InBalance a.frames pool (shown_refs kit.own_frames.items) (shown_refs mid.own_frames.items) (shown_refs refs)) (sym came_so) leaves.frames.balance;
      slots = subst (λ refs. InBalance a.slots area (shown_refs kit.own_slots.items) (shown_refs mid.own_slots.items) (shown_refs refs)) (sym came_too) leaves.slots.balance;
      left_frames = ap shown_refs leaves.left_frames ∙ left_frames ∙ ap (refs_of frame_of) (sym (kept_frames st after thread c rearranged));
      left_slots = ap shown_refs leaves.left_slots ∙ left_slots ∙ ap (refs_of slot_of) (sym (kept_slots st after thread c rearranged));
      new_frames = ap shown_refs came_so ∙ ap (refs_of frame_of) (sym (came_frames st after thread c rearranged));
      new_slots = ap shown_refs came_too ∙ ap (refs_of slot_of) (sym (came_slots st after thread c rearranged));
      backed = (leaves.frames.backed, empty_backed pool _ came_so, leaves.slots.backed, empty_backed area _ came_too);
      seconds = (leaves.second_frames ∙ frames_ready.1, leaves.second_slots ∙ slots_ready.1);
      frames_kept = others frame_of a.frames pool _ _ leaves.frames fewer_frames plan.frames;
      slots_kept = others slot_of a.slots area _ _ leaves.slots fewer_slots plan.slots;
      lists = leaves.lists filled.room;
    }

-- The same for a book by what clauses see of it
module _ (a now : BookData) (same : a ≡ now) (thread : ℕ) (c : Call) (kit : Kit) (is : IsBook a) (sum : RowSum now) (filled : IsFilled now thread c kit) (none : refusal (state_of now) thread c (length now.limbo) ≡ None) (rearranged : rearranges c ≡ true) where
  sum_a : RowSum a
  sum_a = subst (λ (x : BookData). RowSum x) (sym same) sum

  filled_a : IsFilled a thread c kit
  filled_a = subst (λ (x : BookData). IsFilled x thread c kit) (sym same) filled

  none_a : refusal (state_of a) thread c (length a.limbo) ≡ None
  none_a = subst (λ (x : BookData). refusal (state_of x) thread c (length x.limbo) ≡ None) (sym same) none

  pub may_give : MayGiveAll a.frames a.slots kit
  may_give = may_give_at a thread c kit is sum_a filled_a none_a rearranged

  pub plan_is : IsPlanned a thread c kit
  plan_is = planned a thread c kit is sum_a filled_a none_a

  pub passes : Passed (state_of a) thread c (length a.limbo)
  passes = passed (state_of a) thread c (length a.limbo) none_a

  pub settles : (stay : Refs → Refs) (pool area : PageCounts) (mid : Kit) → LeavesSome a.frames a.slots kit stay pool area mid → ((refs : Refs) (n : ℕ) → times n (shown_refs (stay refs)) ≤ times n (shown_refs refs)) →
      shown_refs (stay kit.own_frames.items) ≡ refs_of frame_of (used_cells (state_of a) (state_after (state_of a) thread c) thread c) →
      shown_refs (stay kit.own_slots.items) ≡ refs_of slot_of (used_cells (state_of a) (state_after (state_of a) thread c) thread c) → Settles a thread c kit pool area mid
  settles = settles_at a thread c kit is sum_a filled_a none_a rearranged
