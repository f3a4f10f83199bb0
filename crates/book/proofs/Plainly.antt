-- The commit of a plain call, and of a call that is refused.
use Rattle.std.proofs.Common.{◌≡◌, ℕ, ◌+◌, true, [], ◌∷◌, ◌++◌, length, map, refl, sym, ap, subst, ◌∙◌, arith}
use mathlib.Core.Bool.{true≢false}
use Rattle.std.specs.Prelude.{Some, None, is_some}
use Rattle.corten_base.specs.declared.calls.Call.{Call}
use Rattle.corten_base.specs.declared.calls.Call.TheVariants as call
use Rattle.corten_base.specs.declared.calls.Reply.{Reply}
use Rattle.counted_pages.specs.Pages.{PageCounts}
use Rattle.shares.specs.Counts.{count_of}
use Rattle.page_map.specs.declared.cell.Cell.{Cell}
use Rattle.page_map.specs.Cell.{frame_of, slot_of}
use Rattle.page_map.specs.State.{State}
use Rattle.page_map.specs.Step.{refusal}
use Rattle.page_map.specs.Effect.{answer, frame_grants, slot_grants}
use Rattle.page_map.proofs.Steps.{refused}
use Rattle.machine_plan.specs.declared.kit.Kit.{Kit}
use Rattle.machine_plan.specs.Books.{BookData, state_of, RowSum, unblocked}
use Rattle.machine_plan.specs.Whole.{IsBook}
use Rattle.machine_plan.specs.Kits.{Refs, Seconds, AreReady, AreBacked, IsFilled, IsPlanned, IsUsed, KeepsOthers, Commits}
use Rattle.machine_plan.specs.Uses.{refs_of, used_cells, shown_refs, changes_of}
use Rattle.book.specs.Balance.{times, InBalance}
use Rattle.book.specs.Pieces.{GivesBack}
use Rattle.book.specs.Plain.{is_plain, plain_reply, MayGiveAll, GivesAll}
use Rattle.book.specs.Settling.{Settles}
use Rattle.book.proofs.Ending.{planned, held_frames, held_slots}
use Rattle.book.proofs.Entering.{entry_of}
use Rattle.book.proofs.Leaving.{unused_times, none_left, none_came, no_frame, no_slot}

ready_backed : (c : Call) (counts : PageCounts) (refs : Refs) (seconds : Seconds) → is_plain c ≡ true → AreReady c counts refs seconds → AreBacked counts refs × (seconds ≡ [])
ready_backed (call.Map space where_to len perm what) counts refs seconds h r = r
ready_backed (call.Unmap space at len) counts refs seconds h r = r
ready_backed (call.Protect space at len perm) counts refs seconds h r = r
ready_backed call.Spawn counts refs seconds h r = r
ready_backed (call.Exit space) counts refs seconds h r = r
ready_backed (call.Load space at len) counts refs seconds h r = absurd (true≢false (sym h))
ready_backed (call.Store space at bytes) counts refs seconds h r = absurd (true≢false (sym h))
ready_backed (call.Fault space at write) counts refs seconds h r = absurd (true≢false (sym h))
ready_backed (call.Fork space) counts refs seconds h r = absurd (true≢false (sym h))
ready_backed (call.SwapOut space at len) counts refs seconds h r = absurd (true≢false (sym h))
ready_backed (call.SwapIn space at len) counts refs seconds h r = absurd (true≢false (sym h))
ready_backed (call.Txn space at len ops) counts refs seconds h r = absurd (true≢false (sym h))
ready_backed (call.DontNeed space at len) counts refs seconds h r = r
ready_backed (call.Remap space at old_len new_len) counts refs seconds h r = absurd (true≢false (sym h))

plain_reply_is : (st : State) (thread : ℕ) (c : Call) → is_plain c ≡ true → plain_reply c (changes_of st thread c) ≡ answer st thread c
unfolding changes_of answer
plain_reply_is st thread (call.Map space where_to len perm what) h = refl
plain_reply_is st thread (call.Unmap space at len) h = refl
plain_reply_is st thread (call.Protect space at len perm) h = refl
plain_reply_is st thread call.Spawn h = refl
plain_reply_is st thread (call.Exit space) h = refl
plain_reply_is st thread (call.Load space at len) h = absurd (true≢false (sym h))
plain_reply_is st thread (call.Store space at bytes) h = absurd (true≢false (sym h))
plain_reply_is st thread (call.Fault space at write) h = absurd (true≢false (sym h))
plain_reply_is st thread (call.Fork space) h = absurd (true≢false (sym h))
plain_reply_is st thread (call.SwapOut space at len) h = absurd (true≢false (sym h))
plain_reply_is st thread (call.SwapIn space at len) h = absurd (true≢false (sym h))
plain_reply_is st thread (call.Txn space at len ops) h = absurd (true≢false (sym h))
plain_reply_is st thread (call.DontNeed space at len) h = refl
plain_reply_is st thread (call.Remap space at old_len new_len) h = absurd (true≢false (sym h))

module _ (a : BookData) (thread : ℕ) (c : Call) (kit : Kit) (is : IsBook a) (sum : RowSum a) (filled : IsFilled a thread c kit) (none : refusal (state_of a) thread c (length a.limbo) ≡ None) (plain : is_plain c ≡ true) where
  abbrev st : State
  st = state_of a

  plan : IsPlanned a thread c kit
  plan = planned a thread c kit is sum filled none

  frames_ready : AreBacked a.frames kit.own_frames.items × (kit.second_frames.items ≡ [])
  frames_ready = ready_backed c a.frames kit.own_frames.items kit.second_frames.items plain plan.frames_ready

  slots_ready : AreBacked a.slots kit.own_slots.items × (kit.second_slots.items ≡ [])
  slots_ready = ready_backed c a.slots kit.own_slots.items kit.second_slots.items plain plan.slots_ready

  may_give_at : MayGiveAll a.frames a.slots kit
  may_give_at = record {
    held_frames = held_frames a thread c kit is sum filled none;
    held_slots = held_slots a thread c kit is sum filled none;
    backed_frames = frames_ready.0;
    backed_slots = slots_ready.0;
  }

  others : (number_of : Cell → _) (old new : PageCounts) (own left : Refs) → GivesBack old new own left → left ≡ [] → shown_refs own ≡ refs_of number_of (used_cells st st thread c) → KeepsOthers old new (IsUsed st thread c number_of)
  others number_of old new own left gives none_left_over was = record {
    counts = λ n owned apart. same n (gives.balance.counts n) (ap (times n) was ∙ unused_times number_of n st thread c apart) (ap (λ refs. times n (shown_refs refs)) none_left_over);
    spares = λ n owned apart. gives.spares n;
    shared = λ n owned. gives.spares n;
  }
    where
      same : (n : ℕ) → count_of new.counts n + times n (shown_refs own) ≡ count_of old.counts n + times n (shown_refs left) + times n [] → times n (shown_refs own) ≡ 0 → times n (shown_refs left) ≡ times n (shown_refs []) → count_of new.counts n ≡ count_of old.counts n
      same n e g h = omega (arith, e, g, h)

  empty_backed : (counts : PageCounts) (refs : Refs) → refs ≡ [] → AreBacked counts refs
  empty_backed counts refs e = subst (λ (refs : Refs). AreBacked counts refs) (sym e) (λ k d inside. absurd (omega (arith, inside)))

  module _ (pool area : PageCounts) (mid : Kit) (gives : GivesAll a.frames a.slots kit pool area mid) where
    came_frames : mid.frames.items ≡ []
    came_frames = gives.came_frames ∙ filled.ungranted.frames

    came_slots : mid.slots.items ≡ []
    came_slots = gives.came_slots ∙ filled.ungranted.slots

    settles_at : Settles a thread c kit pool area mid
    settles_at = record {
      frames = subst (λ refs. InBalance a.frames pool (shown_refs kit.own_frames.items) (shown_refs mid.own_frames.items) (shown_refs refs)) (sym came_frames) gives.frames.balance;
      slots = subst (λ refs. InBalance a.slots area (shown_refs kit.own_slots.items) (shown_refs mid.own_slots.items) (shown_refs refs)) (sym came_slots) gives.slots.balance;
      left_frames = ap shown_refs gives.no_frames ∙ sym (none_left frame_of no_frame st thread c (frame_grants st c) plain);
      left_slots = ap shown_refs gives.no_slots ∙ sym (none_left slot_of no_slot st thread c (slot_grants st c) plain);
      new_frames = ap shown_refs came_frames ∙ sym (none_came frame_of no_frame st thread c (frame_grants st c) plain);
      new_slots = ap shown_refs came_slots ∙ sym (none_came slot_of no_slot st thread c (slot_grants st c) plain);
      backed = (empty_backed pool _ gives.no_frames, empty_backed pool _ came_frames, empty_backed area _ gives.no_slots, empty_backed area _ came_slots);
      seconds = (gives.second_frames ∙ frames_ready.1, gives.second_slots ∙ slots_ready.1);
      frames_kept = others frame_of a.frames pool _ _ gives.frames gives.no_frames plan.frames;
      slots_kept = others slot_of a.slots area _ _ gives.slots gives.no_slots plan.slots;
      lists = gives.lists filled.room;
    }

-- The same for a book by what clauses see of it
module _ (a now : BookData) (same : a ≡ now) (thread : ℕ) (c : Call) (kit : Kit) (is : IsBook a) (sum : RowSum now) (filled : IsFilled now thread c kit) (none : refusal (state_of now) thread c (length now.limbo) ≡ None) (plain : is_plain c ≡ true) where
  sum_a : RowSum a
  sum_a = subst (λ (x : BookData). RowSum x) (sym same) sum

  filled_a : IsFilled a thread c kit
  filled_a = subst (λ (x : BookData). IsFilled x thread c kit) (sym same) filled

  none_a : refusal (state_of a) thread c (length a.limbo) ≡ None
  none_a = subst (λ (x : BookData). refusal (state_of x) thread c (length x.limbo) ≡ None) (sym same) none

  pub may_give : MayGiveAll a.frames a.slots kit
  may_give = may_give_at a thread c kit is sum_a filled_a none_a plain

  pub settles : (pool area : PageCounts) (mid : Kit) → GivesAll a.frames a.slots kit pool area mid → Settles a thread c kit pool area mid
  settles pool area mid gives = settles_at a thread c kit is sum_a filled_a none_a plain pool area mid gives

  pub answered : (r : Reply) → r ≡ plain_reply c kit.changes.items → r ≡ answer (state_of now) thread c
  answered r by_kit = by_kit ∙ ap (plain_reply c) (planned a thread c kit is sum_a filled_a none_a).changes ∙ plain_reply_is (state_of a) thread c plain ∙ ap (λ (x : BookData). answer (state_of x) thread c) same

-- a refusal
pub refused_commits : (a b : BookData) (thread : ℕ) (c : Call) (kit : Kit) (r reply : Reply) → b ≡ record a { journal = a.journal ++ entry_of thread c r ∷ []; limbo = map unblocked a.limbo } → state_of b ≡ state_of a → refusal (state_of a) thread c (length a.limbo) ≡ Some r → IsFilled a thread c kit → reply ≡ r →
    Commits a thread c kit reply b kit
refused_commits a b thread c kit r reply book same refuses filled told = subst (λ (q : Reply). Commits a thread c kit q b kit) (sym told) (record {
  journal = ap (λ (x : BookData). x.journal) book;
  is_step = (λ i. (r, same i)) ∙ sym (refused (state_of a) thread c (length a.limbo) r refuses);
  limits = (ap (λ (x : BookData). x.limits) book, ap (λ (x : BookData). x.files) book, ap (λ (x : BookData). x.room) book);
  limbo = ap (λ (x : BookData). x.limbo) book;
  room = filled.room;
  unlinked = filled.ungranted.gone;
  same = (refl, refl, refl, refl);
  refused = λ some. record { book = book ∙ (λ i. record a { journal = sym (ap (λ (x : BookData). x.journal) book) i; limbo = sym (ap (λ (x : BookData). x.limbo) book) i }); same_kit = refl };
  accepted = λ none. absurd (true≢false (sym (ap is_some refuses) ∙ none));
})
