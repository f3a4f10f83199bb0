-- The references that a transaction keeps: those of the pages that none of its operations maps or unmaps.
use Rattle.std.proofs.Common.{◌≡◌, ℕ, ◌≤◌, Bool, true, false, cond, not, List, [], ◌∷◌, length, refl, sym, ap, ◌∙◌, arith}
use mathlib.Core.Bool.{true≢false}
use Rattle.std.specs.Prelude.{Option, None, nat_eq}
use Rattle.std.specs.List.{filter}
use Rattle.std.specs.List.Sorted.{IsPermutation}
use Rattle.std.proofs.lemmas.List.Sums.{sum_by-cons}
use Rattle.std.proofs.lemmas.List.Sorted.{IsPermutation-map, sum_by-IsPermutation, All-permutation}
use Rattle.corten_base.specs.declared.permissions.Perm.{Perm}
use Rattle.corten_base.specs.declared.calls.Backing.{Backing}
use Rattle.corten_base.specs.declared.calls.Call.{Call}
use Rattle.corten_base.specs.declared.calls.Call.TheVariants as call
use Rattle.counted_pages.specs.Pages.{PageCounts}
use Rattle.page_map.specs.declared.cell.Cell.{Cell}
use Rattle.page_map.specs.Cell.{frame_of, slot_of, backed, with_perm}
use Rattle.page_map.specs.State.{State}
use Rattle.page_map.specs.Effect.{state_after, answer}
use Rattle.corten_base.specs.declared.calls.Reply.TheVariants as reply
use Rattle.page_map.specs.Step.{refusal}
use Rattle.machine_plan.specs.declared.kit.Change.{Change}
use Rattle.machine_plan.specs.declared.kit.Kit.{Kit}
use Rattle.machine_plan.specs.Books.{BookData, state_of, RowSum}
use Rattle.machine_plan.specs.Whole.{IsBook}
use Rattle.machine_plan.specs.Kits.{Refs, AreBacked, IsFilled}
use Rattle.machine_plan.specs.Agrees.{HasSpareFor}
use Rattle.machine_plan.specs.Uses.{Ref, shown_ref, shown_refs, used_cells, refs_of, changes_of}
use Rattle.book.specs.Balance.{times, AreHeld}
use Rattle.book.specs.Pieces.{GivesBack}
use Rattle.book.specs.Plain.{MayGiveAll}
use Rattle.book.specs.Rearranging.{rearranges, is_transaction, is_remade, not_remade, LeavesSome}
use Rattle.book.specs.Settling.{Settles}
use Rattle.book.proofs.Leaving.{no_frame, no_slot}
use Rattle.book.proofs.Rearranged.{may_give, plan_is, settles}
use Rattle.book.proofs.Remade.{same_frame, same_slot, after_txn}

txn_rearranges : (c : Call) → is_transaction c ≡ true → rearranges c ≡ true
txn_rearranges (call.Txn space at len ops) h = refl
txn_rearranges _ h = absurd (true≢false (sym h))

pub txn_done : (st : State) (thread : ℕ) (c : Call) → is_transaction c ≡ true → reply.Done ≡ answer st thread c
unfolding answer
txn_done st thread (call.Txn space at len ops) h = refl
txn_done st thread _ h = absurd (true≢false (sym h))

-- what is told of a reference names its page
shown_kept : (goes : ℕ → Bool) (refs : Refs) → shown_refs (filter (λ r. not (goes r.0)) refs) ≡ filter (λ (r : Ref). not (goes r.0)) (shown_refs refs)
shown_kept goes [] = refl
shown_kept goes (r ∷ refs) = go (goes r.0) (shown_kept goes refs)
  where
    go : (b : Bool) → shown_refs (filter (λ r. not (goes r.0)) refs) ≡ filter (λ (r : Ref). not (goes r.0)) (shown_refs refs) →
        shown_refs (cond (not b) (r ∷ filter (λ r. not (goes r.0)) refs) (filter (λ r. not (goes r.0)) refs)) ≡ cond (not b) (shown_ref r ∷ filter (λ (r : Ref). not (goes r.0)) (shown_refs refs)) (filter (λ (r : Ref). not (goes r.0)) (shown_refs refs))
    go true rest = rest
    go false rest = ap (λ (l : List Ref). shown_ref r ∷ l) rest

fewer_kept : (goes : ℕ → Bool) (refs : Refs) (n : ℕ) → times n (shown_refs (filter (λ r. not (goes r.0)) refs)) ≤ times n (shown_refs refs)
fewer_kept goes [] n = omega arith
fewer_kept goes (r ∷ refs) n = go (goes r.0) (fewer_kept goes refs n)
  where
    go : (b : Bool) → times n (shown_refs (filter (λ r. not (goes r.0)) refs)) ≤ times n (shown_refs refs) → times n (shown_refs (cond (not b) (r ∷ filter (λ r. not (goes r.0)) refs) (filter (λ r. not (goes r.0)) refs))) ≤ times n (shown_refs (r ∷ refs))
    go true rest = omega (arith, sum_by-cons (λ (r : Ref). cond (nat_eq r.1.0 n) 1 0) (shown_ref r) (shown_refs refs), rest)
    go false rest =
        omega (arith, sum_by-cons (λ (r : Ref). cond (nat_eq r.1.0 n) 1 0) (shown_ref r) (shown_refs refs), sum_by-cons (λ (r : Ref). cond (nat_eq r.1.0 n) 1 0) (shown_ref r) (shown_refs (filter (λ r. not (goes r.0)) refs)), rest)

txn_left : (number_of : Cell → Option ℕ) → ((what : Backing) (perm : Perm) (i : ℕ) → number_of (backed what perm i) ≡ None) → ((perm : Perm) (c : Cell) → number_of (with_perm perm c) ≡ number_of c) →
    (st : State) (thread : ℕ) (c : Call) → is_transaction c ≡ true → (changes : List Change) → changes ≡ changes_of st thread c → (own : Refs) → shown_refs own ≡ refs_of number_of (used_cells st st thread c) →
    shown_refs (not_remade changes own) ≡ refs_of number_of (used_cells st (state_after st thread c) thread c)
unfolding changes_of
txn_left number_of no_number same_number st thread (call.Txn space at len ops) h changes planned own was =
    shown_kept (is_remade changes) own
    ∙ (λ i. filter (λ (r : Ref). not (is_remade (planned i) r.0)) (was i))
    ∙ sym (after_txn number_of no_number same_number st thread space at len ops)
txn_left number_of no_number same_number st thread _ h changes planned own was = absurd (true≢false (sym h))

module _ (a now : BookData) (same : a ≡ now) (thread : ℕ) (c : Call) (kit : Kit) (is : IsBook a) (sum : RowSum now) (filled : IsFilled now thread c kit) (none : refusal (state_of now) thread c (length now.limbo) ≡ None) (kind : is_transaction c ≡ true) where
  pub may_give_back : MayGiveAll a.frames a.slots kit
  may_give_back = may_give a now same thread c kit is sum filled none (txn_rearranges c kind)

  pub txn_settles : (pool area : PageCounts) (mid : Kit) → LeavesSome a.frames a.slots kit (not_remade kit.changes.items) pool area mid → Settles a thread c kit pool area mid
  txn_settles pool area mid leaves =
      let plan = plan_is a now same thread c kit is sum filled none (txn_rearranges c kind) in
      settles a now same thread c kit is sum filled none (txn_rearranges c kind) (not_remade kit.changes.items) pool area mid leaves (fewer_kept (is_remade kit.changes.items))
      (txn_left frame_of no_frame same_frame (state_of a) thread c kind kit.changes.items plan.changes kit.own_frames.items plan.frames)
      (txn_left slot_of no_slot same_slot (state_of a) thread c kind kit.changes.items plan.changes kit.own_slots.items plan.slots)

-- references in another order

module _ (counts : PageCounts) (own others : Refs) (same : IsPermutation own others) where
  pub same_times : (n : ℕ) → times n (shown_refs others) ≡ times n (shown_refs own)
  same_times n = sum_by-IsPermutation (λ (r : Ref). cond (nat_eq r.1.0 n) 1 0) (shown_refs own) (shown_refs others) (IsPermutation-map shown_ref own others same)

  pub still_held : AreHeld counts (shown_refs own) → AreHeld counts (shown_refs others)
  still_held held = record { each = λ n. omega (arith, held.each n, same_times n) }

  pub still_backed : AreBacked counts own → AreBacked counts others
  still_backed backed = All-permutation (λ r. HasSpareFor counts r.1) own others same backed

  pub given_back : (new : PageCounts) (left : Refs) → GivesBack counts new others left → GivesBack counts new own left
  given_back new left gives = record {
    balance = record { numbers = gives.balance.numbers; counts = λ n. omega (arith, gives.balance.counts n, same_times n) };
    spares = gives.spares;
    held = gives.held;
    backed = gives.backed;
  }
