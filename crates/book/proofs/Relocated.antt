-- The commits of `out` and `in`, for a book by what clauses see of it.
use Rattle.std.proofs.Common.{◌≡◌, ℕ, ◌≤◌, true, length, refl, sym, ap, subst, ◌∙◌}
use mathlib.Core.Bool.{true≢false}
use Rattle.std.specs.Prelude.{None}
use Rattle.corten_base.specs.declared.calls.Call.{Call}
use Rattle.corten_base.specs.declared.calls.Call.TheVariants as call
use Rattle.corten_base.specs.declared.calls.Reply.TheVariants as reply
use Rattle.counted_pages.specs.Pages.{PageCounts}
use Rattle.page_map.specs.Effect.{answer}
use Rattle.page_map.specs.Step.{refusal}
use Rattle.machine_plan.specs.declared.kit.Kit.{Kit}
use Rattle.machine_plan.specs.Books.{BookData, state_of, RowSum}
use Rattle.machine_plan.specs.Whole.{IsBook}
use Rattle.machine_plan.specs.Kits.{IsFilled}
use Rattle.book.specs.Moving.{is_out, is_in, MayGoOut, GoesOut, MayComeIn, ComesIn}
use Rattle.book.specs.Settling.{Settles}
use Rattle.book.proofs.Relocating.{may_go_out_at, settles_out, out_few, answered_out, may_come_in_at, settles_in, in_few, answered_in}

out_call : (c : Call) → is_out c ≡ true → (r : ℕ × (ℕ × ℕ)) × (c ≡ call.SwapOut r.0 r.1.0 r.1.1)
out_call (call.SwapOut space at len) h = ((space, (at, len)), refl)
out_call (call.Map space where_to len perm what) h = absurd (true≢false (sym h))
out_call (call.Unmap space at len) h = absurd (true≢false (sym h))
out_call (call.Protect space at len perm) h = absurd (true≢false (sym h))
out_call (call.Load space at len) h = absurd (true≢false (sym h))
out_call (call.Store space at bytes) h = absurd (true≢false (sym h))
out_call (call.Fault space at write) h = absurd (true≢false (sym h))
out_call call.Spawn h = absurd (true≢false (sym h))
out_call (call.Fork space) h = absurd (true≢false (sym h))
out_call (call.Exit space) h = absurd (true≢false (sym h))
out_call (call.SwapIn space at len) h = absurd (true≢false (sym h))
out_call (call.Txn space at len ops) h = absurd (true≢false (sym h))
out_call (call.DontNeed space at len) h = absurd (true≢false (sym h))
out_call (call.Remap space at old_len new_len) h = absurd (true≢false (sym h))

in_call : (c : Call) → is_in c ≡ true → (r : ℕ × (ℕ × ℕ)) × (c ≡ call.SwapIn r.0 r.1.0 r.1.1)
in_call (call.SwapIn space at len) h = ((space, (at, len)), refl)
in_call (call.Map space where_to len perm what) h = absurd (true≢false (sym h))
in_call (call.Unmap space at len) h = absurd (true≢false (sym h))
in_call (call.Protect space at len perm) h = absurd (true≢false (sym h))
in_call (call.Load space at len) h = absurd (true≢false (sym h))
in_call (call.Store space at bytes) h = absurd (true≢false (sym h))
in_call (call.Fault space at write) h = absurd (true≢false (sym h))
in_call call.Spawn h = absurd (true≢false (sym h))
in_call (call.Fork space) h = absurd (true≢false (sym h))
in_call (call.Exit space) h = absurd (true≢false (sym h))
in_call (call.SwapOut space at len) h = absurd (true≢false (sym h))
in_call (call.Txn space at len ops) h = absurd (true≢false (sym h))
in_call (call.DontNeed space at len) h = absurd (true≢false (sym h))
in_call (call.Remap space at old_len new_len) h = absurd (true≢false (sym h))

module _ (a now : BookData) (same : a ≡ now) (thread : ℕ) (c : Call) (kit : Kit) (is : IsBook a) (sum : RowSum now) (filled : IsFilled now thread c kit) (none : refusal (state_of now) thread c (length now.limbo) ≡ None) where
  sum_a : RowSum a
  sum_a = subst (λ (x : BookData). RowSum x) (sym same) sum

  filled_a : (d : Call) → c ≡ d → IsFilled a thread d kit
  filled_a d it = subst (λ (x : BookData × Call). IsFilled x.0 thread x.1 kit) (λ i. (sym same i, it i)) filled

  none_a : (d : Call) → c ≡ d → refusal (state_of a) thread d (length a.limbo) ≡ None
  none_a d it = subst (λ (x : BookData × Call). refusal (state_of x.0) thread x.1 (length x.0.limbo) ≡ None) (λ i. (sym same i, it i)) none

  module _ (out : is_out c ≡ true) where
    abbrev o : (r : ℕ × (ℕ × ℕ)) × (c ≡ call.SwapOut r.0 r.1.0 r.1.1)
    o = out_call c out

    pub may_go_out : MayGoOut a.frames a.slots kit
    may_go_out = may_go_out_at a thread o.0.0 o.0.1.0 o.0.1.1 kit is sum_a (filled_a _ o.1) (none_a _ o.1)

    module _ (pool area : PageCounts) (mid : Kit) (goes : GoesOut a.frames a.slots kit pool area mid) where
      pub settles_away : Settles a thread c kit pool area mid
      settles_away = subst (λ (d : Call). Settles a thread d kit pool area mid) (sym o.1) (settles_out a thread o.0.0 o.0.1.0 o.0.1.1 kit is sum_a (filled_a _ o.1) (none_a _ o.1) pool area mid goes)

      pub few_out : length mid.slots.items ≤ 4096
      few_out = out_few a thread o.0.0 o.0.1.0 o.0.1.1 kit is sum_a (filled_a _ o.1) (none_a _ o.1) pool area mid goes

      pub answered_away : (number : ℕ) → number ≡ length mid.slots.items → reply.Moved number ≡ answer (state_of now) thread c
      answered_away number long =
          ap (λ n. reply.Moved n) long ∙ answered_out a thread o.0.0 o.0.1.0 o.0.1.1 kit is sum_a (filled_a _ o.1) (none_a _ o.1) pool area mid goes
          ∙ (λ i. answer (state_of (same i)) thread (sym o.1 i))

  module _ (back : is_in c ≡ true) where
    abbrev b : (r : ℕ × (ℕ × ℕ)) × (c ≡ call.SwapIn r.0 r.1.0 r.1.1)
    b = in_call c back

    pub may_come_in : MayComeIn a.frames a.slots kit
    may_come_in = may_come_in_at a thread b.0.0 b.0.1.0 b.0.1.1 kit is sum_a (filled_a _ b.1) (none_a _ b.1)

    module _ (pool area : PageCounts) (mid : Kit) (comes : ComesIn a.frames a.slots kit pool area mid) where
      pub settles_back : Settles a thread c kit pool area mid
      settles_back = subst (λ (d : Call). Settles a thread d kit pool area mid) (sym b.1) (settles_in a thread b.0.0 b.0.1.0 b.0.1.1 kit is sum_a (filled_a _ b.1) (none_a _ b.1) pool area mid comes)

      pub few_in : length mid.frames.items ≤ 4096
      few_in = in_few a thread b.0.0 b.0.1.0 b.0.1.1 kit is sum_a (filled_a _ b.1) (none_a _ b.1) pool area mid comes

      pub answered_back : (number : ℕ) → number ≡ length mid.frames.items → reply.Moved number ≡ answer (state_of now) thread c
      answered_back number long =
          ap (λ n. reply.Moved n) long ∙ answered_in a thread b.0.0 b.0.1.0 b.0.1.1 kit is sum_a (filled_a _ b.1) (none_a _ b.1) pool area mid comes
          ∙ (λ i. answer (state_of (same i)) thread (sym b.1 i))
