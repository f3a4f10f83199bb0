use Rattle.std.proofs.Common.{◌-◌, length, ap, ◌∙◌, arith}
use Rattle.page_map.specs.State.{accounts}
use Rattle.mm_model.proofs.Counts.{unused_fit}
use Rattle.mm_model.proofs.Kept.{free_frames, free_slots}
use Rattle.mm_model.proofs.plain.Plain.accounts.Goals as goal

pub overflow_sub-result : goal.overflow_sub-result
overflow_sub-result c = omega (arith, c.free-frames_free.ensures, unused_fit _ _ _ c.self.invariant.frame_counts)

pub overflow_sub-result-2 : goal.overflow_sub-result-2
overflow_sub-result-2 c = omega (arith, c.free-swap_free.ensures, unused_fit _ _ _ c.self.invariant.slot_counts)

pub returns : goal.returns
unfolding accounts
returns c =
    let frames = c.free-frames_free.ensures ∙ ap length (free_frames _ _ _ c.self.invariant) in
    let slots = c.free-swap_free.ensures ∙ ap length (free_slots _ _ _ c.self.invariant) in
    (λ i. record {
      frames = c.self.inside.limits.frames;
      frames_free = frames i;
      frames_mapped = c.self.inside.limits.frames - frames i;
      swap = c.self.inside.limits.swap;
      swap_free = slots i;
      swap_used = c.self.inside.limits.swap - slots i;
      tables = c.self.inside.limits.tables;
      linked = c.len.ensures i;
      limbo = c.args.limbo;
    })
    ∙ ap (λ st. accounts st c.args.limbo) c.self.view_is
