use Rattle.std.proofs.Common.{◌≡◌, ◌<◌, ◌≤◌, ℕ}
use Rattle.tlb_core.specs.Shown.{use_of}
use Rattle.tlb_core.specs.Steps.{IsHeard}
use Rattle.tlb_core.proofs.machine.hear.Given as goal

-- The uses before this one are changed, and the others are as they were.
abbrev pub invariant-loop-frame_use : goal.invariant-loop-frame_use
invariant-loop-frame_use l = record {
  done : (frame : ℕ) → frame < l.frame_use-index → IsHeard l.page l.cpu (use_of l.fn.uses frame) (use_of l.uses frame);
  rest : (frame : ℕ) → l.frame_use-index ≤ frame → use_of l.uses frame ≡ use_of l.fn.uses frame;
}
