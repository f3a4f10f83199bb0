use Rattle.std.proofs.Common.{◌<◌, ◌≢◌, ℕ}
use Rattle.tlb_core.specs.declared.uses.FrameUse.TheVariants.{Free}
use Rattle.tlb_core.specs.Shown.{use_of}
use Rattle.tlb_core.proofs.machine.Tlb.least_unused.Given as goal

abbrev pub invariant-loop-frame : goal.invariant-loop-frame
invariant-loop-frame l = (frame : ℕ) → frame < l.frame → use_of l.self.uses frame ≢ Free
