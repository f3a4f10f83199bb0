use Rattle.std.proofs.Common.{arith, ap, ◌∙◌, w8}
use Rattle.std.specs.Int.{bit_at}
use Rattle.std.proofs.lemmas.Nat.Bits.{bit_at-trailing_zeros, bit_at-zero}
use Rattle.tlb_core.proofs.masks.least_cpu.Goals as goal

pub returns-then-mask-eq0 : goal.returns-then-mask-eq0
returns-then-mask-eq0 c = λ cpu. ap (λ m. bit_at m cpu) c.if-mask-eq0.true ∙ bit_at-zero cpu

pub returns : goal.returns
returns c = let found = bit_at-trailing_zeros w8 c.args.mask (omega arith) (omega arith) in (found.1, found.2)
