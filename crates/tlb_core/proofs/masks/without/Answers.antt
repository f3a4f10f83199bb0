use Rattle.std.proofs.Common.{arith}
use Rattle.tlb_core.proofs.Bits.{cleared}
use Rattle.tlb_core.proofs.masks.without.Goals as goal

pub returns : goal.returns
returns c = cleared c.args.mask c.args.cpu (omega arith) (omega arith)
