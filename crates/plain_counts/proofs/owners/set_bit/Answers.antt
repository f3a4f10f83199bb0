use Rattle.std.proofs.Common.{◌%◌, arith, w64}
use Rattle.std.proofs.lemmas.Nat.Bits.{bit_at_set_same, bit_at_set_other}
use Rattle.plain_counts.proofs.Bits.{bit_of-set}
use Rattle.plain_counts.proofs.owners.set_bit.Goals as goal

pub returns : goal.returns
returns c = bit_of-set c.args.words.now c.args.number _ 1 (omega arith)
    (bit_at_set_same w64 _ (c.args.number % 64) (omega arith))
    (λ i below apart. bit_at_set_other w64 _ (c.args.number % 64) (omega arith) i apart)
