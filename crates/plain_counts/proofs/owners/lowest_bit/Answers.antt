use Rattle.std.proofs.Common.{arith}
use Rattle.plain_counts.proofs.Bits.{lowest_found, none_found}
use Rattle.plain_counts.proofs.owners.lowest_bit.Goals as goal

pub returns-then-word-ne0 : goal.returns-then-word-ne0
returns-then-word-ne0 c = lowest_found c.args.words.now c.loop-place.place (omega arith) (c.type_inv.words c.loop-place.place).fits c.loop-place.invariant

pub returns : goal.returns
returns c = none_found c.args.words.now (λ k h. c.loop-place.invariant k (omega arith))
