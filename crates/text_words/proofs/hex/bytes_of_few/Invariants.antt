use Rattle.std.proofs.Common.{◌≡◌, map, take}
use Rattle.text_words.specs.Digits.{pair_value}
use Rattle.text_words.proofs.hex.bytes_of_few.Given as goal

-- the bytes of the pairs so far
abbrev pub invariant-loop-pair : goal.invariant-loop-pair
invariant-loop-pair l = l.bytes.items ≡ map pair_value (take l.pair-index l.pairs)
