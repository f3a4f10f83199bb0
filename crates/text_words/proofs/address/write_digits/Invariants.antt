use Rattle.std.proofs.Common.{◌≡◌, ◌+◌, ◌-◌, ◌<◌, ◌≤◌, ◌^◌, false, drop, length}
use Rattle.std.specs.Fmt.{digits}
use Rattle.text_words.proofs.Numerals.{digits_before}
use Rattle.text_words.proofs.address.write_digits.Given as goal

-- the digits of what is left, before those that are written, are those of the number; there is room for them
abbrev pub invariant-loop-left : goal.invariant-loop-left
invariant-loop-left l = record {
  written : digits_before (l.at + 46) l.left (drop l.at l.text) ≡ digits 16 false l.value;
  length_is : length l.text ≡ 18;
  room : 2 < l.at;
  within : l.at ≤ 18;
  small : l.left < 16 ^ (l.at - 2);
}

abbrev pub decreases-loop-left : goal.decreases-loop-left
decreases-loop-left l = l.at
