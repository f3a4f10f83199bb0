use Rattle.std.proofs.Common.{◌≡◌, ℕ, ltb}
use Rattle.std.specs.FinSet as finite
use Rattle.shares.proofs.Shares.new.Given as goal

abbrev pub invariant-loop-number : goal.invariant-loop-number
invariant-loop-number l = record {
  limit : l.unused.limit ≡ l.numbers;
  count : finite.len l.unused.numbers ≡ l.number;
  below : (k : ℕ) → finite.contains l.unused.numbers k ≡ ltb k l.number;
}
