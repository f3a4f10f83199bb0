use Rattle.std.proofs.Common.{◌≡◌, ◌<◌, ℕ, false, take}
use Rattle.epoch_grace.specs.Sweeping.{reads}
use Rattle.epoch_grace.proofs.sweeping.reader_of.Given as goal

abbrev pub invariant-loop-pass : goal.invariant-loop-pass
invariant-loop-pass l = (x : ℕ) → x < l.pass → reads (take l.passes l.numbers) l.sampled x ≡ false
