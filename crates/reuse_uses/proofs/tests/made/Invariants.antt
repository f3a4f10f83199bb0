use Rattle.std.proofs.Common.{◌≡◌, length}
use Rattle.reuse_uses.proofs.Starts.{AreBlank}
use Rattle.reuse_uses.proofs.tests.made.Given as goal

abbrev pub invariant-loop : goal.invariant-loop
invariant-loop l = (length l.rows.items ≡ l.counter) × AreBlank l.rows.items
