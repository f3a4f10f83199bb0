use Rattle.std.proofs.Common.{◌≡◌, ◌-◌, length}
use Rattle.std.specs.List.{range_with_len}
use Rattle.row_uses.proofs.Starts.{AreFalse}
use Rattle.cover_uses.proofs.tests.made.Given as goal

abbrev pub invariant-loop : goal.invariant-loop
invariant-loop l = (length l.rows.items ≡ l.counter) × AreFalse l.rows.items

abbrev pub invariant-loop-row : goal.invariant-loop-row
invariant-loop-row l = l.free.items ≡ range_with_len 2 (l.row - 2)
