use Rattle.std.proofs.Common.{◌≡◌, map}
use Rattle.row_table.specs.Start.{row_slot}
use Rattle.row_table.proofs.boot.slots_of.Given as goal

abbrev pub invariant-loop-row : goal.invariant-loop-row
invariant-loop-row g l = l.slots.items ≡ map row_slot l.yielded
