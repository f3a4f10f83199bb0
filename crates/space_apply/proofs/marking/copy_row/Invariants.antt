use Rattle.std.proofs.Common.{◌≡◌}
use Rattle.space_apply.specs.Marking.{CopiesRow}
use Rattle.space_apply.proofs.marking.copy_row.Given as goal

abbrev pub invariant-loop-index : goal.invariant-loop-index
invariant-loop-index l = record {
  copies : CopiesRow l.from l.to l.index l.fn.held.rows l.held.rows;
  room : l.held.room ≡ l.fn.held.room;
}
