use Rattle.std.proofs.Common.{◌≡◌}
use Rattle.space_apply.specs.Marking.{MarksCopied}
use Rattle.space_apply.proofs.marking.copy_marks.Given as goal

abbrev pub invariant-loop-at : goal.invariant-loop-at
invariant-loop-at l = record {
  marks : MarksCopied l.space l.new l.at l.fn.held.rows l.held.rows;
  room : l.held.room ≡ l.fn.held.room;
}
