use Rattle.std.proofs.Common.{true, false, sym, arith}
use Rattle.plain_spaces.proofs.Listed.{found_joined, none_joined}
use Rattle.plain_spaces.proofs.pieces.joined.Goals as goal
use Rattle.plain_spaces.proofs.pieces.joined.Goals.{else-next-end-via-then-next-end+else-is_none, else-next-end-via-else-next-end}

pub returns-then-is_none : goal.returns-then-is_none
returns-then-is_none c =
    sym (found_joined c.args.cells.now c.args.relocation c.requires.movable c.args.next c.if-next-end.true c.next_held.result c.next_held.ensures false c.if-is_none.ensures)

pub returns-else-next-end : goal.returns-else-next-end
returns-else-next-end c = elim c.else-next-end.branch [
  | else-next-end-via-then-next-end+else-is_none w ↦
      sym (found_joined c.args.cells.now c.args.relocation c.requires.movable c.args.next w.if-next-end.true w.next_held.result w.next_held.ensures true w.if-is_none.ensures)
  | else-next-end-via-else-next-end w ↦
      sym (none_joined c.args.cells.now c.args.relocation c.requires.movable c.args.next (let apart = w.if-next-end.false in omega (arith, apart, c.requires.within)))
]
