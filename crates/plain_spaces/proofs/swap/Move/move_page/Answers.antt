use Rattle.std.proofs.Common.{sym}
use Rattle.plain_spaces.proofs.Held.{cell_at}
use Rattle.plain_spaces.proofs.Swapped.{moved_page, stayed_page, number_is_carried, still_carried}
use Rattle.plain_spaces.proofs.swap.Move.move_page.Goals as goal

pub moves-requires : goal.moves-requires
moves-requires c =
    let at = cell_at c.args.cells.now c.args.page c.args.number c.requires.here in
    number_is_carried c.args.counts.now c.args.cells.now c.args.page at.0 c.args.number c.requires.counted at.1.0 at.1.1

pub give_up-requires : goal.give_up-requires
give_up-requires c =
    let at = cell_at c.args.cells.now c.args.page c.args.number c.requires.here in
    still_carried c.args.self c.take-new.result c.args.number c.args.counts.now c.take-new.new.counts c.take-new.ensures
    (number_is_carried c.args.counts.now c.args.cells.now c.args.page at.0 c.args.number c.requires.counted at.1.0 at.1.1)

pub returns-then-moves : goal.returns-then-moves
returns-then-moves c =
    let at = cell_at c.args.cells.now c.args.page c.args.number c.requires.here in
    moved_page c.args.self c.args.cells.now c.set_number.new.self c.args.page at.0 c.args.number c.take-new.result c.args.counts.now c.take-new.new.counts c.give_up.new.counts at.1.0 at.1.1
    (sym c.if-moves.ensures) c.take-new.ensures c.give_up.ensures c.set_number.ensures

pub returns-else-moves : goal.returns-else-moves
returns-else-moves c =
    let at = cell_at c.args.cells.now c.args.page c.args.number c.requires.here in
    stayed_page c.args.self c.args.cells.now c.args.page at.0 c.args.number c.args.counts.now at.1.0 at.1.1 (sym c.if-moves.ensures)
