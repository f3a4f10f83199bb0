use Rattle.std.proofs.Common.{◌∙◌, arith}
use Rattle.held_spans.proofs.Placed.{room_is, none_by}
use Rattle.held_spans.proofs.resizing.has_room.Goals as goal

pub returns-then-first-more : goal.returns-then-first-more
returns-then-first-more c space st asked shown =
    none_by c.first_mapped.result c.is_none.result c.is_none.ensures
    ∙ room_is c.args.held.now.rows c.args.levels c.args.range c.first_mapped.result c.requires.low c.requires.grows (omega arith) c.first_mapped.ensures space st asked shown
