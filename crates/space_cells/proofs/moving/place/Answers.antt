use Rattle.std.proofs.Common.{arith}
use Rattle.space_cells.proofs.Moved.{apart_old}
use Rattle.space_cells.proofs.moving.place.Goals as goal

pub copy_range-requires-clause-places : goal.copy_range-requires-clause-places
copy_range-requires-clause-places c = omega (arith, c.requires.movable.places, c.requires.movable.grows)

pub copy_range-requires-clause-apart : goal.copy_range-requires-clause-apart
copy_range-requires-clause-apart c = apart_old c.args.marks.now c.args.relocation c.requires.movable
