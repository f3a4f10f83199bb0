use Rattle.std.proofs.Common.{Some, is_some}
use Rattle.std.proofs.lemmas.List.{map-set}
use Rattle.counted_pages.proofs.spares.Spares.keep.Goals as goal

pub returns : goal.returns
returns c = rw (← c.self.view_is) (map-set is_some c.self.inside.buffers.items c.args.number (Some c.args.buffer))
