use Rattle.std.proofs.Common.{None, is_some}
use Rattle.std.proofs.lemmas.List.{map-set}
use Rattle.counted_pages.proofs.spares.Spares.take.Goals as goal

pub returns : goal.returns
returns c = rw (← c.self.view_is, c.take.ensures.after) (map-set is_some c.self.inside.buffers.items c.args.number None)
