use Rattle.std.proofs.Common.{sym}
use Rattle.page_map.specs.Cell.{frame_of}
use Rattle.space_cells.specs.Views.{seen}
use Rattle.plain_spaces.proofs.Plans.{is_counted}
use Rattle.plain_spaces.proofs.plan.look.Goals as goal

pub want_of-requires : goal.want_of-requires
want_of-requires c = is_counted frame_of c.args.frames.now c.args.cells.now c.requires.counted c.args.page (seen c.in-Some.view) (sym c.in-Some.ensures)
