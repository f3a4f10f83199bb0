use Rattle.row_table.specs.Passes.{view_of}
use Rattle.row_uses.proofs.Visits.{stands_at_top}
use Rattle.cover_uses.proofs.tests.look_to_level_one.Goals as goal

pub go_down-root-requires-clause-stands : goal.go_down-root-requires-clause-stands
go_down-root-requires-clause-stands c κs = stands_at_top (view_of c.args.pass.now) (view_of c.enter.new.self) c.requires.idle c.in-Ok.ensures.enters.1
