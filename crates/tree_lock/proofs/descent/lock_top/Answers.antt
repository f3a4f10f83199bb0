use Rattle.std.proofs.Common.{refl}
use Rattle.row_table.specs.Passes.{view_of}
use Rattle.tree_lock.proofs.Toppings.{over_directory, saw_none}
use Rattle.tree_lock.proofs.descent.lock_top.Goals as goal

pub loop-index-init : goal.loop-index-init
loop-index-init g c = record {
  table = refl;
  kit = refl;
  kept = refl;
  epoch = refl;
  stands = c.requires.stands;
  over = over_directory c.args.levels c.requires.levels.0 c.args.zone.now c.requires.zone;
}

pub take_last-requires-clause-saw : goal.take_last-requires-clause-saw
take_last-requires-clause-saw g c κs within = saw_none c.args.levels (view_of c.loop-index.pass) (view_of c.go_on.new.pass) c.loop-index.at c.in-Down.index c.in-None.ensures.looks
