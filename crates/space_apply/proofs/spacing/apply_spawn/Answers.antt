use Rattle.row_table.specs.Passes.{view_of}
use Rattle.space_apply.proofs.SpacesLeft.{spawned}
use Rattle.space_apply.proofs.spacing.apply_spawn.Goals as goal

pub returns-clause-applies : goal.returns-clause-applies
returns-clause-applies g c = λ a b thread call ready further makes.
    spawned a b thread call (view_of c.args.pass.now) c.args.held.now.rows c.args.kit.now ready c.requires.done makes.spawns (view_of c.link_root.new.pass) c.link_root.new.held.rows
    (c.link_root.ensures.links a b thread call ready further makes) c.settle.new.kit (c.settle.ensures.places ready.room) c.settle.ensures.idle c.settle.ensures.ungranted c.settle.ensures.seconds
