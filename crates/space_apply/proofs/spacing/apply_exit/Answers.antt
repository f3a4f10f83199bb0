use Rattle.row_table.specs.Passes.{view_of}
use Rattle.space_apply.proofs.SpacesLeft.{exited}
use Rattle.space_apply.proofs.spacing.apply_exit.Goals as goal

pub returns : goal.returns
returns g c = record {
  applies = λ a b thread space call ready further exits.
      exited a b thread call (view_of c.args._pass.now) c.args._held.now.rows c.args.kit.now ready c.requires.done space exits further c.settle.new.kit (c.settle.ensures.places ready.room) c.settle.ensures.idle c.settle.ensures.ungranted c.settle.ensures.seconds;
}
