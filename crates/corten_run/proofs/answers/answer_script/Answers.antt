-- The first line outside the grammar of scripts.
use Rattle.std.proofs.Common.{Some, []}
use Rattle.corten_run.specs.Endings.{Sides}
use Rattle.corten_run.specs.declared.command.Command.TheVariants.{Solo}
use Rattle.corten_run.proofs.Told.{refusal_ends}
use Rattle.corten_run.proofs.answers.answer_script.Goals as goal

pub returns-in-Err-Bad-clause-ends : goal.returns-in-Err-Bad-clause-ends
returns-in-Err-Bad-clause-ends g c =
    let held = g.K.Sink.held in
    let faults = g.K.Sink.faults in
    let sides : Sides = record {
      left_now = Some [];
      read_faults = 0;
      read_faults_now = 0;
      held = held c.args.sink.now;
      held_now = held c.refuse.new.sink;
      write_faults = faults c.args.sink.now;
      write_faults_now = faults c.refuse.new.sink;
    } in
    refusal_ends (Solo c.args.levels) c.args.bytes.now c.in-Err-Bad.line sides c.refuse.result c.requires (rw c.in-Err-Bad.field-0-is at c.in-Err-Bad.ensures.none) (rw c.in-Err-Bad.field-0-is at c.in-Err-Bad.ensures.bad) (rw c.in-Err-Bad.field-0-is at c.refuse.ensures)
