-- What was found of the space, or the first line outside the grammar.
use Rattle.std.proofs.Common.{Some, [], refl, subst}
use Rattle.byte_streams.specs.Streams.{HasWritten}
use Rattle.corten_run.specs.Endings.{Sides}
use Rattle.corten_run.specs.declared.command.Command.TheVariants.{Save}
use Rattle.corten_run.proofs.Told.{refusal_ends}
use Rattle.corten_run.proofs.ImageEndings.{saved_ends}
use Rattle.corten_run.proofs.answers.answer_save.Goals as goal

pub returns-in-Err-Bad-clause-ends : goal.returns-in-Err-Bad-clause-ends
returns-in-Err-Bad-clause-ends g c =
    let held = g.K.Sink.held in
    let faults = g.K.Sink.faults in
    let sides : Sides = record {
      left_now = Some [];
      read_faults = 0;
      read_faults_now = 0;
      held = held c.args.sink.now;
      held_now = held c.refuse.new.sink;
      write_faults = faults c.args.sink.now;
      write_faults_now = faults c.refuse.new.sink;
    } in
    refusal_ends (Save c.args.space) c.args.bytes.now c.in-Err-Bad.line sides c.refuse.result c.requires (rw c.in-Err-Bad.field-0-is at c.in-Err-Bad.ensures.none) (rw c.in-Err-Bad.field-0-is at c.in-Err-Bad.ensures.bad)
    (rw c.in-Err-Bad.field-0-is at c.refuse.ensures)

pub returns-then-write_whole-clause-ends : goal.returns-then-write_whole-clause-ends
returns-then-write_whole-clause-ends g c =
    let held = g.K.Sink.held in
    let faults = g.K.Sink.faults in
    let sides : Sides = record {
      left_now = Some [];
      read_faults = 0;
      read_faults_now = 0;
      held = held c.args.sink.now;
      held_now = held c.write_whole.new.sink;
      write_faults = faults c.args.sink.now;
      write_faults_now = faults c.write_whole.new.sink;
    } in
    saved_ends c.args.space c.args.bytes.now c.in-Ok-save_space.text c.in-Ok.history c.in-Ok-save_space.ending sides c.in-Ok.ensures.found c.requires c.in-Ok-save_space.ensures
    (subst (HasWritten (held c.args.sink.now) (held c.write_whole.new.sink)) c.bytes.ensures c.if-write_whole.ensures.whole) refl
