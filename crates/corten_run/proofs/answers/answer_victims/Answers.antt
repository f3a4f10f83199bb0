-- What was found of the history, or the first line outside the grammar.
use Rattle.std.proofs.Common.{Some, [], refl, subst}
use Rattle.byte_streams.specs.Streams.{HasWritten}
use Rattle.corten_run.specs.Endings.{Sides}
use Rattle.corten_run.specs.declared.command.Command.TheVariants.{Victims}
use Rattle.corten_run.proofs.Told.{refusal_ends, found_ends}
use Rattle.corten_run.proofs.answers.answer_victims.Goals as goal

pub returns-in-Err-Bad-clause-ends : goal.returns-in-Err-Bad-clause-ends
returns-in-Err-Bad-clause-ends g c =
    let held = g.K.Sink.held in
    let faults = g.K.Sink.faults in
    let sides : Sides = record {
      left_now = Some [];
      read_faults = 0;
      read_faults_now = 0;
      held = held c.args.sink.now;
      held_now = held c.refuse.new.sink;
      write_faults = faults c.args.sink.now;
      write_faults_now = faults c.refuse.new.sink;
    } in
    refusal_ends (Victims c.args.most) c.args.bytes.now c.in-Err-Bad.line sides c.refuse.result c.requires (rw c.in-Err-Bad.field-0-is at c.in-Err-Bad.ensures.none) (rw c.in-Err-Bad.field-0-is at c.in-Err-Bad.ensures.bad)
    c.refuse.ensures

pub returns-then-write_whole-clause-ends : goal.returns-then-write_whole-clause-ends
returns-then-write_whole-clause-ends g c =
    let held = g.K.Sink.held in
    let faults = g.K.Sink.faults in
    let sides : Sides = record {
      left_now = Some [];
      read_faults = 0;
      read_faults_now = 0;
      held = held c.args.sink.now;
      held_now = held c.write_whole.new.sink;
      write_faults = faults c.args.sink.now;
      write_faults_now = faults c.write_whole.new.sink;
    } in
    found_ends c.args.most c.args.bytes.now c.in-Ok-find_victims.text.items c.in-Ok.history c.in-Ok-find_victims.ending sides c.in-Ok.ensures.found c.requires c.in-Ok-find_victims.ensures
    (subst (HasWritten (held c.args.sink.now) (held c.write_whole.new.sink)) c.as_slice.ensures.value c.if-write_whole.ensures.whole) refl
