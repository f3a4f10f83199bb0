-- What was read to the end is what the source told.
use Rattle.std.proofs.Common.{[], Some, subst}
use Rattle.byte_streams.specs.Whole.{Ends}
use Rattle.byte_streams.specs.declared.reading.ReadWhole.TheVariants.{All}
use Rattle.corten_run.proofs.Told.{retold}
use Rattle.corten_run.specs.Endings.{Sides, CommandEnds}
use Rattle.corten_run.specs.Commands.{greatest_length}
use Rattle.corten_run.proofs.top.serve.Goals as goal

pub returns-in-Ok-All-clause-told : goal.returns-in-Ok-All-clause-told
returns-in-Ok-All-clause-told g c =
    let left = g.S.Source.left in
    let faults = g.S.Source.faults in
    let ends : Ends (greatest_length c.args.command) (left c.args.source.now) (left c.read_whole.new.source) (faults c.args.source.now) (faults c.read_whole.new.source) (All c.in-Ok-All.bytes) =
    subst (Ends (greatest_length c.args.command) (left c.args.source.now) (left c.read_whole.new.source) (faults c.args.source.now) (faults c.read_whole.new.source)) c.in-Ok-All.field-0-is (subst (λ n. Ends n (left c.args.source.now) (left c.read_whole.new.source) (faults c.args.source.now) (faults c.read_whole.new.source) c.in-Ok-All.field-0) c.greatest_length.ensures c.in-Ok-All.ensures.ends) in
    let held = g.K.Sink.held in
    let counts = g.K.Sink.faults in
    let sides : Sides = record {
      left_now = Some [];
      read_faults = 0;
      read_faults_now = 0;
      held = held c.args.sink.now;
      held_now = held c.answer.new.sink;
      write_faults = counts c.args.sink.now;
      write_faults_now = counts c.answer.new.sink;
    } in
    retold c.args.command (left c.args.source.now) (left c.read_whole.new.source) c.in-Ok-All.bytes.items (faults c.args.source.now) (faults c.read_whole.new.source) sides c.answer.result
    ends.0 ends.1 c.answer.ensures.read (subst (λ b. CommandEnds c.args.command b sides c.answer.result) c.as_slice.ensures.value c.answer.ensures.ends)
