-- What was found of the history, or the first line outside the grammar.
use Rattle.std.proofs.Common.{Some, [], inl}
use Rattle.history_lines.proofs.OneHistory.{fault_refuses}
use Rattle.corten_run.specs.Endings.{Sides, ending_of, verdict_line}
use Rattle.corten_run.specs.declared.command.Command.TheVariants.{Check}
use Rattle.corten_run.proofs.Told.{refusal_ends, verdict_text}
use Rattle.corten_run.proofs.answers.answer_history.Goals as goal

pub returns-in-Err-Bad-clause-ends : goal.returns-in-Err-Bad-clause-ends
returns-in-Err-Bad-clause-ends g c =
    let held = g.K.Sink.held in
    let faults = g.K.Sink.faults in
    let sides : Sides = record {
      left_now = Some [];
      read_faults = 0;
      read_faults_now = 0;
      held = held c.args.sink.now;
      held_now = held c.refuse.new.sink;
      write_faults = faults c.args.sink.now;
      write_faults_now = faults c.refuse.new.sink;
    } in
    let bad = rw c.in-Err-Bad.field-0-is at c.in-Err-Bad.ensures.bad in
    refusal_ends Check c.args.bytes.now c.in-Err-Bad.line sides c.refuse.result c.requires (λ h. fault_refuses c.args.bytes.now c.in-Err-Bad.line h bad) bad c.refuse.ensures

pub returns-in-Failed-clause-ends : goal.returns-in-Failed-clause-ends
returns-in-Failed-clause-ends g c =
    let v = c.in-Ok.verdict in
    let found = c.in-Ok.ensures.found in
    ((ending_of v, verdict_line v, verdict_text c.args.bytes.now found.history v found.is_text c.requires found.is_verdict, c.in-Failed.ensures.0), c.in-Failed.ensures.1)

pub returns-in-NoMemory-clause-ends : goal.returns-in-NoMemory-clause-ends
returns-in-NoMemory-clause-ends g c =
    let v = c.in-Ok.verdict in
    let found = c.in-Ok.ensures.found in
    inl (ending_of v, verdict_line v, verdict_text c.args.bytes.now found.history v found.is_text c.requires found.is_verdict, c.in-NoMemory.ensures)
