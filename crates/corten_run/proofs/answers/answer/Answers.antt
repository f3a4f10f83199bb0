-- The command is the one that was served.
use Rattle.std.proofs.Common.{Some, [], sym, subst}
use Rattle.corten_run.specs.Endings.{Sides, CommandEnds}
use Rattle.corten_run.proofs.answers.answer.Goals as goal

pub returns-in-Check-clause-ends : goal.returns-in-Check-clause-ends
returns-in-Check-clause-ends g c =
    let held = g.K.Sink.held in
    let faults = g.K.Sink.faults in
    let sides : Sides = record {
      left_now = Some [];
      read_faults = 0;
      read_faults_now = 0;
      held = held c.args.sink.now;
      held_now = held c.answer_history.new.sink;
      write_faults = faults c.args.sink.now;
      write_faults_now = faults c.answer_history.new.sink;
    } in
    subst (λ k. CommandEnds k c.args.bytes.now sides c.answer_history.result) (sym c.in-Check.is) c.answer_history.ensures.ends

pub returns-in-Victims-clause-ends : goal.returns-in-Victims-clause-ends
returns-in-Victims-clause-ends g c =
    let held = g.K.Sink.held in
    let faults = g.K.Sink.faults in
    let sides : Sides = record {
      left_now = Some [];
      read_faults = 0;
      read_faults_now = 0;
      held = held c.args.sink.now;
      held_now = held c.answer_victims.new.sink;
      write_faults = faults c.args.sink.now;
      write_faults_now = faults c.answer_victims.new.sink;
    } in
    subst (λ k. CommandEnds k c.args.bytes.now sides c.answer_victims.result) (sym c.in-Victims.is) c.answer_victims.ensures.ends

pub returns-in-Tlb-clause-ends : goal.returns-in-Tlb-clause-ends
returns-in-Tlb-clause-ends g c =
    let held = g.K.Sink.held in
    let faults = g.K.Sink.faults in
    let sides : Sides = record {
      left_now = Some [];
      read_faults = 0;
      read_faults_now = 0;
      held = held c.args.sink.now;
      held_now = held c.answer_caches.new.sink;
      write_faults = faults c.args.sink.now;
      write_faults_now = faults c.answer_caches.new.sink;
    } in
    subst (λ k. CommandEnds k c.args.bytes.now sides c.answer_caches.result) (sym c.in-Tlb.is) c.answer_caches.ensures.ends

pub returns-in-Save-clause-ends : goal.returns-in-Save-clause-ends
returns-in-Save-clause-ends g c =
    let held = g.K.Sink.held in
    let faults = g.K.Sink.faults in
    let sides : Sides = record {
      left_now = Some [];
      read_faults = 0;
      read_faults_now = 0;
      held = held c.args.sink.now;
      held_now = held c.answer_save.new.sink;
      write_faults = faults c.args.sink.now;
      write_faults_now = faults c.answer_save.new.sink;
    } in
    subst (λ k. CommandEnds k c.args.bytes.now sides c.answer_save.result) (sym c.in-Save.is) c.answer_save.ensures.ends

pub returns-in-Restore-clause-ends : goal.returns-in-Restore-clause-ends
returns-in-Restore-clause-ends g c =
    let held = g.K.Sink.held in
    let faults = g.K.Sink.faults in
    let sides : Sides = record {
      left_now = Some [];
      read_faults = 0;
      read_faults_now = 0;
      held = held c.args.sink.now;
      held_now = held c.answer_restore.new.sink;
      write_faults = faults c.args.sink.now;
      write_faults_now = faults c.answer_restore.new.sink;
    } in
    subst (λ k. CommandEnds k c.args.bytes.now sides c.answer_restore.result) (sym c.in-Restore.is) c.answer_restore.ensures.ends
