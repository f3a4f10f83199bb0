-- What was restored, or the first line outside the grammar of images.
use Rattle.std.proofs.Common.{Some, [], refl, subst, sym, inl}
use Rattle.std.specs.List.{All}
use Rattle.corten_run.specs.Endings.{Sides}
use Rattle.corten_run.specs.declared.command.Command.TheVariants.{Restore}
use Rattle.corten_run.specs.declared.ending.Ending.TheVariants.{Done}
use Rattle.history_lines.specs.HistoryText.{IsEntry}
use Rattle.corten_run.proofs.Told.{refusal_ends}
use Rattle.corten_run.proofs.ImageEndings.{restored_entries, restored_text}
use Rattle.corten_run.proofs.answers.answer_restore.Goals as goal

pub returns-in-Err-Bad-clause-ends : goal.returns-in-Err-Bad-clause-ends
returns-in-Err-Bad-clause-ends g c =
    let held = g.K.Sink.held in
    let faults = g.K.Sink.faults in
    let sides : Sides = record {
      left_now = Some [];
      read_faults = 0;
      read_faults_now = 0;
      held = held c.args.sink.now;
      held_now = held c.refuse.new.sink;
      write_faults = faults c.args.sink.now;
      write_faults_now = faults c.refuse.new.sink;
    } in
    refusal_ends Restore c.args.bytes.now c.in-Err-Bad.line sides c.refuse.result c.requires (rw c.in-Err-Bad.field-0-is at c.in-Err-Bad.ensures.none) (rw c.in-Err-Bad.field-0-is at c.in-Err-Bad.ensures.bad) c.refuse.ensures

pub write_history-requires : goal.write_history-requires
write_history-requires g c =
    subst (All IsEntry) (sym c.list-entries.ensures) (restored_entries c.in-Ok.image c.in-Ok-restore.history c.in-Ok.ensures.found.is_image c.in-Ok-restore.ensures)

pub returns-in-Whole-clause-ends : goal.returns-in-Whole-clause-ends
returns-in-Whole-clause-ends g c =
    (_, (restored_text c.args.bytes.now c.in-Ok.image c.in-Ok-restore.history c.list-entries.result.now c.list-entries.ensures c.in-Ok.ensures.found c.requires c.in-Ok-restore.ensures, refl), c.in-Whole.ensures.written, refl)

pub returns-in-Failed-clause-ends : goal.returns-in-Failed-clause-ends
returns-in-Failed-clause-ends g c = (
  (Done, _, (restored_text c.args.bytes.now c.in-Ok.image c.in-Ok-restore.history c.list-entries.result.now c.list-entries.ensures c.in-Ok.ensures.found c.requires c.in-Ok-restore.ensures, refl), c.in-Failed.ensures.written.0),
  c.in-Failed.ensures.written.1,
)

pub returns-clause-ends : goal.returns-clause-ends
returns-clause-ends g c =
    inl (Done, _, (restored_text c.args.bytes.now c.in-Ok.image c.in-Ok-restore.history c.list-entries.result.now c.list-entries.ensures c.in-Ok.ensures.found c.requires c.in-Ok-restore.ensures, refl), c.in-NoMemory.ensures.written)
