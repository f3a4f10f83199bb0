-- Other words name no command; the status is that of the ending.
use Rattle.corten_run.specs.declared.command.Command.TheVariants.{Solo, Check, Victims, Tlb, Save, Restore}
use Rattle.corten_run.proofs.Told.{told_named, done_named, refused_named, judged_named, found_named, answered_named}
use Rattle.corten_run.proofs.OneCommand.{one_command}
use Rattle.corten_run.proofs.ImageEndings.{saved_named, restored_named, only_save, few_statuses}
use Rattle.corten_run.proofs.top.corten_plain.Goals as goal

pub returns-in_default-clause-complete : goal.returns-in_default-clause-complete
returns-in_default-clause-complete g c = λ levels script named quiet silent. absurd (c.in_default.ensures.none (Solo levels) named)

pub returns-in_default-clause-judges : goal.returns-in_default-clause-judges
returns-in_default-clause-judges g c = λ history verdict named quiet silent. absurd (c.in_default.ensures.none Check named)

pub returns-in_default-clause-answers_events : goal.returns-in_default-clause-answers_events
returns-in_default-clause-answers_events g c = λ named quiet silent. absurd (c.in_default.ensures.none Tlb named)

pub returns-in_default-clause-refuses : goal.returns-in_default-clause-refuses
returns-in_default-clause-refuses g c = λ command named quiet. absurd (c.in_default.ensures.none command named)

pub returns-in_default-clause-told : goal.returns-in_default-clause-told
returns-in_default-clause-told g c = λ command named. absurd (c.in_default.ensures.none command named)

pub returns-clause-told : goal.returns-clause-told
returns-clause-told g c = λ command named.
    told_named c.in-Some.command command (one_command _ c.in-Some.command command c.in-Some.ensures.found named) _ _ c.serve.result c.status-2.result c.status-2.ensures c.serve.ensures.told

pub returns-clause-complete : goal.returns-clause-complete
returns-clause-complete g c = λ levels script named quiet silent.
    done_named c.in-Some.command levels (one_command _ c.in-Some.command (Solo levels) c.in-Some.ensures.found named) _ script _ c.serve.result c.status-2.result c.status-2.ensures c.serve.ensures.told quiet silent

pub returns-clause-judges : goal.returns-clause-judges
returns-clause-judges g c = λ history verdict named quiet silent.
    judged_named c.in-Some.command (one_command _ c.in-Some.command Check c.in-Some.ensures.found named) _ history verdict _ c.serve.result c.status-2.result c.status-2.ensures c.serve.ensures.told quiet silent

pub returns-in_default-clause-finds : goal.returns-in_default-clause-finds
returns-in_default-clause-finds g c = λ most history verdict named quiet silent. absurd (c.in_default.ensures.none (Victims most) named)

pub returns-clause-finds : goal.returns-clause-finds
returns-clause-finds g c = λ most history verdict named quiet silent.
    found_named c.in-Some.command most (one_command _ c.in-Some.command (Victims most) c.in-Some.ensures.found named) _ history verdict _ c.serve.result c.status-2.result c.status-2.ensures c.serve.ensures.told quiet silent

pub returns-clause-answers_events : goal.returns-clause-answers_events
returns-clause-answers_events g c = λ named quiet silent.
    answered_named c.in-Some.command (one_command _ c.in-Some.command Tlb c.in-Some.ensures.found named) _ _ c.serve.result c.status-2.result c.status-2.ensures c.serve.ensures.told quiet silent

pub returns-clause-refuses : goal.returns-clause-refuses
returns-clause-refuses g c = λ command named quiet.
    refused_named c.in-Some.command command (one_command _ c.in-Some.command command c.in-Some.ensures.found named) _ _ c.serve.result c.status-2.result c.status-2.ensures c.serve.ensures.told quiet

pub returns-in_default-clause-saves : goal.returns-in_default-clause-saves
returns-in_default-clause-saves g c = λ space history named quiet silent. absurd (c.in_default.ensures.none (Save space) named)

pub returns-clause-saves : goal.returns-clause-saves
returns-clause-saves g c = λ space history named quiet silent.
    saved_named c.in-Some.command space (one_command _ c.in-Some.command (Save space) c.in-Some.ensures.found named) _ history _ c.serve.result c.status-2.result c.status-2.ensures c.serve.ensures.told quiet silent

pub returns-in_default-clause-restores : goal.returns-in_default-clause-restores
returns-in_default-clause-restores g c = λ image named quiet silent. absurd (c.in_default.ensures.none Restore named)

pub returns-clause-restores : goal.returns-clause-restores
returns-clause-restores g c = λ image named quiet silent.
    restored_named c.in-Some.command (one_command _ c.in-Some.command Restore c.in-Some.ensures.found named) _ image _ c.serve.result c.status-2.result c.status-2.ensures c.serve.ensures.told quiet silent

pub returns-clause-not_saved : goal.returns-clause-not_saved
returns-clause-not_saved g c = only_save _ c.in-Some.command c.serve.result c.status-2.result c.in-Some.ensures.found c.serve.ensures.not_saved c.status-2.ensures

pub returns-clause-status : goal.returns-clause-status
returns-clause-status g c = few_statuses c.serve.result c.status-2.result c.status-2.ensures
