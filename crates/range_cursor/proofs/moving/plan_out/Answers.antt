use Rattle.std.specs.Prelude.{map, Some, None}
use Rattle.std.proofs.Common.{refl, ◌∙◌, ap, subst}
use Rattle.machine_plan.specs.declared.kit.Kit.{Kit}
use Rattle.range_cursor.specs.PageRanges.{AnswersRange}
use Rattle.range_cursor.specs.Moves.{want_out}
use Rattle.range_cursor.proofs.RangeCalls.{draws_at}
use Rattle.range_cursor.proofs.MovePlans.{out_refused, out_granted, wants_room}
use Rattle.range_cursor.proofs.moving.plan_out.Goals as goal

pub returns-in-Err-clause-plans : goal.returns-in-Err-clause-plans
returns-in-Err-clause-plans c b thread files may needs =
    out_refused b thread c.args.levels c.args.space c.args.at c.args.len c.args.needed files c.args.held.now.rows c.args.held.now.rows c.args.kit.now c.refuse.new.kit c.in-Err.reply
    (subst (λ s. AnswersRange c.args.levels s c.args.at c.args.len c.args.held.now.rows (Some c.in-Err.reply)) c.number.ensures.value c.in-Err.ensures.refused)
    c.refuse.ensures.kit c.refuse.ensures.none refl may

pub returns-in-Ok-clause-plans : goal.returns-in-Ok-clause-plans
returns-in-Ok-clause-plans c b thread files may needs =
    out_granted b thread c.args.levels c.args.space c.args.at c.args.len c.args.needed files c.args.held.now.rows c.take_range.new.held.rows c.args.kit.now (record c.take_range.new.kit { wants = c.note_out.new.wants }) c.requires.few
    (subst (λ s. AnswersRange c.args.levels s c.args.at c.args.len c.args.held.now.rows None) c.number.ensures.value c.in-Ok.ensures.granted)
    (draws_at c.number-in-Ok.ensures.value (c.first.ensures.value ∙ c.in-Ok.ensures.range.0) (c.count.ensures.value ∙ c.in-Ok.ensures.range.1) c.take_range.ensures.draws)
    (wants_room c.take_range.new.kit (record c.take_range.new.kit { wants = c.note_out.new.wants }) refl c.take_range.ensures.kit_room c.note_out.ensures.room)
    (ap (λ (k : Kit). record k { wants = c.note_out.new.wants; changes = c.take_range.new.kit.changes }) c.take_range.ensures.kit) (ap (λ (k : Kit). k.changes.items) c.take_range.ensures.kit) (c.note_out.ensures.wants ∙ ap (map want_out) c.as_slice.ensures.value) may needs
