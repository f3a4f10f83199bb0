use Rattle.std.specs.Prelude.{◌∷◌, [], ◌++◌}
use Rattle.std.proofs.Common.{◌∙◌, ap, subst}
use Rattle.machine_plan.specs.declared.kit.Kit.{Kit}
use Rattle.machine_plan.specs.declared.kit.Change.TheVariants as change
use Rattle.page_map.specs.Remap.{Resize, resize_of}
use Rattle.held_spans.specs.declared.resizing.Placing.{Placing}
use Rattle.range_cursor.specs.Resized.{RefusesResize, GivesPlacing, placed_by, left_from, left_by}
use Rattle.range_cursor.proofs.RangeCalls.{draws_at}
use Rattle.range_cursor.proofs.RangePlans.{taken_by, changed_by, draws_kept}
use Rattle.range_cursor.proofs.Resizes.{resize_refused, resize_granted}
use Rattle.range_cursor.proofs.remapping.plan_resize.Goals as goal

pub returns-in-Err-clause-plans : goal.returns-in-Err-clause-plans
returns-in-Err-clause-plans c files b may needs =
    resize_refused b c.args.thread c.args.levels c.args.space c.args.at c.args.old_len c.args.new_len files c.args.held.now.rows c.args.kit.now may c.in-Err.reply c.refuse.new.kit
    (subst (λ s. RefusesResize c.args.levels c.args.thread s c.args.at c.args.old_len c.args.new_len c.args.held.now.rows c.in-Err.reply) c.number-number.ensures.value c.in-Err.ensures.refused)
    c.refuse.ensures.kit c.refuse.ensures.none

pub returns-in-Ok-clause-plans : goal.returns-in-Ok-clause-plans
returns-in-Ok-clause-plans c files b may needs =
    let rows = c.args.held.now.rows in
    let k0 = c.args.kit.now in
    let k1 = c.take_range.new.kit in
    let k2 = c.note_change.new.kit in
    let k3 = c.note_change-in-Ok.new.kit in
    let same = c.in-Ok.ensures.range in
    let p : Placing = c.in-Ok.resized.placing in
    let from = c.first_left-first.ensures.value ∙ ap (λ (r : Resize). left_from r p) same in
    let by = c.count_left-count.ensures.value ∙ ap (λ (r : Resize). left_by r p) same in
    let to = c.first_after.ensures ∙ ap (λ (r : Resize). placed_by r p) same in
    resize_granted b c.args.thread c.args.levels c.args.space c.args.at c.args.old_len c.args.new_len files rows k0 may p
    (subst (λ s. GivesPlacing c.args.levels c.args.thread s c.args.at c.args.old_len c.args.new_len rows p) c.number-number.ensures.value c.in-Ok.ensures.granted)
    c.args.needed c.take_range.new.held.rows k3 needs c.requires.few
    (changed_by c.args.needed k0 k2 k3 (changed_by c.args.needed k0 k1 k2 (taken_by c.args.needed k0 k1 c.take_range.ensures.kit) c.note_change.ensures.kit) c.note_change-in-Ok.ensures.kit) c.note_change-in-Ok.ensures.room
    (draws_kept c.args.space (left_from (resize_of c.args.at c.args.old_len c.args.new_len) p) (left_by (resize_of c.args.at c.args.old_len c.args.new_len) p) rows c.take_range.new.held.rows k2 k3 c.note_change-in-Ok.ensures.kit
    (draws_kept c.args.space (left_from (resize_of c.args.at c.args.old_len c.args.new_len) p) (left_by (resize_of c.args.at c.args.old_len c.args.new_len) p) rows c.take_range.new.held.rows k1 k2 c.note_change.ensures.kit
    (draws_at c.number-number.ensures.value from by c.take_range.ensures.draws)))
    (ap (λ (k : Kit). k.wants.items) c.note_change-in-Ok.ensures.kit ∙ ap (λ (k : Kit). k.wants.items) c.note_change.ensures.kit ∙ ap (λ (k : Kit). k.wants.items) c.take_range.ensures.kit ∙ may.idle.wants)
    (c.note_change-in-Ok.ensures.changes
    ∙ ap (λ l. l ++ change.GiveUp c.first_left-first.result c.count_left-count.result ∷ [])
    (c.note_change.ensures.changes ∙ ap (λ l. l ++ change.Move c.in-Ok.resized.range.first c.in-Ok.resized.range.old c.first_after.result c.in-Ok.resized.range.new ∷ []) (ap (λ (k : Kit). k.changes.items) c.take_range.ensures.kit ∙ may.idle.changes))
    ∙ (λ i. change.Move (same i).first (same i).old (to i) (same i).new ∷ change.GiveUp (from i) (by i) ∷ []))
