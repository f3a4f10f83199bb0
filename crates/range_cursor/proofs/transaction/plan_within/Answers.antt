use Rattle.std.specs.Prelude.{◌/◌, ◌++◌, length, map, false, Some, None}
use Rattle.std.proofs.Common.{refl, ◌∙◌, ap, subst, arith}
use Rattle.corten_base.specs.declared.calls.Call.TheVariants as call
use Rattle.machine_plan.specs.declared.kit.Kit.{Kit}
use Rattle.machine_plan.specs.declared.kit.Change.TheVariants as change
use Rattle.machine_plan.specs.Books.{state_of}
use Rattle.machine_plan.specs.Uses.{changes_of, wants_of}
use Rattle.table_place.specs.Place.{pages_of}
use Rattle.range_cursor.specs.PageRanges.{AnswersRange}
use Rattle.range_cursor.proofs.RangeCalls.{txn_is, draws_at}
use Rattle.range_cursor.proofs.RangePlans.{asked, first_refused, rest_refused, range_granted, taken_by, changed_by, draws_kept}
use Rattle.range_cursor.proofs.Undone.{undone_reply, txn_early, undone_told}
use Rattle.range_cursor.proofs.transaction.plan_within.Goals as goal

pub returns-in-Err-clause-plans : goal.returns-in-Err-clause-plans
returns-in-Err-clause-plans c b thread small may needs =
    let st = state_of b in
    let rest = undone_reply st c.args.space c.args.at c.args.len c.args.ops.now in
    let early = txn_early st thread c.args.space c.args.at c.args.len c.args.ops.now in
    let is = txn_is st thread c.args.space c.args.at c.args.len c.args.ops.now in
    first_refused b thread (call.Txn c.args.space c.args.at c.args.len c.args.ops.now) c.args.levels c.args.space c.args.at c.args.len false c.args.shelf.now c.args.held.now.rows c.args.kit.now is rest early may c.in-Err.reply c.refuse.new.kit
    (subst (λ s. AnswersRange c.args.levels s c.args.at c.args.len c.args.held.now.rows (Some c.in-Err.reply)) c.number.ensures.value c.in-Err.ensures.refused) c.refuse.ensures.kit c.refuse.ensures.none

pub returns-in-Some-clause-plans : goal.returns-in-Some-clause-plans
returns-in-Some-clause-plans c b thread small may needs =
    let st = state_of b in
    let rest = undone_reply st c.args.space c.args.at c.args.len c.args.ops.now in
    let early = txn_early st thread c.args.space c.args.at c.args.len c.args.ops.now in
    let is = txn_is st thread c.args.space c.args.at c.args.len c.args.ops.now in
    let granted = subst (λ s. AnswersRange c.args.levels s c.args.at c.args.len c.args.held.now.rows None) c.number.ensures.value c.in-Ok.ensures.granted in
    rest_refused b thread (call.Txn c.args.space c.args.at c.args.len c.args.ops.now) c.args.levels c.args.space c.args.at c.args.len false c.args.shelf.now c.args.held.now.rows c.args.kit.now is rest early may granted c.in-Some.reply c.refuse-in-Some.new.kit
    (undone_told st c.args.held.now.rows c.args.levels c.args.shelf.now c.args.space c.args.at c.args.len c.in-Ok.range.first c.in-Ok.range.count c.args.ops.now c.undone_in.result may.same_levels may.same_files c.in-Ok.ensures.range.0 c.in-Ok.ensures.range.1 c.undone_in.ensures
    (asked b thread (call.Txn c.args.space c.args.at c.args.len c.args.ops.now) c.args.levels c.args.space c.args.at c.args.len false c.args.shelf.now c.args.held.now.rows c.args.kit.now is rest early may granted) may.shown ∙ c.in-Some.is)
    c.refuse-in-Some.ensures.kit c.refuse-in-Some.ensures.none

pub returns-in-None-clause-plans : goal.returns-in-None-clause-plans
unfolding wants_of changes_of
returns-in-None-clause-plans c b thread small may needs =
    let st = state_of b in
    let rest = undone_reply st c.args.space c.args.at c.args.len c.args.ops.now in
    let early = txn_early st thread c.args.space c.args.at c.args.len c.args.ops.now in
    let is = txn_is st thread c.args.space c.args.at c.args.len c.args.ops.now in
    let granted = subst (λ s. AnswersRange c.args.levels s c.args.at c.args.len c.args.held.now.rows None) c.number.ensures.value c.in-Ok.ensures.granted in
    let k0 = c.args.kit.now in
    let k1 = c.take_range.new.kit in
    let k2 = c.note_ops.new.kit in
    let wants = ap (λ (k : Kit). k.wants.items) c.note_ops.ensures.kit ∙ ap (λ (k : Kit). k.wants.items) c.take_range.ensures.kit ∙ may.idle.wants in
    range_granted b thread (call.Txn c.args.space c.args.at c.args.len c.args.ops.now) c.args.levels c.args.space c.args.at c.args.len false c.args.shelf.now c.args.held.now.rows k0 is rest early may granted c.args.needed needs c.requires.few
    (undone_told st c.args.held.now.rows c.args.levels c.args.shelf.now c.args.space c.args.at c.args.len c.in-Ok.range.first c.in-Ok.range.count c.args.ops.now c.undone_in.result may.same_levels may.same_files c.in-Ok.ensures.range.0 c.in-Ok.ensures.range.1 c.undone_in.ensures
    (asked b thread (call.Txn c.args.space c.args.at c.args.len c.args.ops.now) c.args.levels c.args.space c.args.at c.args.len false c.args.shelf.now c.args.held.now.rows c.args.kit.now is rest early may granted) may.shown ∙ c.in-None.is)
    k2 (changed_by c.args.needed k0 k1 k2 (taken_by c.args.needed k0 k1 c.take_range.ensures.kit) c.note_ops.ensures.kit) c.note_ops.ensures.room
    (c.note_ops.ensures.changes ∙ ap (λ l. l ++ map change.Op c.args.ops.now) (ap (λ (k : Kit). k.changes.items) c.take_range.ensures.kit ∙ may.idle.changes))
    c.take_range.new.held.rows (λ s page. refl)
    (draws_kept c.args.space (c.args.at / 4096) (pages_of c.args.len) c.args.held.now.rows c.take_range.new.held.rows k1 k2 c.note_ops.ensures.kit
    (draws_at c.number-space.ensures.value (c.first.ensures.value ∙ c.in-Ok.ensures.range.0) (c.count.ensures.value ∙ c.in-Ok.ensures.range.1) c.take_range.ensures.draws))
    wants (omega (arith, ap length wants))
