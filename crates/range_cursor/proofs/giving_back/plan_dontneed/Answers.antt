use Rattle.std.specs.Prelude.{ℕ, ◌/◌, ◌∷◌, [], ◌++◌, length, false, Some, None, Option}
use Rattle.std.proofs.Common.{refl, ◌∙◌, ap, subst, arith}
use Rattle.corten_base.specs.declared.calls.Call.TheVariants as call
use Rattle.corten_base.specs.declared.calls.Reply.{Reply}
use Rattle.machine_plan.specs.declared.kit.Kit.{Kit}
use Rattle.machine_plan.specs.declared.kit.Change.TheVariants as change
use Rattle.machine_plan.specs.Books.{BookData, state_of}
use Rattle.machine_plan.specs.Uses.{changes_of, wants_of}
use Rattle.table_place.specs.Place.{pages_of}
use Rattle.page_map.specs.Mapping.{hole}
use Rattle.page_map.specs.State.{space_at}
use Rattle.page_map.specs.Step.{hole_reply}
use Rattle.range_cursor.specs.PageRanges.{AnswersRange}
use Rattle.range_cursor.proofs.Asking.{first_three}
use Rattle.range_cursor.proofs.RangeCalls.{given_is, draws_at}
use Rattle.range_cursor.proofs.RangePlans.{asked, first_refused, rest_refused, range_granted, taken_by, changed_by, draws_kept, hole_told}
use Rattle.range_cursor.proofs.giving_back.plan_dontneed.Goals as goal

abbrev holes : BookData → ℕ → ℕ → ℕ → Option Reply
holes b space at len = hole_reply (hole (space_at (state_of b) space) at len)

pub returns-in-Err-clause-plans : goal.returns-in-Err-clause-plans
returns-in-Err-clause-plans c b thread files may needs =
    first_refused b thread (call.DontNeed c.args.space c.args.at c.args.len) c.args.levels c.args.space c.args.at c.args.len false files c.args.held.now.rows c.args.kit.now (given_is (state_of b) thread c.args.space c.args.at c.args.len)
    (holes b c.args.space c.args.at c.args.len) (first_three _ _ (holes b c.args.space c.args.at c.args.len)) may c.in-Err.reply c.refuse.new.kit
    (subst (λ s. AnswersRange c.args.levels s c.args.at c.args.len c.args.held.now.rows (Some c.in-Err.reply)) c.number.ensures.value c.in-Err.ensures.refused) c.refuse.ensures.kit c.refuse.ensures.none

pub returns-in-Some-clause-plans : goal.returns-in-Some-clause-plans
returns-in-Some-clause-plans c b thread files may needs =
    let rest = holes b c.args.space c.args.at c.args.len in
    let granted = subst (λ s. AnswersRange c.args.levels s c.args.at c.args.len c.args.held.now.rows None) c.number.ensures.value c.in-Ok.ensures.granted in
    let is = given_is (state_of b) thread c.args.space c.args.at c.args.len in
    rest_refused b thread (call.DontNeed c.args.space c.args.at c.args.len) c.args.levels c.args.space c.args.at c.args.len false files c.args.held.now.rows c.args.kit.now is rest (first_three _ _ rest) may granted c.in-Some.reply c.refuse-in-Some.new.kit
    (hole_told (state_of b) c.args.held.now.rows c.args.space c.args.at c.args.len c.in-Ok.range.first c.in-Ok.range.count c.hole_in.result c.in-Ok.ensures.range.0 c.in-Ok.ensures.range.1 c.hole_in.ensures
    (asked b thread (call.DontNeed c.args.space c.args.at c.args.len) c.args.levels c.args.space c.args.at c.args.len false files c.args.held.now.rows c.args.kit.now is rest (first_three _ _ rest) may granted) may.shown ∙ c.in-Some.is)
    c.refuse-in-Some.ensures.kit c.refuse-in-Some.ensures.none

pub returns-in-None-clause-plans : goal.returns-in-None-clause-plans
unfolding wants_of changes_of
returns-in-None-clause-plans c b thread files may needs =
    let rest = holes b c.args.space c.args.at c.args.len in
    let granted = subst (λ s. AnswersRange c.args.levels s c.args.at c.args.len c.args.held.now.rows None) c.number.ensures.value c.in-Ok.ensures.granted in
    let is = given_is (state_of b) thread c.args.space c.args.at c.args.len in
    let k1 = c.take_range.new.kit in
    let k2 = c.note_change.new.kit in
    range_granted b thread (call.DontNeed c.args.space c.args.at c.args.len) c.args.levels c.args.space c.args.at c.args.len false files c.args.held.now.rows c.args.kit.now is rest (first_three _ _ rest) may granted c.args.needed needs c.requires.few
    (hole_told (state_of b) c.args.held.now.rows c.args.space c.args.at c.args.len c.in-Ok.range.first c.in-Ok.range.count c.hole_in.result c.in-Ok.ensures.range.0 c.in-Ok.ensures.range.1 c.hole_in.ensures
    (asked b thread (call.DontNeed c.args.space c.args.at c.args.len) c.args.levels c.args.space c.args.at c.args.len false files c.args.held.now.rows c.args.kit.now is rest (first_three _ _ rest) may granted) may.shown ∙ c.in-None.is)
    k2 (changed_by c.args.needed c.args.kit.now k1 k2 (taken_by c.args.needed c.args.kit.now k1 c.take_range.ensures.kit) c.note_change.ensures.kit) c.note_change.ensures.room
    (c.note_change.ensures.changes ∙ (λ i. (ap (λ (k : Kit). k.changes.items) c.take_range.ensures.kit ∙ may.idle.changes) i ++ change.Reset ((c.first-in-None.ensures.value ∙ c.in-Ok.ensures.range.0) i) ((c.count-in-None.ensures.value ∙ c.in-Ok.ensures.range.1) i) ∷ []))
    c.take_range.new.held.rows (λ s page. refl)
    (draws_kept c.args.space (c.args.at / 4096) (pages_of c.args.len) c.args.held.now.rows c.take_range.new.held.rows k1 k2 c.note_change.ensures.kit
    (draws_at c.number-in-None.ensures.value (c.first.ensures.value ∙ c.in-Ok.ensures.range.0) (c.count.ensures.value ∙ c.in-Ok.ensures.range.1) c.take_range.ensures.draws))
    (ap (λ (k : Kit). k.wants.items) c.note_change.ensures.kit ∙ ap (λ (k : Kit). k.wants.items) c.take_range.ensures.kit ∙ may.idle.wants)
    (omega (arith, ap length (ap (λ (k : Kit). k.wants.items) c.note_change.ensures.kit ∙ ap (λ (k : Kit). k.wants.items) c.take_range.ensures.kit ∙ may.idle.wants)))
