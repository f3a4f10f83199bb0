use Rattle.std.specs.Prelude.{◌≡◌, ℕ, ◌*◌, ◌∷◌, [], ◌++◌, false, Some, None, Option}
use Rattle.std.specs.Option.{option_map, option_or}
use Rattle.std.proofs.Common.{refl, ◌∙◌, ap, subst}
use Rattle.corten_base.specs.declared.calls.Call.TheVariants as call
use Rattle.corten_base.specs.declared.calls.TxnOp.TheVariants as op
use Rattle.corten_base.specs.declared.calls.Reply.{Reply}
use Rattle.corten_base.specs.declared.calls.Reply.TheVariants as reply
use Rattle.corten_base.specs.declared.calls.Why.TheVariants as why
use Rattle.corten_base.specs.declared.permissions.Perm.{Perm}
use Rattle.machine_plan.specs.declared.kit.Kit.{Kit}
use Rattle.machine_plan.specs.declared.kit.Change.TheVariants as change
use Rattle.machine_plan.specs.Books.{BookData, state_of}
use Rattle.machine_plan.specs.Uses.{changes_of, wants_of, early_refusal}
use Rattle.table_place.specs.Place.{is_page_range}
use Rattle.page_map.specs.Mapping.{hole, refused_op}
use Rattle.page_map.specs.State.{levels, space_at, is_present}
use Rattle.page_map.specs.Step.{hole_reply, reply_why, refused_unless}
use Rattle.range_cursor.specs.PageRanges.{AnswersRange, range_refusal}
use Rattle.range_cursor.proofs.Asking.{first_three}
use Rattle.range_cursor.proofs.RangeCalls.{protect_is}
use Rattle.range_cursor.proofs.RangePlans.{asked, first_refused, rest_refused, still_granted, begun_by, changed_by, hole_told}
use Rattle.range_cursor.proofs.operating.plan_protect.Goals as goal

abbrev holes : BookData → ℕ → ℕ → ℕ → Option Reply
holes b space at len = hole_reply (hole (space_at (state_of b) space) at len)

-- a hole is told with its address
as_reply : (o : Option ℕ) → option_map reply_why (option_map (λ page. why.Hole (4096 * page)) o) ≡ hole_reply o
as_reply None = refl
as_reply (Some page) = refl

early : (b : BookData) (thread space at len : ℕ) (perm : Perm) → early_refusal (state_of b) thread (call.Protect space at len perm) ≡ option_or (range_refusal (state_of b) (levels (state_of b)) space at len) (holes b space at len)
early b thread space at len perm =
    first_three (refused_unless (is_page_range (levels (state_of b)) at len) reply.Einval) (refused_unless (is_present (state_of b) space) reply.NoSpace) (option_map reply_why (refused_op (op.Protect at len perm) (space_at (state_of b) space))) ∙ ap (option_or (range_refusal (state_of b) (levels (state_of b)) space at len)) (as_reply (hole (space_at (state_of b) space) at len))

pub returns-in-Err-clause-plans : goal.returns-in-Err-clause-plans
returns-in-Err-clause-plans c b thread files may needs =
    first_refused b thread (call.Protect c.args.space c.args.at c.args.len c.args.perm) c.args.levels c.args.space c.args.at c.args.len false files c.args.held.now.rows c.args.kit.now (protect_is (state_of b) thread c.args.space c.args.at c.args.len c.args.perm)
    (holes b c.args.space c.args.at c.args.len) (early b thread c.args.space c.args.at c.args.len c.args.perm) may c.in-Err.reply c.refuse.new.kit
    (subst (λ s. AnswersRange c.args.levels s c.args.at c.args.len c.args.held.now.rows (Some c.in-Err.reply)) c.number.ensures.value c.in-Err.ensures.refused) c.refuse.ensures.kit c.refuse.ensures.none

pub returns-in-Some-clause-plans : goal.returns-in-Some-clause-plans
returns-in-Some-clause-plans c b thread files may needs =
    let granted = subst (λ s. AnswersRange c.args.levels s c.args.at c.args.len c.args.held.now.rows None) c.number.ensures.value c.in-Ok.ensures.granted in
    rest_refused b thread (call.Protect c.args.space c.args.at c.args.len c.args.perm) c.args.levels c.args.space c.args.at c.args.len false files c.args.held.now.rows c.args.kit.now (protect_is (state_of b) thread c.args.space c.args.at c.args.len c.args.perm) (holes b c.args.space c.args.at c.args.len) (early b thread c.args.space c.args.at c.args.len c.args.perm) may granted c.in-Some.reply c.refuse-in-Some.new.kit
    (hole_told (state_of b) c.args.held.now.rows c.args.space c.args.at c.args.len c.in-Ok.range.first c.in-Ok.range.count c.hole_in.result c.in-Ok.ensures.range.0 c.in-Ok.ensures.range.1 c.hole_in.ensures
    (asked b thread (call.Protect c.args.space c.args.at c.args.len c.args.perm) c.args.levels c.args.space c.args.at c.args.len false files c.args.held.now.rows c.args.kit.now (protect_is (state_of b) thread c.args.space c.args.at c.args.len c.args.perm) (holes b c.args.space c.args.at c.args.len) (early b thread c.args.space c.args.at c.args.len c.args.perm) may granted) may.shown ∙ c.in-Some.is)
    c.refuse-in-Some.ensures.kit c.refuse-in-Some.ensures.none

pub returns-in-None-clause-plans : goal.returns-in-None-clause-plans
unfolding wants_of changes_of
returns-in-None-clause-plans c b thread files may needs =
    let granted = subst (λ s. AnswersRange c.args.levels s c.args.at c.args.len c.args.held.now.rows None) c.number.ensures.value c.in-Ok.ensures.granted in
    let k0 = c.args.kit.now in
    let k1 = c.begin.new.kit in
    let k2 = c.note_change.new.kit in
    still_granted b thread (call.Protect c.args.space c.args.at c.args.len c.args.perm) c.args.levels c.args.space c.args.at c.args.len false files c.args.held.now.rows c.args.kit.now (protect_is (state_of b) thread c.args.space c.args.at c.args.len c.args.perm) (holes b c.args.space c.args.at c.args.len) (early b thread c.args.space c.args.at c.args.len c.args.perm) may granted c.args.needed needs c.requires.few
    (hole_told (state_of b) c.args.held.now.rows c.args.space c.args.at c.args.len c.in-Ok.range.first c.in-Ok.range.count c.hole_in.result c.in-Ok.ensures.range.0 c.in-Ok.ensures.range.1 c.hole_in.ensures
    (asked b thread (call.Protect c.args.space c.args.at c.args.len c.args.perm) c.args.levels c.args.space c.args.at c.args.len false files c.args.held.now.rows c.args.kit.now (protect_is (state_of b) thread c.args.space c.args.at c.args.len c.args.perm) (holes b c.args.space c.args.at c.args.len) (early b thread c.args.space c.args.at c.args.len c.args.perm) may granted) may.shown ∙ c.in-None.is)
    k2 (changed_by c.args.needed k0 k1 k2 (begun_by c.args.needed k0 k1 c.begin.ensures.kit) c.note_change.ensures.kit) c.note_change.ensures.room
    (c.note_change.ensures.changes ∙ ap (λ l. l ++ change.Op (op.Protect c.args.at c.args.len c.args.perm) ∷ []) (ap (λ (k : Kit). k.changes.items) c.begin.ensures.kit ∙ may.idle.changes))
    (λ s page. refl)
    (ap (λ (k : Kit). k.wants.items) c.note_change.ensures.kit ∙ ap (λ (k : Kit). k.wants.items) c.begin.ensures.kit ∙ may.idle.wants)
    (ap (λ (k : Kit). k.own_frames.items) c.note_change.ensures.kit ∙ ap (λ (k : Kit). k.own_frames.items) c.begin.ensures.kit ∙ may.idle.frames)
    (ap (λ (k : Kit). k.own_slots.items) c.note_change.ensures.kit ∙ ap (λ (k : Kit). k.own_slots.items) c.begin.ensures.kit ∙ may.idle.slots)
    refl
