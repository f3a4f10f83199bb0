use Rattle.std.specs.Prelude.{◌≡◌, ℕ, ◌/◌, ◌∷◌, [], ◌++◌, length, true, false, List, Some, None}
use Rattle.std.proofs.Common.{sym, ◌∙◌, ap, subst, arith}
use Rattle.corten_base.specs.declared.calls.Backing.{Backing}
use Rattle.corten_base.specs.declared.calls.Call.TheVariants as call
use Rattle.corten_base.specs.declared.calls.TxnOp.TheVariants as op
use Rattle.machine_plan.specs.declared.kit.Kit.{Kit}
use Rattle.machine_plan.specs.declared.kit.Change.TheVariants as change
use Rattle.machine_plan.specs.Books.{state_of}
use Rattle.table_place.specs.Place.{pages_of}
use Rattle.page_map.specs.Mapping.{is_mappable}
use Rattle.page_map.specs.State.{State, levels}
use Rattle.range_cursor.specs.Mapped.{fixed}
use Rattle.range_cursor.specs.PageRanges.{AnswersRange}
use Rattle.range_cursor.proofs.MapPlans.{taken_place, fixed_early, fixed_uses, fixed_changes, fixed_wants, taken_told}
use Rattle.range_cursor.proofs.RangeCalls.{fixed_is, draws_at}
use Rattle.range_cursor.proofs.RangePlans.{asked, first_refused, rest_refused, range_granted, taken_by, changed_by, draws_kept}
use Rattle.range_cursor.proofs.mapping.plan_at.Goals as goal

-- the same of the state
at_state : (st : State) (depth len : ℕ) (files : List (List ℕ)) (what : Backing) → levels st ≡ depth → st.files ≡ files → is_mappable depth files len what ≡ true → is_mappable (levels st) st.files len what ≡ true
at_state st depth len files what l f right = subst (λ x. is_mappable x st.files len what ≡ true) (sym l) (subst (λ x. is_mappable depth x len what ≡ true) (sym f) right)

pub returns-in-Err-clause-plans : goal.returns-in-Err-clause-plans
returns-in-Err-clause-plans c files right b thread small may needs =
    let st = state_of b in
    let mappable = at_state st c.args.levels c.args.mapping.len files c.args.mapping.backing may.same_levels may.same_files right in
    let is = fixed_is st thread c.args.mapping.space c.args.at c.args.fresh c.args.mapping.len c.args.mapping.perm c.args.mapping.backing mappable in
    let rest = taken_place st c.args.mapping.space c.args.at c.args.fresh c.args.mapping.len c.args.mapping.perm c.args.mapping.backing in
    let early = fixed_early st thread c.args.mapping.space c.args.at c.args.mapping.len c.args.mapping.perm c.args.mapping.backing c.args.fresh mappable in
    first_refused b thread (call.Map c.args.mapping.space (fixed c.args.fresh c.args.at) c.args.mapping.len c.args.mapping.perm c.args.mapping.backing) c.args.levels c.args.mapping.space c.args.at c.args.mapping.len false files c.args.held.now.rows c.args.kit.now is rest early may c.in-Err.reply c.refuse.new.kit
    (subst (λ s. AnswersRange c.args.levels s c.args.at c.args.mapping.len c.args.held.now.rows (Some c.in-Err.reply)) c.number.ensures.value c.in-Err.ensures.refused) c.refuse.ensures.kit c.refuse.ensures.none

pub returns-in-Some-clause-plans : goal.returns-in-Some-clause-plans
returns-in-Some-clause-plans c files right b thread small may needs =
    let st = state_of b in
    let mappable = at_state st c.args.levels c.args.mapping.len files c.args.mapping.backing may.same_levels may.same_files right in
    let is = fixed_is st thread c.args.mapping.space c.args.at c.args.fresh c.args.mapping.len c.args.mapping.perm c.args.mapping.backing mappable in
    let rest = taken_place st c.args.mapping.space c.args.at c.args.fresh c.args.mapping.len c.args.mapping.perm c.args.mapping.backing in
    let early = fixed_early st thread c.args.mapping.space c.args.at c.args.mapping.len c.args.mapping.perm c.args.mapping.backing c.args.fresh mappable in
    let granted = subst (λ s. AnswersRange c.args.levels s c.args.at c.args.mapping.len c.args.held.now.rows None) c.number.ensures.value c.in-Ok.ensures.granted in
    rest_refused b thread (call.Map c.args.mapping.space (fixed c.args.fresh c.args.at) c.args.mapping.len c.args.mapping.perm c.args.mapping.backing) c.args.levels c.args.mapping.space c.args.at c.args.mapping.len false files c.args.held.now.rows c.args.kit.now is rest early may granted c.in-Some.reply c.refuse-in-Some.new.kit
    (taken_told st thread c.args.mapping.space c.args.at c.args.mapping.len c.args.mapping.perm c.args.mapping.backing c.args.held.now.rows c.in-Ok.range.first c.in-Ok.range.count c.args.fresh c.mapped_in.result c.in-Ok.ensures.range.0 c.in-Ok.ensures.range.1 c.mapped_in.ensures
    (asked b thread (call.Map c.args.mapping.space (fixed c.args.fresh c.args.at) c.args.mapping.len c.args.mapping.perm c.args.mapping.backing) c.args.levels c.args.mapping.space c.args.at c.args.mapping.len false files c.args.held.now.rows c.args.kit.now is rest early may granted) may.shown ∙ c.in-Some.is)
    c.refuse-in-Some.ensures.kit c.refuse-in-Some.ensures.none

pub returns-in-None-clause-plans : goal.returns-in-None-clause-plans
returns-in-None-clause-plans c files right b thread small may needs =
    let st = state_of b in
    let mappable = at_state st c.args.levels c.args.mapping.len files c.args.mapping.backing may.same_levels may.same_files right in
    let is = fixed_is st thread c.args.mapping.space c.args.at c.args.fresh c.args.mapping.len c.args.mapping.perm c.args.mapping.backing mappable in
    let rest = taken_place st c.args.mapping.space c.args.at c.args.fresh c.args.mapping.len c.args.mapping.perm c.args.mapping.backing in
    let early = fixed_early st thread c.args.mapping.space c.args.at c.args.mapping.len c.args.mapping.perm c.args.mapping.backing c.args.fresh mappable in
    let granted = subst (λ s. AnswersRange c.args.levels s c.args.at c.args.mapping.len c.args.held.now.rows None) c.number.ensures.value c.in-Ok.ensures.granted in
    let k0 = c.args.kit.now in
    let k1 = c.take_range.new.kit in
    let k2 = c.note_change.new.kit in
    let wants = ap (λ (k : Kit). k.wants.items) c.note_change.ensures.kit ∙ ap (λ (k : Kit). k.wants.items) c.take_range.ensures.kit ∙ may.idle.wants in
    range_granted b thread (call.Map c.args.mapping.space (fixed c.args.fresh c.args.at) c.args.mapping.len c.args.mapping.perm c.args.mapping.backing) c.args.levels c.args.mapping.space c.args.at c.args.mapping.len false files c.args.held.now.rows c.args.kit.now is rest early may granted c.args.needed needs c.requires.few
    (taken_told st thread c.args.mapping.space c.args.at c.args.mapping.len c.args.mapping.perm c.args.mapping.backing c.args.held.now.rows c.in-Ok.range.first c.in-Ok.range.count c.args.fresh c.mapped_in.result c.in-Ok.ensures.range.0 c.in-Ok.ensures.range.1 c.mapped_in.ensures
    (asked b thread (call.Map c.args.mapping.space (fixed c.args.fresh c.args.at) c.args.mapping.len c.args.mapping.perm c.args.mapping.backing) c.args.levels c.args.mapping.space c.args.at c.args.mapping.len false files c.args.held.now.rows c.args.kit.now is rest early may granted) may.shown ∙ c.in-None.is)
    k2 (changed_by c.args.needed k0 k1 k2 (taken_by c.args.needed k0 k1 c.take_range.ensures.kit) c.note_change.ensures.kit) c.note_change.ensures.room
    (c.note_change.ensures.changes ∙ ap (λ l. l ++ change.Op (op.Map c.args.at c.args.fresh c.args.mapping.len c.args.mapping.perm c.args.mapping.backing) ∷ []) (ap (λ (k : Kit). k.changes.items) c.take_range.ensures.kit ∙ may.idle.changes)
    ∙ fixed_changes st thread c.args.mapping.space c.args.at c.args.mapping.len c.args.mapping.perm c.args.mapping.backing c.args.fresh)
    c.take_range.new.held.rows (fixed_uses st thread c.args.mapping.space c.args.at c.args.mapping.len c.args.mapping.perm c.args.mapping.backing c.args.fresh)
    (draws_kept c.args.mapping.space (c.args.at / 4096) (pages_of c.args.mapping.len) c.args.held.now.rows c.take_range.new.held.rows k1 k2 c.note_change.ensures.kit
    (draws_at c.number-space.ensures.value (c.first.ensures.value ∙ c.in-Ok.ensures.range.0) (c.count.ensures.value ∙ c.in-Ok.ensures.range.1) c.take_range.ensures.draws))
    (wants ∙ fixed_wants st thread c.args.mapping.space c.args.at c.args.mapping.len c.args.mapping.perm c.args.mapping.backing c.args.fresh) (omega (arith, ap length wants))
