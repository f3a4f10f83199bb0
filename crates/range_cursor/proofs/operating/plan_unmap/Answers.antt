use Rattle.std.specs.Prelude.{◌≡◌, ◌/◌, ◌∷◌, [], ◌++◌, length, true, List, Some, None}
use Rattle.std.proofs.Common.{refl, ◌∙◌, ap, subst, arith}
use Rattle.corten_base.specs.declared.calls.Call.TheVariants as call
use Rattle.corten_base.specs.declared.calls.TxnOp.TheVariants as op
use Rattle.machine_plan.specs.declared.kit.Kit.{Kit}
use Rattle.machine_plan.specs.declared.kit.Change.{Change}
use Rattle.machine_plan.specs.declared.kit.Change.TheVariants as change
use Rattle.machine_plan.specs.Books.{state_of}
use Rattle.machine_plan.specs.Uses.{changes_of, wants_of}
use Rattle.table_place.specs.Place.{pages_of}
use Rattle.range_cursor.specs.PageRanges.{AnswersRange}
use Rattle.range_cursor.proofs.Asking.{first_three}
use Rattle.range_cursor.proofs.RangeCalls.{unmap_is, draws_at}
use Rattle.range_cursor.proofs.RangePlans.{first_refused, range_granted, taken_by, changed_by, draws_kept}
use Rattle.range_cursor.proofs.operating.plan_unmap.Goals as goal

pub returns-in-Err-clause-plans : goal.returns-in-Err-clause-plans
returns-in-Err-clause-plans c b thread files may needs =
    first_refused b thread (call.Unmap c.args.space c.args.at c.args.len) c.args.levels c.args.space c.args.at c.args.len true files c.args.held.now.rows c.args.kit.now (unmap_is (state_of b) thread c.args.space c.args.at c.args.len)
    None (first_three _ _ None) may c.in-Err.reply c.refuse.new.kit
    (subst (λ s. AnswersRange c.args.levels s c.args.at c.args.len c.args.held.now.rows (Some c.in-Err.reply)) c.number.ensures.value c.in-Err.ensures.refused) c.refuse.ensures.kit c.refuse.ensures.none

-- no changes before the first one
one_more : (old : List Change) (x y : Change) → old ≡ [] → (old ++ x ∷ []) ++ y ∷ [] ≡ x ∷ y ∷ []
one_more old x y none = ap (λ l. (l ++ x ∷ []) ++ y ∷ []) none

pub returns-in-Ok-clause-plans : goal.returns-in-Ok-clause-plans
unfolding wants_of changes_of
returns-in-Ok-clause-plans c b thread files may needs =
    let granted = subst (λ s. AnswersRange c.args.levels s c.args.at c.args.len c.args.held.now.rows None) c.number.ensures.value c.in-Ok.ensures.granted in
    let k0 = c.args.kit.now in
    let k1 = c.take_range.new.kit in
    let k2 = c.note_change.new.kit in
    let k3 = c.note_change-in-Ok.new.kit in
    let first = c.first-in-Ok.ensures.value ∙ c.in-Ok.ensures.range.0 in
    let count = c.count-in-Ok.ensures.value ∙ c.in-Ok.ensures.range.1 in
    let none = ap (λ (k : Kit). k.changes.items) c.take_range.ensures.kit ∙ may.idle.changes in
    let wants = ap (λ (k : Kit). k.wants.items) c.note_change-in-Ok.ensures.kit ∙ ap (λ (k : Kit). k.wants.items) c.note_change.ensures.kit ∙ ap (λ (k : Kit). k.wants.items) c.take_range.ensures.kit ∙ may.idle.wants in
    range_granted b thread (call.Unmap c.args.space c.args.at c.args.len) c.args.levels c.args.space c.args.at c.args.len true files c.args.held.now.rows k0 (unmap_is (state_of b) thread c.args.space c.args.at c.args.len) None (first_three _ _ None) may granted c.args.needed needs c.requires.few refl
    k3 (changed_by c.args.needed k0 k2 k3 (changed_by c.args.needed k0 k1 k2 (taken_by c.args.needed k0 k1 c.take_range.ensures.kit) c.note_change.ensures.kit) c.note_change-in-Ok.ensures.kit) c.note_change-in-Ok.ensures.room
    (c.note_change-in-Ok.ensures.changes ∙ ap (λ l. l ++ change.GiveUp c.first-in-Ok.result c.count-in-Ok.result ∷ []) c.note_change.ensures.changes ∙ one_more k1.changes.items (change.Op (op.Unmap c.args.at c.args.len)) (change.GiveUp c.first-in-Ok.result c.count-in-Ok.result) none
    ∙ (λ i. change.Op (op.Unmap c.args.at c.args.len) ∷ change.GiveUp (first i) (count i) ∷ []))
    c.take_range.new.held.rows (λ s page. refl)
    (draws_kept c.args.space (c.args.at / 4096) (pages_of c.args.len) c.args.held.now.rows c.take_range.new.held.rows k2 k3 c.note_change-in-Ok.ensures.kit
    (draws_kept c.args.space (c.args.at / 4096) (pages_of c.args.len) c.args.held.now.rows c.take_range.new.held.rows k1 k2 c.note_change.ensures.kit
    (draws_at c.number-in-Ok.ensures.value (c.first.ensures.value ∙ c.in-Ok.ensures.range.0) (c.count.ensures.value ∙ c.in-Ok.ensures.range.1) c.take_range.ensures.draws)))
    wants (omega (arith, ap length wants))
