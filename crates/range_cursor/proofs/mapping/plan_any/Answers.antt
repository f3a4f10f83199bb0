use Rattle.std.specs.Prelude.{◌≡◌, ◌∷◌, [], ◌++◌, ◌*◌, false, ℕ}
use Rattle.std.proofs.Common.{refl, ◌∙◌, ap, subst, arith}
use Rattle.corten_base.specs.declared.calls.TxnOp.TheVariants as op
use Rattle.machine_plan.specs.declared.kit.Kit.{Kit}
use Rattle.machine_plan.specs.declared.kit.Change.TheVariants as change
use Rattle.table_place.specs.Place.{pages_of}
use Rattle.range_cursor.specs.Arena.{RefusesPlace, GivesPlace}
use Rattle.range_cursor.proofs.Anywhere.{any_refused, any_granted}
use Rattle.range_cursor.proofs.RangeCalls.{draws_at}
use Rattle.range_cursor.proofs.RangePlans.{taken_by, changed_by, draws_kept}
use Rattle.range_cursor.proofs.mapping.plan_any.Goals as goal

pub returns-in-Err-clause-plans : goal.returns-in-Err-clause-plans
returns-in-Err-clause-plans c files right b may needs =
    any_refused b c.args.thread c.args.levels c.args.mapping.space c.args.mapping.len c.args.mapping.perm c.args.mapping.backing files c.args.held.now.rows c.args.kit.now right may c.in-Err.reply c.refuse.new.kit
    (subst (λ n. RefusesPlace c.args.levels c.args.thread c.args.mapping.space n c.args.held.now.rows c.in-Err.reply) c.pages-count.ensures
    (subst (λ s. RefusesPlace c.args.levels c.args.thread s c.pages-count.result c.args.held.now.rows c.in-Err.reply) c.number-space.ensures.value c.in-Err.ensures.refused))
    c.refuse.ensures.kit c.refuse.ensures.none

pub returns-in-Ok-clause-plans : goal.returns-in-Ok-clause-plans
returns-in-Ok-clause-plans c files right b may needs =
    let rows = c.args.held.now.rows in
    let k0 = c.args.kit.now in
    let k1 = c.take_range.new.kit in
    let k2 = c.note_change.new.kit in
    let given = subst (λ n. GivesPlace c.args.levels c.args.thread c.args.mapping.space n rows c.in-Ok.page) c.pages-count.ensures
    (subst (λ s. GivesPlace c.args.levels c.args.thread s c.pages-count.result rows c.in-Ok.page) c.number-space.ensures.value c.in-Ok.ensures.granted) in
    any_granted b c.args.thread c.args.levels c.args.mapping.space c.args.mapping.len c.args.mapping.perm c.args.mapping.backing files rows k0 right may c.in-Ok.page given
    c.args.needed c.take_range.new.held.rows k2 c.requires.thread
    (omega (arith, c.in-Ok.ensures.inside.0, c.pages-count.ensures), omega (arith, c.in-Ok.ensures.inside.1, c.pages-count.ensures))
    needs c.requires.few (changed_by c.args.needed k0 k1 k2 (taken_by c.args.needed k0 k1 c.take_range.ensures.kit) c.note_change.ensures.kit) c.note_change.ensures.room
    (draws_kept c.args.mapping.space c.in-Ok.page (pages_of c.args.mapping.len) rows c.take_range.new.held.rows k1 k2 c.note_change.ensures.kit
    (draws_at c.number-space.ensures.value refl c.pages-count.ensures c.take_range.ensures.draws))
    (ap (λ (k : Kit). k.wants.items) c.note_change.ensures.kit ∙ ap (λ (k : Kit). k.wants.items) c.take_range.ensures.kit ∙ may.idle.wants)
    (c.note_change.ensures.changes
    ∙ ap (λ l. l ++ change.Op (op.Map (c.in-Ok.page * 4096) false c.args.mapping.len c.args.mapping.perm c.args.mapping.backing) ∷ []) (ap (λ (k : Kit). k.changes.items) c.take_range.ensures.kit ∙ may.idle.changes)
    ∙ ap (λ n. change.Op (op.Map n false c.args.mapping.len c.args.mapping.perm c.args.mapping.backing) ∷ []) (turned c.in-Ok.page))
  where
    turned : (n : ℕ) → n * 4096 ≡ 4096 * n
    turned n = omega arith
