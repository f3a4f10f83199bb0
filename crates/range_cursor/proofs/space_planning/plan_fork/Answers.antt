use Rattle.std.specs.Prelude.{◌∷◌, [], ◌++◌}
use Rattle.std.proofs.Common.{sym, refl, ◌∙◌, ap}
use Rattle.page_map.specs.State.{is_present}
use Rattle.machine_plan.specs.declared.kit.Kit.{Kit}
use Rattle.machine_plan.specs.declared.kit.Change.TheVariants as change
use Rattle.machine_plan.specs.Books.{state_of}
use Rattle.range_cursor.proofs.RangeCalls.{draws_at}
use Rattle.range_cursor.proofs.RangePlans.{taken_by, changed_by, draws_kept}
use Rattle.range_cursor.proofs.SpacePlans.{knows_by, fork_knows, fork_absent, fork_full, fork_granted}
use Rattle.range_cursor.specs.Spaces.{user_count}
use Rattle.range_cursor.proofs.space_planning.plan_fork.Goals as goal

pub returns-then-not-is_present-clause-plans : goal.returns-then-not-is_present-clause-plans
returns-then-not-is_present-clause-plans c b thread files may needs =
    let rows = c.args.held.now.rows in
    let k0 = c.args.kit.now in
    let knows = knows_by (state_of b) c.number.result rows (fork_knows b thread c.args.levels c.args.space c.args.needed files rows k0 may) in
    fork_absent b thread c.args.levels c.args.space c.args.needed files rows k0 c.refuse.new.kit may
    (ap (is_present (state_of b)) (sym c.number.ensures.value) ∙ (sym (c.is_present.ensures (state_of b) knows) ∙ c.if-not-is_present.true)) c.refuse.ensures.kit c.refuse.ensures.none

pub returns-in-None-clause-plans : goal.returns-in-None-clause-plans
returns-in-None-clause-plans c b thread files may needs =
    let rows = c.args.held.now.rows in
    let k0 = c.args.kit.now in
    let all = fork_knows b thread c.args.levels c.args.space c.args.needed files rows k0 may in
    let knows = knows_by (state_of b) c.number.result rows all in
    fork_full b thread c.args.levels c.args.space c.args.needed files rows k0 c.refuse-in-None.new.kit may
    (ap (is_present (state_of b)) (sym c.number.ensures.value) ∙ (sym (c.is_present.ensures (state_of b) knows) ∙ c.if-not-is_present.false)) (sym (c.least_space.ensures (state_of b) all) ∙ c.in-None.is) c.refuse-in-None.ensures.kit c.refuse-in-None.ensures.none

pub returns-in-Some-clause-plans : goal.returns-in-Some-clause-plans
returns-in-Some-clause-plans c b thread files may needs =
    let rows = c.args.held.now.rows in
    let k0 = c.args.kit.now in
    let k1 = c.take_range.new.kit in
    let k2 = c.note_change.new.kit in
    let all = fork_knows b thread c.args.levels c.args.space c.args.needed files rows k0 may in
    let knows = knows_by (state_of b) c.number.result rows all in
    fork_granted b thread c.args.levels c.args.space c.args.needed files rows k0 c.in-Some.new c.take_range.new.held.rows k2 may needs c.requires.few
    (ap (is_present (state_of b)) (sym c.number.ensures.value) ∙ (sym (c.is_present.ensures (state_of b) knows) ∙ c.if-not-is_present.false)) (sym (c.least_space.ensures (state_of b) all) ∙ c.in-Some.is)
    (changed_by c.args.needed k0 k1 k2 (taken_by c.args.needed k0 k1 c.take_range.ensures.kit) c.note_change.ensures.kit) c.note_change.ensures.room
    (draws_kept c.args.space 16 (user_count c.args.levels) rows c.take_range.new.held.rows k1 k2 c.note_change.ensures.kit (draws_at c.number-in-Some.ensures.value refl c.user_pages.ensures.value c.take_range.ensures.draws))
    (ap (λ (k : Kit). k.wants.items) c.note_change.ensures.kit ∙ ap (λ (k : Kit). k.wants.items) c.take_range.ensures.kit ∙ may.idle.wants)
    (c.note_change.ensures.changes ∙ ap (λ l. l ++ change.Fork c.in-Some.new ∷ []) (ap (λ (k : Kit). k.changes.items) c.take_range.ensures.kit ∙ may.idle.changes))
