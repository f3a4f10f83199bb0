use Rattle.std.proofs.Common.{sym, refl, ◌∙◌, subst}
use Rattle.corten_base.specs.declared.calls.Call.TheVariants as call
use Rattle.corten_base.specs.declared.calls.MapPlace.{MapPlace}
use Rattle.corten_base.specs.declared.calls.Reply.TheVariants as reply
use Rattle.machine_plan.specs.Books.{state_of}
use Rattle.page_map.specs.Mapping.{is_mappable}
use Rattle.range_cursor.specs.Plans.{PlansBy}
use Rattle.range_cursor.proofs.Anywhere.{place_wrong}
use Rattle.range_cursor.proofs.Granted.{plan_refused}
use Rattle.range_cursor.proofs.mapping.plan_mapping.Goals as goal

pub returns-then-not-is_mappable-clause-plans : goal.returns-then-not-is_mappable-clause-plans
returns-then-not-is_mappable-clause-plans c b may needs =
    plan_refused b c.args.thread (call.Map c.args.mapping.space c.args.place c.args.mapping.len c.args.mapping.perm c.args.mapping.backing) c.args.levels c.args.shelf.now c.args.held.now.rows c.args.kit.now may tt reply.Einval c.args.held.now.rows c.refuse.new.kit c.refuse.ensures.kit c.refuse.ensures.none
    (place_wrong (state_of b) c.args.thread c.args.mapping.space c.args.mapping.len c.args.mapping.perm c.args.mapping.backing c.args.place
    ((λ i. is_mappable (may.same_levels i) (may.same_files i) c.args.mapping.len c.args.mapping.backing) ∙ sym c.if-not-is_mappable.ensures)) refl

pub returns-in-Any-clause-plans : goal.returns-in-Any-clause-plans
returns-in-Any-clause-plans c =
    subst (λ (p : MapPlace). PlansBy c.args.thread c.args.shelf.now c.args.levels c.args.needed (call.Map c.args.mapping.space p c.args.mapping.len c.args.mapping.perm c.args.mapping.backing) c.args.held.now.rows c.args.kit.now c.plan_any.new.held.rows c.plan_any.new.kit)
    (sym c.in-Any.is) (c.plan_any.ensures.plans c.args.shelf.now (sym c.if-not-is_mappable.ensures))

pub returns-in-At-clause-plans : goal.returns-in-At-clause-plans
returns-in-At-clause-plans c =
    subst (λ (p : MapPlace). PlansBy c.args.thread c.args.shelf.now c.args.levels c.args.needed (call.Map c.args.mapping.space p c.args.mapping.len c.args.mapping.perm c.args.mapping.backing) c.args.held.now.rows c.args.kit.now c.plan_at.new.held.rows c.plan_at.new.kit)
    (sym c.in-At.is) (λ b may needs. c.plan_at.ensures.plans c.args.shelf.now (sym c.if-not-is_mappable.ensures) b c.args.thread c.requires.thread may needs)

pub returns-in-New-clause-plans : goal.returns-in-New-clause-plans
returns-in-New-clause-plans c =
    subst (λ (p : MapPlace). PlansBy c.args.thread c.args.shelf.now c.args.levels c.args.needed (call.Map c.args.mapping.space p c.args.mapping.len c.args.mapping.perm c.args.mapping.backing) c.args.held.now.rows c.args.kit.now c.plan_at-in-New.new.held.rows c.plan_at-in-New.new.kit)
    (sym c.in-New.is) (λ b may needs. c.plan_at-in-New.ensures.plans c.args.shelf.now (sym c.if-not-is_mappable.ensures) b c.args.thread c.requires.thread may needs)
