use Rattle.std.proofs.Common.{[], ◌∷◌, refl, sym, ap, subst, ◌∙◌}
use Rattle.std.specs.FinMap as map
use Rattle.corten_base.specs.declared.calls.Call.TheVariants as call
use Rattle.table_place.specs.Place.{root}
use Rattle.page_map.specs.Spaces.{least_absent}
use Rattle.page_map.specs.State.{IsConsistent, levels}
use Rattle.mm_model.specs.NewSpaces.{MayMake, with_space}
use Rattle.mm_model.proofs.OpCalls.{stopped_step}
use Rattle.mm_model.proofs.SpaceSteps.{spawn_birth, all_present, born, least_is_absent, may_spawn, too_few_tables, made_ok}
use Rattle.mm_model.proofs.plain.Plain.spawn.Goals as goal

pub returns-in_default-clause-ok : goal.returns-in_default-clause-ok
returns-in_default-clause-ok c = λ thread.
    all_present c.args.self.now call.Spawn map.empty (λ new. root (levels c.args.self.now) new ∷ []) (spawn_birth c.args.self.now) thread c.args.limbo refl
    (ap least_absent (sym c.self.view_is) ∙ sym c.least_absent.ensures ∙ c.in_default.is)

pub root_for-requires-clause-absent : goal.root_for-requires-clause-absent
root_for-requires-clause-absent c = least_is_absent c.args.self.now c.in-Some.new (ap least_absent (sym c.self.view_is) ∙ sym c.least_absent.ensures ∙ c.in-Some.is)

pub make-requires : goal.make-requires
make-requires c =
    subst (λ m. MayMake c.args.self.now c.in-Some.new m c.deref.result.now) (sym c.new.ensures)
    (subst (MayMake c.args.self.now c.in-Some.new map.empty) (sym (c.deref.ensures.value ∙ c.in-Ok.ensures.tables))
    (may_spawn c.args.self.now c.in-Some.new c.args.limbo (subst IsConsistent c.self.view_is c.self.invariant.state)
    (ap least_absent (sym c.self.view_is) ∙ sym c.least_absent.ensures ∙ c.in-Some.is) c.in-Ok.ensures.enough))

pub returns-in-Ok-clause-ok : goal.returns-in-Ok-clause-ok
returns-in-Ok-clause-ok c =
    made_ok c.args.self.now c.make.new.self c.in-Some.new c.new.result c.deref.result.now c.args.limbo call.Spawn c.make.result c.make.ensures.reply c.make.ensures.ok
    (λ i. with_space c.args.self.now c.in-Some.new (c.new.ensures i) ((c.deref.ensures.value ∙ c.in-Ok.ensures.tables) i))
    (λ thread. born c.args.self.now call.Spawn map.empty (λ new. root (levels c.args.self.now) new ∷ []) (spawn_birth c.args.self.now) thread c.args.limbo refl c.in-Some.new
    (ap least_absent (sym c.self.view_is) ∙ sym c.least_absent.ensures ∙ c.in-Some.is) c.in-Ok.ensures.enough)

pub returns-in-Err-clause-ok : goal.returns-in-Err-clause-ok
returns-in-Err-clause-ok c =
    stopped_step c.args.self.now c.args.limbo call.Spawn c.in-Err.stop c.refusal.result c.refusal.ensures c.in-Err.ensures.refused (λ r e thread.
    too_few_tables c.args.self.now call.Spawn map.empty (λ new. root (levels c.args.self.now) new ∷ []) (spawn_birth c.args.self.now) thread c.args.limbo refl c.in-Some.new
    (ap least_absent (sym c.self.view_is) ∙ sym c.least_absent.ensures ∙ c.in-Some.is) r e)
