use Rattle.std.proofs.Common.{◌≡◌, Some, None, sym, ap, subst, ◌∙◌}
use Rattle.std.specs.Prelude.{is_some}
use Rattle.std.specs.Option.{option_copied}
use Rattle.std.specs.FinMap as map
use Rattle.std.specs.FinSet as set
use Rattle.corten_base.specs.declared.calls.Call.TheVariants as call
use Rattle.corten_base.specs.declared.calls.Reply.TheVariants as reply
use Rattle.table_place.specs.Place.{place_cmp}
use Rattle.page_map.specs.Spaces.{copied_tables, least_absent}
use Rattle.page_map.specs.State.{State, IsConsistent, space_at}
use Rattle.page_map.specs.Step.{refused_unless}
use Rattle.plain_counts.specs.Levels.{Lists}
use Rattle.mm_model.specs.Lacking.{tables_lack}
use Rattle.mm_model.specs.NewSpaces.{MayMake, with_space}
use Rattle.mm_model.proofs.OpCalls.{stopped_step}
use Rattle.mm_model.proofs.SpaceSteps.{fork_birth, no_parent, all_present, least_is_absent, may_fork, fork_refused, forked, made_ok}
use Rattle.mm_model.proofs.plain.Plain.fork.Goals as goal
use Rattle.mm_model.proofs.plain.Plain.fork.Goals.{In-Some, In-Some-least_absent}

pub returns-in_default-clause-ok : goal.returns-in_default-clause-ok
returns-in_default-clause-ok c = λ thread.
    no_parent c.args.self.now (call.Fork c.args.space) (space_at c.args.self.now c.args.space) (copied_tables c.args.self.now c.args.space) (fork_birth c.args.self.now c.args.space) thread c.args.limbo reply.NoSpace
    (ap (λ o. refused_unless (is_some o) reply.NoSpace)
    (ap (λ (st : State). map.get st.spaces c.args.space) (sym c.self.view_is) ∙ ap (map.get c.self.inside.spaces) (sym c.number-number.ensures.value) ∙ sym c.get.ensures ∙ ap option_copied c.in_default.is))

-- the cells of the parent
abbrev here : (c : In-Some) → map.get c.args.self.now.spaces c.args.space ≡ Some c.in-Some.parent.now
here c = ap (λ (st : State). map.get st.spaces c.args.space) (sym c.self.view_is) ∙ ap (map.get c.self.inside.spaces) (sym c.number-number.ensures.value) ∙ sym c.in-Some.ensures

abbrev least : (c : In-Some-least_absent) → least_absent c.args.self.now ≡ Some c.in-Some-least_absent.new
least c = ap least_absent (sym c.self.view_is) ∙ sym c.least_absent.ensures ∙ c.in-Some-least_absent.is

pub returns-in_default-least_absent-clause-ok : goal.returns-in_default-least_absent-clause-ok
returns-in_default-least_absent-clause-ok c = λ thread.
    all_present c.args.self.now (call.Fork c.args.space) (space_at c.args.self.now c.args.space) (copied_tables c.args.self.now c.args.space) (fork_birth c.args.self.now c.args.space) thread c.args.limbo
    (ap (λ o. refused_unless (is_some o) reply.NoSpace) (here (goal.at.returns-in_default-least_absent-clause-ok c).In-Some))
    (ap least_absent (sym c.self.view_is) ∙ sym c.least_absent.ensures ∙ c.in_default-least_absent.is)

pub copies_for-requires-clause-present : goal.copies_for-requires-clause-present
copies_for-requires-clause-present c =
    ap is_some (ap (map.get c.args.self.now.spaces) c.number-number.ensures.value ∙ here (goal.at.copies_for-requires-clause-present c).In-Some)

pub copies_for-requires-clause-absent : goal.copies_for-requires-clause-absent
copies_for-requires-clause-absent c = least_is_absent c.args.self.now c.in-Some-least_absent.new (least (goal.at.copies_for-requires-clause-absent c).In-Some-least_absent)

pub make-requires : goal.make-requires
make-requires c =
    let at = goal.at.make-requires c in
    subst (MayMake c.args.self.now c.in-Some-least_absent.new c.in_ok-cells.cells) (sym c.deref.ensures.value)
    (subst (λ m. MayMake c.args.self.now c.in-Some-least_absent.new m c.in-Ok.tables.items) (sym c.in_ok-cells.ensures)
    (may_fork c.args.self.now c.args.space c.in-Some-least_absent.new c.args.limbo c.in-Some.parent.now c.in-Ok.tables.items (subst IsConsistent c.self.view_is c.self.invariant.state) (here at.In-Some) (least at.In-Some-least_absent)
    (subst (λ n. Lists (set.from_list (copied_tables c.args.self.now n c.in-Some-least_absent.new)) c.in-Ok.tables.items) c.number-number.ensures.value c.in-Ok.ensures.tables)
    (subst (λ n. tables_lack c.args.self.now (copied_tables c.args.self.now n c.in-Some-least_absent.new) c.args.limbo ≡ None) c.number-number.ensures.value c.in-Ok.ensures.enough)))

pub returns-clause-ok : goal.returns-clause-ok
returns-clause-ok c =
    let at = goal.at.returns-clause-ok c in
    made_ok c.args.self.now c.make.new.self c.in-Some-least_absent.new c.in_ok-cells.cells c.deref.result.now c.args.limbo (call.Fork c.args.space) c.make.result c.make.ensures.reply c.make.ensures.ok
    (λ i. with_space c.args.self.now c.in-Some-least_absent.new (c.in_ok-cells.ensures i) (c.deref.ensures.value i))
    (λ thread. forked c.args.self.now c.args.space c.in-Some-least_absent.new c.args.limbo thread c.in-Some.parent.now c.in-Ok.tables.items (here at.In-Some) (least at.In-Some-least_absent)
    (subst (λ n. set.from_list {R = place_cmp} c.in-Ok.tables.items ≡ set.from_list (copied_tables c.args.self.now n c.in-Some-least_absent.new)) c.number-number.ensures.value c.in-Ok.ensures.tables.same)
    (subst (λ n. tables_lack c.args.self.now (copied_tables c.args.self.now n c.in-Some-least_absent.new) c.args.limbo ≡ None) c.number-number.ensures.value c.in-Ok.ensures.enough))

pub returns-in-Err-clause-ok : goal.returns-in-Err-clause-ok
returns-in-Err-clause-ok c =
    let at = goal.at.returns-in-Err-clause-ok c in
    stopped_step c.args.self.now c.args.limbo (call.Fork c.args.space) c.in-Err.stop c.refusal.result c.refusal.ensures c.in-Err.ensures.refused (λ r e thread.
    fork_refused c.args.self.now c.args.space c.in-Some-least_absent.new c.args.limbo thread c.in-Some.parent.now r (here at.In-Some) (least at.In-Some-least_absent) (subst (λ n. tables_lack c.args.self.now (copied_tables c.args.self.now n c.in-Some-least_absent.new) c.args.limbo ≡ Some r) c.number-number.ensures.value e))
