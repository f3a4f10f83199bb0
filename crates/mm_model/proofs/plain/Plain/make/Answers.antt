use Rattle.std.proofs.Common.{sym, ap, subst, ◌∙◌}
use Rattle.page_map.specs.State.{State}
use Rattle.plain_counts.specs.declared.counts.Counts.{Counts}
use Rattle.mm_model.specs.Plain.{IsSound}
use Rattle.mm_model.specs.NewSpaces.{MayMake, with_space}
use Rattle.mm_model.proofs.NewSpaces.{counted_in, roomy_in, back, is_made, made_is_sound}
use Rattle.mm_model.proofs.plain.Plain.make.Goals as goal
use Rattle.mm_model.proofs.plain.Plain.make.Goals.{After-insert_all}

-- the state that the machine had
abbrev before : After-insert_all → State
before c = record { spaces = c.self.inside.spaces; tables = c.self.inside.tables; limits = c.self.inside.limits; files = c.self.inside.shelf }

abbrev may : (c : After-insert_all) → MayMake (before c) c.args.new c.args.cells c.args.tables.now
may c = subst (λ st. MayMake st c.args.new c.args.cells c.args.tables.now) (sym c.self.view_is) c.requires

pub insert_all-requires : goal.insert_all-requires
insert_all-requires c = record {
  absent = (subst (λ st. MayMake st c.args.new c.args.cells c.args.tables.now) (sym c.self.view_is) c.requires).apart;
}

pub put_in-requires-clause-counted : goal.put_in-requires-clause-counted
put_in-requires-clause-counted c =
    let at = (goal.at.put_in-requires-clause-counted c).After-insert_all in
    counted_in (before at) c.args.new c.args.cells c.args.tables.now _ _ (may at) c.self.invariant

pub put_in-requires-clause-room : goal.put_in-requires-clause-room
put_in-requires-clause-room c =
    let at = (goal.at.put_in-requires-clause-room c).After-insert_all in
    roomy_in (before at) c.args.new c.args.cells c.args.tables.now _ _ (may at) c.self.invariant

pub put_in-requires-clause-low : goal.put_in-requires-clause-low
put_in-requires-clause-low c = (may (goal.at.put_in-requires-clause-low c).After-insert_all).low

pub invariant_of-self-in-Ok : goal.invariant_of-self-in-Ok
invariant_of-self-in-Ok c =
    let at = (goal.at.invariant_of-self-in-Ok c).After-insert_all in
    made_is_sound (before at) c.args.new c.args.cells c.args.tables.now _ _ (may at) c.self.invariant c.insert_all.new.self c.in_ok-insert_all.ensures.ok c.put_in.new.spaces c.in-Ok.ensures.spaces c.put_in.new.counts c.in-Ok.ensures.counts

pub returns-in-Ok-clause-ok : goal.returns-in-Ok-clause-ok
returns-in-Ok-clause-ok c =
    let at = (goal.at.returns-in-Ok-clause-ok c).After-insert_all in
    is_made (before at) c.args.new c.args.cells c.args.tables.now _ _ (may at) c.self.invariant c.insert_all.new.self c.in_ok-insert_all.ensures.ok c.put_in.new.spaces c.in-Ok.ensures.spaces
    ∙ ap (λ st. with_space st c.args.new c.args.cells c.args.tables.now) c.self.view_is

-- nothing has changed
pub invariant_of-self-in-Err : goal.invariant_of-self-in-Err
invariant_of-self-in-Err c =
    let at = (goal.at.invariant_of-self-in-Err c).After-insert_all in
    let st = before at in
    let P : State × Counts → Type 0 = λ x. IsSound x.0 x.1 c.self.inside.fronts in
    let tables = back st c.args.new c.args.cells c.args.tables.now _ _ (may at) c.self.invariant c.insert_all.new.self c.in_ok-insert_all.ensures.ok c.remove_all.new.self c.remove_all.ensures in
    subst P (λ i. (record st { spaces = sym c.in-Err.ensures.spaces_stay i; tables = sym tables i }, sym c.in-Err.ensures.counts_stay i)) c.self.invariant

pub returns-in-Err-clause-err : goal.returns-in-Err-clause-err
returns-in-Err-clause-err c =
    let at = (goal.at.returns-in-Err-clause-err c).After-insert_all in
    let st = before at in
    let tables = back st c.args.new c.args.cells c.args.tables.now _ _ (may at) c.self.invariant c.insert_all.new.self c.in_ok-insert_all.ensures.ok c.remove_all.new.self c.remove_all.ensures in
    (λ i. record st { spaces = c.in-Err.ensures.spaces_stay i; tables = tables i }) ∙ c.self.view_is
