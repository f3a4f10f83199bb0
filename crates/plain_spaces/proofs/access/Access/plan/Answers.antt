use Rattle.std.proofs.Common.{◌≡◌, Some, sym, subst, ◌∙◌}
use Rattle.std.specs.Prelude.{slice_index}
use Rattle.std.specs.Option.{option_map}
use Rattle.std.specs.FinMap as map
use Rattle.std.proofs.lemmas.Result.{err_from_is_err_and}
use Rattle.std.proofs.lemmas.Option.{IfSome_then}
use Rattle.page_map.specs.Access.{first_page, refused_at}
use Rattle.plain_spaces.specs.Reach.{IsUserAccess}
use Rattle.plain_spaces.specs.Wants.{want_of}
use Rattle.plain_spaces.proofs.Plans.{refused_by_near, refused_by_far, refused_by_none}
use Rattle.plain_spaces.proofs.access.Access.plan.Goals as goal
use Rattle.plain_spaces.proofs.access.Access.plan.Goals.{After-look, In_ok-near}

-- the access that the call was given
abbrev given : (c : After-look) → IsUserAccess c.args.self
given c = subst IsUserAccess c.self.view_is c.self.invariant

-- what `look` was asked of
abbrev asked : (c : After-look) → refused_at c.args.shelf.now c.args.self.write (first_page c.args.self) (map.get c.args.cells.now (first_page c.args.self))
    ≡ refused_at c.args.shelf.now c.self.inside.write c.first.result (map.get c.args.cells.now c.first.result)
asked c = sym (λ i. refused_at c.args.shelf.now (c.self.view_is i).write (c.first.ensures.value i) (map.get c.args.cells.now (c.first.ensures.value i)))

abbrev wanted : (c : In_ok-near) → option_map (want_of c.args.shelf.now (slice_index c.args.frames.now) c.args.self.write) (map.get c.args.cells.now (first_page c.args.self)) ≡ Some c.in_ok-near.near
wanted c = sym (λ i. option_map (want_of c.args.shelf.now (slice_index c.args.frames.now) (c.self.view_is i).write) (map.get c.args.cells.now (c.first.ensures.value i))) ∙ c.in_ok-near.ensures.wanted

pub returns-in_err-near-clause-refused : goal.returns-in_err-near-clause-refused
returns-in_err-near-clause-refused c =
    let before = (goal.at.returns-in_err-near-clause-refused c).After-look in
    let p = err_from_is_err_and c.from_residual.result c.from_residual.ensures.1 in rw (p.1, p.2)
    (IfSome_then _ c.in_err-near.ensures.refused (λ r e. refused_by_near c.args.shelf.now c.args.cells.now (slice_index c.args.frames.now) c.args.self (given before).some (given before).few r (asked before ∙ e)))

pub returns-in_err-far-clause-refused : goal.returns-in_err-far-clause-refused
returns-in_err-far-clause-refused c =
    let at = goal.at.returns-in_err-far-clause-refused c in
    let p = err_from_is_err_and c.from_residual-in_err-far.result c.from_residual-in_err-far.ensures.1 in rw (p.1, p.2)
    (IfSome_then _ c.in_err-far.ensures.refused (λ r e. refused_by_far c.args.shelf.now c.args.cells.now (slice_index c.args.frames.now) c.args.self (given at.After-look).some (given at.After-look).few r (asked at.After-look ∙ c.in_ok-near.ensures.ok) e))

pub returns-clause-plan : goal.returns-clause-plan
returns-clause-plan c =
    let at = goal.at.returns-clause-plan c in
    record { user = given at.After-look; near = wanted at.In_ok-near; far = c.in_ok-far.ensures.wanted }

pub returns-clause-ok : goal.returns-clause-ok
returns-clause-ok c =
    let at = goal.at.returns-clause-ok c in
    refused_by_none c.args.shelf.now c.args.cells.now (slice_index c.args.frames.now) c.args.self (given at.After-look).some (given at.After-look).few (asked at.After-look ∙ c.in_ok-near.ensures.ok) c.in_ok-far.ensures.ok
