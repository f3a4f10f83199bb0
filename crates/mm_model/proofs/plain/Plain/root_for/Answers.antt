use Rattle.std.proofs.Common.{◌≡◌, Some, None, [], ◌∷◌, ap, subst, ◌∙◌}
use Rattle.std.specs.Prelude.{IfOk, IfErr, IfSome, length}
use Rattle.table_place.specs.Place.{root}
use Rattle.page_map.specs.State.{State, IsConsistent, levels, linked}
use Rattle.plain_spaces.specs.Wants.{refusal_of}
use Rattle.mm_model.specs.Lacking.{lack, tables_lack}
use Rattle.mm_model.proofs.Lacks.{lack_listed}
use Rattle.mm_model.proofs.NewSpaces.{root_listed}
use Rattle.mm_model.proofs.plain.Plain.root_for.Goals as goal
use Rattle.mm_model.proofs.plain.Plain.root_for.Goals.{After-affordable}

-- the root's want is judged by the length of the list
abbrev judged : (c : After-affordable) →
    lack c.args.self.now.limits.tables (linked c.args.self.now) c.args.limbo (length c.in_ok-found.found.items) ≡ tables_lack c.args.self.now (root (levels c.args.self.now) c.args.new ∷ []) c.args.limbo
judged c =
    let st = c.args.self.now in
    lack_listed st (root (levels st) c.args.new ∷ []) c.in_ok-found.found.items c.args.limbo
    (root_listed st c.args.new c.in_ok-found.found.items (subst IsConsistent c.self.view_is c.self.invariant.state) c.requires.absent (c.in_ok-found.ensures ∙ ap (λ (st : State). root (levels st) c.args.new ∷ []) c.self.view_is))

pub returns-clause-enough : goal.returns-clause-enough
returns-clause-enough c =
    let at = (goal.at.returns-clause-enough c).After-affordable in
    subst (λ o. IfOk c.affordable.result (λ _. o ≡ None)) (judged at) c.affordable.ensures.enough

pub returns-clause-refused : goal.returns-clause-refused
returns-clause-refused c =
    let at = (goal.at.returns-clause-refused c).After-affordable in
    subst (λ o. IfErr c.affordable.result (λ stop. IfSome (refusal_of stop) (λ reply. o ≡ Some reply))) (judged at) c.affordable.ensures.refused
