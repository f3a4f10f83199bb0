use Rattle.std.proofs.Common.{◌≡◌, Some, None, refl, sym, ap, subst, ◌∙◌}
use Rattle.std.specs.Prelude.{IfOk, IfErr, IfSome, length}
use Rattle.std.specs.Option.{option_copied, unwrap_or}
use Rattle.std.specs.FinMap as map
use Rattle.std.specs.FinSet as set
use Rattle.page_map.specs.Spaces.{copied_tables}
use Rattle.page_map.specs.State.{State, IsConsistent, linked}
use Rattle.plain_counts.specs.Levels.{Lists}
use Rattle.plain_spaces.specs.Wants.{refusal_of}
use Rattle.mm_model.specs.Lacking.{lack, tables_lack}
use Rattle.mm_model.proofs.Lacks.{lack_listed}
use Rattle.mm_model.proofs.NewSpaces.{copies_listed}
use Rattle.mm_model.proofs.plain.Plain.copies_for.Goals as goal
use Rattle.mm_model.proofs.plain.Plain.copies_for.Goals.{After-affordable}

-- the tables of the copy, by the state of the machine
abbrev lists : (c : After-affordable) → Lists (set.from_list (copied_tables c.args.self.now c.args.space c.args.new)) c.in_ok-found.found.items
lists c =
    let st : State = record { spaces = c.self.inside.spaces; tables = c.self.inside.tables; limits = c.self.inside.limits; files = c.self.inside.shelf } in
    let here : map.get c.self.inside.spaces c.args.space ≡ Some c.unwrap-cells.result.now = sym c.get.ensures ∙ ap option_copied c.unwrap-cells.ensures in
    subst (λ (st : State). Lists (set.from_list (copied_tables st c.args.space c.args.new)) c.in_ok-found.found.items) c.self.view_is
    (c.in_ok-found.ensures st c.self.invariant.state (record { same_levels = refl; same_cells = ap (λ o. unwrap_or o map.empty) here; same_tables = refl }))

-- their want is judged by the length of the list
abbrev judged : (c : After-affordable) →
    lack c.args.self.now.limits.tables (linked c.args.self.now) c.args.limbo (length c.in_ok-found.found.items) ≡ tables_lack c.args.self.now (copied_tables c.args.self.now c.args.space c.args.new) c.args.limbo
judged c =
    lack_listed c.args.self.now (copied_tables c.args.self.now c.args.space c.args.new) c.in_ok-found.found.items c.args.limbo
    (copies_listed c.args.self.now c.args.space c.args.new c.in_ok-found.found.items (subst IsConsistent c.self.view_is c.self.invariant.state) c.requires.absent (lists c))

pub returns-clause-enough : goal.returns-clause-enough
returns-clause-enough c =
    let at = (goal.at.returns-clause-enough c).After-affordable in
    subst (λ o. IfOk c.affordable.result (λ _. o ≡ None)) (judged at) c.affordable.ensures.enough

pub returns-clause-refused : goal.returns-clause-refused
returns-clause-refused c =
    let at = (goal.at.returns-clause-refused c).After-affordable in
    subst (λ o. IfErr c.affordable.result (λ stop. IfSome (refusal_of stop) (λ reply. o ≡ Some reply))) (judged at) c.affordable.ensures.refused
