use Rattle.std.proofs.Common.{ap, sym, subst, ◌∙◌}
use Rattle.std.specs.Prelude.{is_some}
use Rattle.std.specs.Option.{option_copied}
use Rattle.std.specs.FinMap as map
use Rattle.page_map.specs.State.{State}
use Rattle.page_map.specs.Step.{refusal}
use Rattle.mm_model.specs.Placing.{call_of, IsPlaced}
use Rattle.mm_model.proofs.Placed.{is_placed}
use Rattle.mm_model.proofs.Placing.{not_right, is_there, gap_there, no_space_there, no_gap_there}
use Rattle.mm_model.proofs.plain.Plain.place.Goals as goal

pub returns-then-not-is_right-clause-refused : goal.returns-then-not-is_right-clause-refused
returns-then-not-is_right-clause-refused c = λ limbo.
    sym (ap (λ st. refusal st c.args.thread (call_of c.args.mapping.now) limbo) c.self.view_is)
    ∙ not_right _ c.args.thread c.args.mapping.now limbo (sym c.is_right.ensures ∙ c.if-not-is_right.true)

pub returns-in_default-clause-refused : goal.returns-in_default-clause-refused
returns-in_default-clause-refused c = λ limbo.
    sym (ap (λ st. refusal st c.args.thread (call_of c.args.mapping.now) limbo) c.self.view_is)
    ∙ no_space_there _ c.args.thread c.args.mapping.now limbo (sym c.is_right.ensures ∙ c.if-not-is_right.false)
    (ap is_some (ap (map.get c.self.inside.spaces) (sym c.number-space.ensures.value) ∙ sym c.get.ensures ∙ ap option_copied c.in_default.is))

pub returns-in-None-clause-refused : goal.returns-in-None-clause-refused
returns-in-None-clause-refused c = λ limbo.
    let m = c.args.mapping.now in
    let st : State = record { spaces = c.self.inside.spaces; tables = c.self.inside.tables; limits = c.self.inside.limits; files = c.self.inside.shelf } in
    sym (ap (λ st. refusal st c.args.thread (call_of m) limbo) c.self.view_is)
    ∙ no_gap_there st c.args.thread m limbo (sym c.is_right.ensures ∙ c.if-not-is_right.false)
    (is_there st c.args.thread m limbo c.number-space.result c.pages.result c.in-Some.cells.now c.number-space.ensures.value c.in-Some.ensures)
    (gap_there st c.args.thread m limbo c.number-space.result c.pages.result c.in-Some.cells.now c.number-space.ensures.value c.in-Some.ensures
    c.gap.result c.pages.ensures.count c.gap.ensures ∙ c.in-None.is)

pub returns-in-Some-gap-clause-placed : goal.returns-in-Some-gap-clause-placed
returns-in-Some-gap-clause-placed c =
    let m = c.args.mapping.now in
    let st : State = record { spaces = c.self.inside.spaces; tables = c.self.inside.tables; limits = c.self.inside.limits; files = c.self.inside.shelf } in
    subst (λ st. IsPlaced st c.args.thread m c.in-Some-gap.first) c.self.view_is
    (is_placed st c.args.thread m c.in-Some-gap.first c.self.invariant.state.some_levels c.self.invariant.state.few_levels c.requires.thread (sym c.is_right.ensures ∙ c.if-not-is_right.false)
    (is_there st c.args.thread m 0 c.number-space.result c.pages.result c.in-Some.cells.now c.number-space.ensures.value c.in-Some.ensures)
    (gap_there st c.args.thread m 0 c.number-space.result c.pages.result c.in-Some.cells.now c.number-space.ensures.value c.in-Some.ensures
    c.gap.result c.pages.ensures.count c.gap.ensures ∙ c.in-Some-gap.is))
