use Rattle.std.proofs.Common.{◌≡◌, ℕ, ◌/◌, true, List, Some, refl, sym, ap, subst, ◌∙◌}
use Rattle.std.specs.List.{All, flat_map}
use Rattle.std.specs.Option.{option_copied}
use Rattle.std.specs.FinMap as map
use Rattle.corten_base.specs.declared.calls.Call.TheVariants as call
use Rattle.corten_base.specs.declared.calls.TxnOp.{TxnOp}
use Rattle.table_place.specs.declared.Place.{Place}
use Rattle.table_place.specs.Place.{is_page_range, pages_of}
use Rattle.page_map.specs.Effect.{cut_by_op}
use Rattle.page_map.specs.Mapping.{is_right_within, undone}
use Rattle.page_map.specs.State.{State, levels}
use Rattle.page_map.specs.Step.{refusal}
use Rattle.page_map.specs.Tables.{missing}
use Rattle.plain_counts.specs.Levels.{Lists}
use Rattle.txn_plan.specs.Needs.{IsInSpan}
use Rattle.txn_plan.proofs.Rights.{all_in_span}
use Rattle.mm_model.specs.Lacking.{tables_lack}
use Rattle.mm_model.proofs.Lacks.{if_ok, if_refused, lack_listed}
use Rattle.mm_model.proofs.OpCalls.{no_range}
use Rattle.mm_model.proofs.TxnSteps.{wrong, absent, stopped, by_tables}
use Rattle.mm_model.proofs.plain.Plain.judge.Goals as goal
use Rattle.mm_model.proofs.plain.Plain.judge.Goals.{After-number-number, After-get, After-first_undone, In_ok-missing}

-- the state of the machine
abbrev now : After-number-number → State
now c = record { spaces = c.self.inside.spaces; tables = c.self.inside.tables; limits = c.self.inside.limits; files = c.self.inside.shelf }

-- the range is right
abbrev right : (c : After-get) → is_page_range c.self.inside.limits.levels c.args.at c.args.len ≡ true
right c = c.in-Some.ensures.some.0 refl

abbrev here : (c : After-first_undone) → map.get c.self.inside.spaces c.args.space ≡ Some c.in-Some-get.cells.now
here c = ap (map.get c.self.inside.spaces) (sym c.number-number.ensures.value) ∙ sym c.get.ensures ∙ ap option_copied c.in-Some-get.is

-- how the operations are judged, in the words of the definitions
abbrev judged_is : (c : After-first_undone) → c.first_undone.result
    ≡ undone (is_right_within c.self.inside.limits.levels c.self.inside.shelf (c.args.at / 4096) (pages_of c.args.len)) 1 c.args.ops.now c.in-Some-get.cells.now
judged_is c = c.first_undone.ensures
    ∙ (λ i. undone (is_right_within c.self.inside.limits.levels c.self.inside.shelf (c.in-Some.ensures.value i).first (c.in-Some.ensures.value i).count) 1 (c.ops-list.ensures.value i) c.in-Some-get.cells.now)

pub returns-in_default-clause-refused : goal.returns-in_default-clause-refused
returns-in_default-clause-refused c thread =
    sym (wrong c.args.self.now c.args.space c.args.at c.args.len c.args.ops.now thread c.args.limbo
    (ap (λ st. is_page_range (levels st) c.args.at c.args.len) (sym c.self.view_is) ∙ no_range (is_page_range c.self.inside.limits.levels c.args.at c.args.len) c.in_default.ensures.some.1))

pub returns-in_default-get-clause-refused : goal.returns-in_default-get-clause-refused
returns-in_default-get-clause-refused c thread =
    let at = goal.at.returns-in_default-get-clause-refused c in
    ap (λ st. refusal st thread (call.Txn c.args.space c.args.at c.args.len c.args.ops.now) c.args.limbo) (sym c.self.view_is)
    ∙ sym (absent (now at.After-number-number) c.args.space c.args.at c.args.len c.args.ops.now thread c.args.limbo (right at.After-get)
    (ap (map.get c.self.inside.spaces) (sym c.number-number.ensures.value) ∙ sym c.get.ensures ∙ ap option_copied c.in_default-get.is))

pub returns-in-Some-first_undone-clause-refused : goal.returns-in-Some-first_undone-clause-refused
returns-in-Some-first_undone-clause-refused c thread =
    let at = goal.at.returns-in-Some-first_undone-clause-refused c in
    ap (λ st. refusal st thread (call.Txn c.args.space c.args.at c.args.len c.args.ops.now) c.args.limbo) (sym c.self.view_is)
    ∙ sym (stopped (now at.After-number-number) c.args.space c.args.at c.args.len c.args.ops.now thread c.args.limbo (right at.After-get) c.in-Some-get.cells.now (here at.After-first_undone)
    c.in-Some-first_undone.place c.in-Some-first_undone.why (sym c.in-Some-first_undone.is ∙ judged_is at.After-first_undone))

pub missing_tables-requires-clause-span : goal.missing_tables-requires-clause-span
missing_tables-requires-clause-span c =
    let at = (goal.at.missing_tables-requires-clause-span c).After-first_undone in
    subst (λ os. All IsInSpan os) (sym c.ops-list.ensures.value)
    (all_in_span c.self.inside.limits.levels c.self.inside.shelf c.self.invariant.limits.few_levels (c.args.at / 4096) (pages_of c.args.len) c.args.ops.now c.in-Some-get.cells.now (sym (judged_is at) ∙ c.in_default-first_undone.is))

-- the tables that it lacks, as a list
lists : (c : In_ok-missing) → Lists (missing (flat_map (cut_by_op c.args.self.now c.args.space) c.args.ops.now) c.args.self.now.tables) c.in_ok-missing.missing.items
lists c =
    let st : State = record { spaces = c.self.inside.spaces; tables = c.self.inside.tables; limits = c.self.inside.limits; files = c.self.inside.shelf } in
    let P : ℕ × List TxnOp → Type 0 = λ x. Lists (missing (flat_map (cut_by_op st x.0) x.1) st.tables) c.in_ok-missing.missing.items in
    subst (λ (st : State). Lists (missing (flat_map (cut_by_op st c.args.space) c.args.ops.now) st.tables) c.in_ok-missing.missing.items) c.self.view_is
    (subst P (λ i. (c.number-number.ensures.value i, c.ops-list.ensures.value i)) c.in_ok-missing.ensures)

abbrev wanted : In_ok-missing → List Place
wanted c = flat_map (cut_by_op c.args.self.now c.args.space) c.args.ops.now

pub returns-clause-passes : goal.returns-clause-passes
returns-clause-passes c =
    let at = goal.at.returns-clause-passes c in
    if_ok c.affordable.result (λ _ e thread.
    sym (subst (λ st. tables_lack st (flat_map (cut_by_op st c.args.space) c.args.ops.now) c.args.limbo ≡ refusal st thread (call.Txn c.args.space c.args.at c.args.len c.args.ops.now) c.args.limbo) c.self.view_is
    (by_tables (now at.After-number-number) c.args.space c.args.at c.args.len c.args.ops.now thread c.args.limbo (right at.After-get) c.in-Some-get.cells.now (here at.After-first_undone)
    (sym c.in_default-first_undone.is ∙ judged_is at.After-first_undone)))
    ∙ sym (lack_listed c.args.self.now (wanted at.In_ok-missing) c.in_ok-missing.missing.items c.args.limbo (lists at.In_ok-missing)) ∙ e) c.affordable.ensures.enough

pub returns-clause-refused : goal.returns-clause-refused
returns-clause-refused c =
    let at = goal.at.returns-clause-refused c in
    if_refused c.affordable.result (λ _ e thread.
    sym (subst (λ st. tables_lack st (flat_map (cut_by_op st c.args.space) c.args.ops.now) c.args.limbo ≡ refusal st thread (call.Txn c.args.space c.args.at c.args.len c.args.ops.now) c.args.limbo) c.self.view_is
    (by_tables (now at.After-number-number) c.args.space c.args.at c.args.len c.args.ops.now thread c.args.limbo (right at.After-get) c.in-Some-get.cells.now (here at.After-first_undone)
    (sym c.in_default-first_undone.is ∙ judged_is at.After-first_undone)))
    ∙ sym (lack_listed c.args.self.now (wanted at.In_ok-missing) c.in_ok-missing.missing.items c.args.limbo (lists at.In_ok-missing)) ∙ e) c.affordable.ensures.refused
