use Rattle.std.proofs.Common.{◌≡◌, ◌+◌, ◌^◌, ◌<◌, Some, None, refl, sym, ap, subst, MutBor, ◌∙◌}
use Rattle.std.specs.Prelude.{Option, IsSome, Result, Ok, Err, OnErr}
use Rattle.std.specs.List.{All, flat_map}
use Rattle.std.specs.Option.{option_copied_mut}
use Rattle.std.specs.FinMap as map
use Rattle.page_map.specs.Effect.{cut_by_op}
use Rattle.page_map.specs.Mapping.{op_pages, after_ops}
use Rattle.page_map.specs.State.{State}
use Rattle.page_map.specs.Tables.{missing}
use Rattle.plain_counts.specs.Levels.{Lists}
use Rattle.mm_model.proofs.Lacks.{apart}
use Rattle.plain_spaces.proofs.Moves.{put_back}
use Rattle.plain_spaces.proofs.Variants.{some_borrow}
use Rattle.txn_plan.specs.Changes.{first_index}
use Rattle.txn_plan.specs.Forgetting.{Forgets}
use Rattle.txn_plan.specs.Needs.{IsInSpan}
use Rattle.plain_counts.specs.declared.counts.Counts.{Counts}
use Rattle.mm_model.specs.Plain.{IsSound}
use Rattle.mm_model.specs.Transactions.{MayCommit, after_commit}
use Rattle.mm_model.proofs.Kept.{counted_here}
use Rattle.mm_model.proofs.TxnSteps.{may_present, may_span, may_fit, next_is, commit_stays_sound}
use Rattle.mm_model.proofs.plain.Plain.commit.Goals as goal
use Rattle.mm_model.proofs.plain.Plain.commit.Goals.{After-get_mut, After-unwrap-cells, After-commit}

-- the state that the machine had, and the cells of the space
abbrev before : After-get_mut → State
before c = record { spaces = c.self.inside.spaces; tables = c.self.inside.tables; limits = c.self.inside.limits; files = c.self.inside.shelf }

abbrev may : (c : After-get_mut) → MayCommit (before c) c.args.space c.args.ops.now
may c = subst (λ st. MayCommit st c.args.space c.args.ops.now) (sym c.self.view_is) c.requires.may

-- the tables that it lacks
lists : (c : After-get_mut) → Lists (missing (flat_map (cut_by_op (before c) c.args.space) c.args.ops.now) (before c).tables) c.args.missing.now
lists c = subst (λ (st : State). Lists (missing (flat_map (cut_by_op st c.args.space) c.args.ops.now) st.tables) c.args.missing.now) (sym c.self.view_is) c.requires.missing

pub commit-requires-clause-missing : goal.commit-requires-clause-missing
commit-requires-clause-missing c =
    let at = (goal.at.commit-requires-clause-missing c).After-get_mut in
    apart c.self.inside.tables (flat_map (cut_by_op (before at) c.args.space) c.args.ops.now) c.args.missing.now (lists at)

there : {A : Type 0} (r : Option (MutBor A)) → IsSome (option_copied_mut r) → IsSome r
there None h = h
there (Some x) h = refl

abbrev here : (c : After-unwrap-cells) → map.get c.self.inside.spaces c.args.space ≡ Some c.unwrap-cells.result.now
here c = ap (map.get c.self.inside.spaces) (sym c.number-number.ensures.value) ∙ sym c.get_mut.ensures.value ∙ ap option_copied_mut c.unwrap-cells.ensures

pub unwrap-cells-requires : goal.unwrap-cells-requires
unwrap-cells-requires c =
    let at = (goal.at.unwrap-cells-requires c).After-get_mut in
    there c.get_mut.result
    (subst (λ o. IsSome o) (ap (map.get c.self.inside.spaces) (sym c.number-number.ensures.value) ∙ sym c.get_mut.ensures.value) (may_present (before at) c.args.space c.args.ops.now (may at)))

pub commit-requires-clause-span : goal.commit-requires-clause-span
commit-requires-clause-span c =
    let at = (goal.at.commit-requires-clause-span c).After-get_mut in
    subst (λ os. All IsInSpan os) (sym c.ops-list.ensures.value) (may_span (before at) c.args.space c.args.ops.now (may at) c.self.invariant.state.few_levels)

pub commit-requires-clause-index : goal.commit-requires-clause-index
commit-requires-clause-index c =
    let at = (goal.at.commit-requires-clause-index c).After-get_mut in
    subst (λ os. All (λ o. first_index o + op_pages o < 2 ^ 64) os) (sym c.ops-list.ensures.value) (may_fit (before at) c.args.space c.args.ops.now (may at) c.self.invariant.state.few_levels)

pub commit-requires-clause-counted : goal.commit-requires-clause-counted
commit-requires-clause-counted c =
    let at = goal.at.commit-requires-clause-counted c in
    counted_here (before at.After-get_mut) _ _ c.self.invariant c.args.space c.unwrap-cells.result.now (here at.After-unwrap-cells)

-- the spaces afterwards
abbrev lent : (c : After-commit) → c.get_mut.follows.lender c.commit.new.cells ≡ map.insert c.self.inside.spaces c.args.space c.commit.new.cells
lent c = some_borrow c.get_mut.result c.unwrap-cells.result c.unwrap-cells.ensures (c.get_mut.follows.holds c.commit.new.cells) ∙ ap (λ n. map.insert c.self.inside.spaces n c.commit.new.cells) c.number-number.ensures.value

pub invariant_of-self : goal.invariant_of-self
invariant_of-self c =
    let at = goal.at.invariant_of-self c in
    let st = before at.After-get_mut in
    let kept = c.in_err-commit.ensures.kept in
    let same = lent at.After-commit ∙ ap (map.insert c.self.inside.spaces c.args.space) kept.same_cells ∙ put_back c.self.inside.spaces c.args.space c.unwrap-cells.result.now (here at.After-unwrap-cells) in
    let P : State × Counts → Type 0 = λ x. IsSound x.0 x.1 c.self.inside.fronts in
    subst P (λ i. (record st { spaces = sym same i; tables = sym c.in_err-commit.ensures.tables_stay i }, sym kept.same_counts i)) c.self.invariant

on_err : {A E P : Type 0} (r : Result A E) → P → OnErr r P
on_err (Ok x) p = tt
on_err (Err e) p = p

pub returns-in_err-commit-clause-err : goal.returns-in_err-commit-clause-err
returns-in_err-commit-clause-err c =
    let at = goal.at.returns-in_err-commit-clause-err c in
    let st = before at.After-get_mut in
    let same = lent at.After-commit ∙ ap (map.insert c.self.inside.spaces c.args.space) c.in_err-commit.ensures.kept.same_cells ∙ put_back c.self.inside.spaces c.args.space c.unwrap-cells.result.now (here at.After-unwrap-cells) in
    on_err c.from_residual.result ((λ i. record st { spaces = same i; tables = c.in_err-commit.ensures.tables_stay i }) ∙ c.self.view_is)

pub invariant_of-self-2 : goal.invariant_of-self-2
invariant_of-self-2 c =
    let at = goal.at.invariant_of-self-2 c in
    let st = before at.After-get_mut in
    let list = c.ops-list.ensures.value in
    let forgets : Forgets c.args.ops.now c.args.space c.self.inside.fronts c.forget_unmapped.new.fronts =
    subst (λ n. Forgets c.args.ops.now n c.self.inside.fronts c.forget_unmapped.new.fronts) c.number-number.ensures.value
    (subst (λ os. Forgets os c.number-number.result c.self.inside.fronts c.forget_unmapped.new.fronts) list c.forget_unmapped.ensures) in
    subst (λ spaces. IsSound (record st { spaces = spaces; tables = c.commit.new.tables }) c.commit.new.counts c.forget_unmapped.new.fronts) (sym (lent at.After-commit))
    (commit_stays_sound st c.args.space c.args.ops.now (may at.After-get_mut) c.unwrap-cells.result.now c.commit.new.cells c.commit.new.tables (here at.After-unwrap-cells)
    (c.in_ok-commit.ensures.cells ∙ ap (λ os. after_ops os c.unwrap-cells.result.now) list)
    (c.in_ok-commit.ensures.tables (flat_map (cut_by_op st c.args.space) c.args.ops.now) (lists at.After-get_mut))
    c.self.inside.counts c.commit.new.counts c.self.inside.fronts c.forget_unmapped.new.fronts c.self.invariant c.in_ok-commit.ensures.counts forgets)

pub returns-clause-ok : goal.returns-clause-ok
returns-clause-ok c =
    let at = goal.at.returns-clause-ok c in
    let st = before at.After-get_mut in
    let list = c.ops-list.ensures.value in
    (λ i. record st { spaces = lent at.After-commit i; tables = c.commit.new.tables })
    ∙ next_is st c.args.space c.args.ops.now (may at.After-get_mut) c.unwrap-cells.result.now c.commit.new.cells c.commit.new.tables (here at.After-unwrap-cells)
    (c.in_ok-commit.ensures.cells ∙ ap (λ os. after_ops os c.unwrap-cells.result.now) list)
    (c.in_ok-commit.ensures.tables (flat_map (cut_by_op st c.args.space) c.args.ops.now) (lists at.After-get_mut))
    ∙ ap (λ st. after_commit st c.args.space c.args.ops.now) c.self.view_is
