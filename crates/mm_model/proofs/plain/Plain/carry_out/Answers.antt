use Rattle.std.proofs.Common.{◌≡◌, ◌+◌, ◌<◌, ◌^◌, [], ◌∷◌, Some, sym, ap, subst, ◌∙◌, arith}
use Rattle.std.specs.List.{All}
use Rattle.std.specs.Option.{option_copied_mut, unwrap_or}
use Rattle.std.proofs.lemmas.List.Elements.{All-cons}
use Rattle.corten_base.specs.declared.calls.TxnOp.{TxnOp}
use Rattle.page_map.specs.Mapping.{after_op, op_pages}
use Rattle.std.specs.FinMap as map
use Rattle.page_map.specs.State.{State}
use Rattle.plain_counts.specs.declared.counts.Counts.{Counts}
use Rattle.plain_spaces.proofs.Moves.{put_back}
use Rattle.plain_spaces.proofs.Variants.{on_err, some_borrow}
use Rattle.txn_plan.specs.Changes.{first_index}
use Rattle.txn_plan.specs.Needs.{IsInSpan}
use Rattle.txn_plan.proofs.Rights.{in_span, index_fits}
use Rattle.mm_model.specs.Operations.{MayOperate, after_operation, wanted_by}
use Rattle.mm_model.specs.Plain.{IsSound}
use Rattle.mm_model.proofs.Kept.{counted_here}
use Rattle.mm_model.proofs.Lacks.{apart}
use Rattle.mm_model.proofs.Needs.{tables_operated}
use Rattle.mm_model.proofs.OpCalls.{operated_sound}
use Rattle.mm_model.proofs.plain.Plain.carry_out.Goals as goal
use Rattle.mm_model.proofs.plain.Plain.carry_out.Goals.{After-unwrap-cells, After-commit}

-- the state that the machine had, and the cells of the space
abbrev before : After-unwrap-cells → State
before c = record { spaces = c.self.inside.spaces; tables = c.self.inside.tables; limits = c.self.inside.limits; files = c.self.inside.shelf }

abbrev may : (c : After-unwrap-cells) → MayOperate (before c) c.args.space c.args.op.now c.args.missing.now
may c = subst (λ st. MayOperate st c.args.space c.args.op.now c.args.missing.now) (sym c.self.view_is) c.requires.may

abbrev here : (c : After-unwrap-cells) → map.get c.self.inside.spaces c.args.space ≡ Some c.unwrap-cells.result.now
here c = sym c.get_mut.ensures.value ∙ ap option_copied_mut c.unwrap-cells.ensures

one : (P : TxnOp → Type 0) (o : TxnOp) → P o → All P (o ∷ [])
one P o h = All-cons P o [] h (λ k d low. absurd (omega arith))

pub commit-requires-clause-span : goal.commit-requires-clause-span
commit-requires-clause-span c =
    let at = (goal.at.commit-requires-clause-span c).After-unwrap-cells in
    one (λ o. IsInSpan o) c.args.op.now (in_span c.self.inside.limits.levels c.self.inside.shelf c.args.op.now c.self.invariant.state.few_levels (may at).fits.right)

pub commit-requires-clause-index : goal.commit-requires-clause-index
commit-requires-clause-index c =
    let at = (goal.at.commit-requires-clause-index c).After-unwrap-cells in
    one (λ o. first_index o + op_pages o < 2 ^ 64) c.args.op.now (index_fits c.self.inside.limits.levels c.self.inside.shelf c.args.op.now c.self.invariant.state.few_levels (may at).fits.right)

pub commit-requires-clause-missing : goal.commit-requires-clause-missing
commit-requires-clause-missing c =
    let at = (goal.at.commit-requires-clause-missing c).After-unwrap-cells in
    apart c.self.inside.tables (wanted_by (before at) c.args.space c.args.op.now) c.args.missing.now (may at).lists

pub commit-requires-clause-counted : goal.commit-requires-clause-counted
commit-requires-clause-counted c =
    let at = (goal.at.commit-requires-clause-counted c).After-unwrap-cells in
    counted_here (before at) _ _ c.self.invariant c.args.space c.unwrap-cells.result.now (here at)

-- the spaces afterwards
abbrev lent : (c : After-commit) → c.get_mut.follows.lender c.commit.new.cells ≡ map.insert c.self.inside.spaces c.args.space c.commit.new.cells
lent c = some_borrow c.get_mut.result c.unwrap-cells.result c.unwrap-cells.ensures (c.get_mut.follows.holds c.commit.new.cells)

-- where memory is wanted
pub invariant_of-self : goal.invariant_of-self
invariant_of-self c =
    let at = goal.at.invariant_of-self c in
    let st = before at.After-unwrap-cells in
    let kept = c.in_err-commit.ensures.kept in
    let same = lent at.After-commit ∙ ap (map.insert c.self.inside.spaces c.args.space) kept.same_cells ∙ put_back c.self.inside.spaces c.args.space c.unwrap-cells.result.now (here at.After-unwrap-cells) in
    let P : State × Counts → Type 0 = λ x. IsSound x.0 x.1 c.self.inside.fronts in
    subst P (λ i. (record st { spaces = sym same i; tables = sym c.in_err-commit.ensures.tables_stay i }, sym kept.same_counts i)) c.self.invariant

pub returns-in_err-commit-clause-err : goal.returns-in_err-commit-clause-err
returns-in_err-commit-clause-err c =
    let at = goal.at.returns-in_err-commit-clause-err c in
    let st = before at.After-unwrap-cells in
    let same = lent at.After-commit ∙ ap (map.insert c.self.inside.spaces c.args.space) c.in_err-commit.ensures.kept.same_cells ∙ put_back c.self.inside.spaces c.args.space c.unwrap-cells.result.now (here at.After-unwrap-cells) in
    on_err c.from_residual.result ((λ i. record st { spaces = same i; tables = c.in_err-commit.ensures.tables_stay i }) ∙ c.self.view_is)

pub invariant_of-self-2 : goal.invariant_of-self-2
invariant_of-self-2 c =
    let at = goal.at.invariant_of-self-2 c in
    let st = before at.After-unwrap-cells in
    subst (λ spaces. IsSound (record st { spaces = spaces; tables = c.give_up.new.tables }) c.commit.new.counts c.forget_unmapped.new.fronts) (sym (lent at.After-commit))
    (operated_sound st c.args.space c.args.op.now (may at.After-unwrap-cells).fits (may at.After-unwrap-cells).enough c.unwrap-cells.result.now c.commit.new.cells c.give_up.new.tables c.self.inside.counts c.commit.new.counts
    c.self.inside.fronts c.forget_unmapped.new.fronts c.self.invariant (here at.After-unwrap-cells) c.in_ok-commit.ensures.cells
    (c.give_up.ensures ∙ tables_operated st c.args.space c.args.op.now c.commit.new.tables (c.in_ok-commit.ensures.tables (wanted_by st c.args.space c.args.op.now) (may at.After-unwrap-cells).lists))
    c.in_ok-commit.ensures.counts c.forget_unmapped.ensures)

pub returns-clause-ok : goal.returns-clause-ok
returns-clause-ok c =
    let at = goal.at.returns-clause-ok c in
    let st = before at.After-unwrap-cells in
    let cells = c.in_ok-commit.ensures.cells ∙ ap (λ o. after_op c.args.op.now (unwrap_or o map.empty)) (sym (here at.After-unwrap-cells)) in
    let tables = c.give_up.ensures ∙ tables_operated st c.args.space c.args.op.now c.commit.new.tables (c.in_ok-commit.ensures.tables (wanted_by st c.args.space c.args.op.now) (may at.After-unwrap-cells).lists) in
    (λ i. record st { spaces = (lent at.After-commit ∙ ap (map.insert c.self.inside.spaces c.args.space) cells) i; tables = tables i })
    ∙ ap (λ st. after_operation st c.args.space c.args.op.now) c.self.view_is
