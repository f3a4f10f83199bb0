use Rattle.std.proofs.Common.{◌≡◌, ◌∙◌, ◌≤◌, [], sym, ap, subst}
use Rattle.page_map.specs.Tables.{need}
use Rattle.page_map.specs.Alike.{unlike_tables}
use Rattle.page_map.specs.Mapping.{op_first, after_op}
use Rattle.page_map.specs.State.{levels, space_at}
use Rattle.plain_counts.specs.declared.cut.Pages.{Pages}
use Rattle.machine_plan.specs.HeldRows.{IsAsked}
use Rattle.held_needs.specs.Cutting.{last_of, Adds}
use Rattle.held_needs.specs.Operation.{range_of, OpEnd}
use Rattle.held_needs.proofs.Edges.{lacks_so}
use Rattle.held_needs.proofs.operation.lacked_by_operation.Goals as goal

pub returns-clause-lacks : goal.returns-clause-lacks
returns-clause-lacks c = λ space st is right near far.
    let o = c.args.op.now in
    let here = c.in-Some.ensures.some.0 in
    let some = c.in-Some.ensures.some.1.some in
    let first : c.in-Some.pages.first ≡ op_first o = ap (λ (r : Pages). r.first) here in
    let last = c.last_of.ensures.last ∙ ap last_of here in
    ap (λ n. need (unlike_tables n space (after_op o (space_at st space))) st.tables) (sym is.same_levels)
    ∙ lacks_so st space is.consistent o (subst (λ (r : Pages). 1 ≤ r.count) here some) c.end_at-near.result c.end_at-far.result c.count_range.result
    (subst (λ p. OpEnd (levels st) st space o p c.end_at-near.result) first (subst (λ n. OpEnd n st space o c.in-Some.pages.first c.end_at-near.result) (sym is.same_levels)
    (c.end_at-near.ensures c.args.levels space st is (subst (IsAsked space c.args.held.now.rows) (sym first) near))))
    (subst (λ p. OpEnd (levels st) st space o p c.end_at-far.result) last (subst (λ n. OpEnd n st space o c.last_of.result c.end_at-far.result) (sym is.same_levels)
    (c.end_at-far.ensures c.args.levels space st is (subst (IsAsked space c.args.held.now.rows) (sym last) far))))
    (subst (λ n. Adds n [] (range_of o) c.end_at-near.result c.end_at-far.result c.count_range.result) (sym is.same_levels)
    (subst (λ r. Adds c.args.levels [] r c.end_at-near.result c.end_at-far.result c.count_range.result) here c.count_range.ensures.adds))
