use Rattle.std.proofs.Common.{sym, subst}
use Rattle.machine_plan.specs.HeldRows.{IsAsked}
use Rattle.held_needs.specs.Cutting.{IsLowest, last_of}
use Rattle.held_needs.proofs.Lowest.{end_of}
use Rattle.held_needs.proofs.missing.lacked_beside.Goals as goal

pub returns-clause-lacks : goal.returns-clause-lacks
returns-clause-lacks c = λ space st is near far.
    let r = c.args.pages in
    c.count_range.ensures.adds space st.tables
    (end_of c.args.levels space r r.first st.tables c.lowest_near-low.result (c.lowest_near-low.ensures c.args.levels space st is near))
    (end_of c.args.levels space r (last_of r) st.tables c.lowest_near-high.result
    (subst (λ page. IsLowest c.args.levels space page st.tables c.lowest_near-high.result) c.last_of.ensures.last
    (c.lowest_near-high.ensures c.args.levels space st is (subst (IsAsked space c.args.held.now.rows) (sym c.last_of.ensures.last) far))))
