use Rattle.std.proofs.Common.{sym, arith}
use Rattle.std.proofs.lemmas.Bool.{eqb-true}
use Rattle.row_table.specs.Passes.{view_of}
use Rattle.range_apply.proofs.RangeLinked.{no_items, none_linked}
use Rattle.range_apply.proofs.ranging.link_range.Goals as goal

pub returns-then-is_empty-clause-links : goal.returns-then-is_empty-clause-links
returns-then-is_empty-clause-links g c = λ a b thread call ready further is.
    let long = c.args.kit.now.rows.ok.0 in
    let none = eqb-true _ _ (sym c.if-is_empty.ensures) in
    none_linked a b thread call (view_of c.args.pass.now) c.args.held.now.rows c.args.kit.now c.args.space ready c.requires.done further is (no_items c.args.kit.now.rows.items (omega (arith, long, none)))
