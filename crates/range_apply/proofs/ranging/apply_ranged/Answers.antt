use Rattle.row_table.specs.Passes.{view_of}
use Rattle.cursor_apply.proofs.Kept.{applied_after}
use Rattle.range_apply.proofs.ranging.apply_ranged.Goals as goal

pub apply_range-requires-clause-ready : goal.apply_range-requires-clause-ready
apply_range-requires-clause-ready g c κs within =
    let m = c.requires.ready in
    (m.0, m.1, m.2, m.3, (c.link_range.ensures.links m.0 m.1 m.2 m.3 m.4 m.5 m.6).1)

pub returns-clause-applies : goal.returns-clause-applies
returns-clause-applies g c = λ a b thread call ready further is.
    let linked = c.link_range.ensures.links a b thread call ready further is in
    let applied = c.apply_range.ensures.applies a b thread call linked.1 in
    applied_after b thread call (view_of c.args.pass.now) (view_of c.link_range.new.pass) (view_of c.apply_range.new.pass) c.apply_range.new.held.rows c.args.kit.now c.apply_range.new.kit linked.0 applied
