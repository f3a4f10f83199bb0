use Rattle.std.specs.Prelude.{List}
use Rattle.std.proofs.Common.{sym, subst}
use Rattle.row_table.specs.Passes.{view_of}
use Rattle.machine_plan.specs.declared.kit.Change.{Change}
use Rattle.cursor_apply.specs.Changed.{MayMakeAll, MakesAll, AgreesAfter}
use Rattle.range_apply.proofs.RangeApplied.{may_make_all, range_applied}
use Rattle.range_apply.proofs.ranging.apply_range.Goals as goal

pub make_changes-requires-clause-ready : goal.make_changes-requires-clause-ready
make_changes-requires-clause-ready g c κs within =
    let r = c.requires.ready in
    subst (λ (l : List Change). MayMakeAll l (view_of c.args.pass.now) c.args.held.now.rows) (sym c.as_slice.ensures.value)
    (may_make_all r.0 r.1 r.2 r.3 (view_of c.args.pass.now) c.args.held.now.rows c.args.kit.now r.4)

pub returns-clause-applies : goal.returns-clause-applies
returns-clause-applies g c = λ a b thread call is.
    let v = view_of c.args.pass.now in
    let w = view_of c.make_changes.new.pass in
    range_applied a b thread call v c.args.held.now.rows c.args.kit.now is w c.make_changes.new.held.rows c.settle.new.kit
    (subst (λ (l : List Change). MakesAll l v c.args.held.now.rows w c.make_changes.new.held.rows) c.as_slice.ensures.value c.make_changes.ensures.changes)
    (subst (λ (l : List Change). AgreesAfter l v c.args.held.now.rows w c.make_changes.new.held.rows) c.as_slice.ensures.value c.make_changes.ensures.agree)
    (c.settle.ensures.places is.room) c.settle.ensures.idle c.settle.ensures.ungranted c.settle.ensures.seconds
