use Rattle.std.specs.Prelude.{Option}
use Rattle.std.proofs.Common.{sym, subst}
use Rattle.row_table.specs.Passes.{view_of}
use Rattle.cursor_apply.specs.declared.becoming.RangeChange.{RangeChange}
use Rattle.cursor_apply.specs.Changed.{clean_by, StepsBy, AreChanged}
use Rattle.move_apply.proofs.resizing.clear_left.Goals as goal

pub change_rows-requires-clause-ready : goal.change_rows-requires-clause-ready
change_rows-requires-clause-ready g c κs within =
    let r = c.requires.ready in
    (r.0, r.1, r.2, r.3, r.4, record { is_change = subst (λ (o : Option RangeChange). StepsBy o r.3 r.1 r.2) (sym c.in-Some.ensures) r.6; base = r.5 })

pub returns-in-Some-clause-changes : goal.returns-in-Some-clause-changes
returns-in-Some-clause-changes g c = λ b st now space is_old base by.
    subst (λ (o : Option RangeChange). AreChanged b now (clean_by o is_old) (view_of c.args.pass.now) c.args.held.now.rows (view_of c.change_rows.new.pass) c.change_rows.new.held.rows) c.in-Some.ensures
    (c.change_rows.ensures.changes b st now space is_old (record { is_change = subst (λ (o : Option RangeChange). StepsBy o space st now) (sym c.in-Some.ensures) by; base = base }))
