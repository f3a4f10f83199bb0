use Rattle.std.specs.Prelude.{Option}
use Rattle.std.proofs.Common.{sym, subst}
use Rattle.row_table.specs.Passes.{view_of}
use Rattle.cursor_apply.specs.declared.becoming.RangeChange.{RangeChange}
use Rattle.cursor_apply.specs.Changed.{clean_by, StepsBy, AreChanged}
use Rattle.move_apply.proofs.PiecesMade.{piece_is}
use Rattle.move_apply.proofs.pieces.map_piece.Goals as goal

pub change_rows-requires-clause-ready : goal.change_rows-requires-clause-ready
change_rows-requires-clause-ready g c κs within =
    let r = c.requires.ready in
    (r.0, r.1, r.2, r.3, r.4, record { is_change = subst (λ (o : Option RangeChange). StepsBy o r.3 r.1 r.2) (piece_is c.args.to c.args.piece) r.6; base = r.5 })

pub returns-clause-changes : goal.returns-clause-changes
returns-clause-changes g c = λ b st now space is_old base by.
    subst (λ (o : Option RangeChange). AreChanged b now (clean_by o is_old) (view_of c.args.pass.now) c.args.held.now.rows (view_of c.change_rows.new.pass) c.change_rows.new.held.rows) (sym (piece_is c.args.to c.args.piece))
    (c.change_rows.ensures.changes b st now space is_old (record { is_change = subst (λ (o : Option RangeChange). StepsBy o space st now) (piece_is c.args.to c.args.piece) by; base = base }))
