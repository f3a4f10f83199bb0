use Rattle.row_table.specs.Passes.{view_of}
use Rattle.cursor_apply.proofs.Undone.{is_undone, is_returnable, is_applied}
use Rattle.cursor_apply.proofs.settling.undo.Goals as goal

pub returns-clause-applies : goal.returns-clause-applies
returns-clause-applies g c = λ a b thread call ready.
    let v = view_of c.args._pass.now in
    let u = is_undone a b thread call v c.args.held.now.rows c.args.kit.now c.requires.refused ready in
    let s = is_returnable a b thread call v c.args.held.now.rows c.args.kit.now ready u in
    is_applied a b thread call v c.args.held.now.rows c.args.kit.now ready u c.put_back.new.held.rows c.settle.new.kit c.requires.refused (c.put_back.ensures.back b s.0 v.rows s.1) c.put_back.ensures.rows
    (c.settle.ensures.places (c.put_back.ensures.places ready.room)) c.settle.ensures.idle c.settle.ensures.ungranted c.settle.ensures.seconds
