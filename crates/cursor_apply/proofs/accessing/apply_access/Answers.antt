use Rattle.row_table.specs.Passes.{view_of}
use Rattle.cursor_apply.proofs.Kept.{rows_emptied, applied_after}
use Rattle.cursor_apply.proofs.LinkedAfter.{access_moves, linked_after}
use Rattle.cursor_apply.proofs.accessing.apply_access.Goals as goal

pub apply_move-requires-clause-ready : goal.apply_move-requires-clause-ready
apply_move-requires-clause-ready g c κs within =
    let m = c.requires.ready in
    let move = access_moves c.args.space m.3 m.6 in
    let staged = c.link_access.ensures.links m.0 m.1 m.2 m.3 m.4 m.5 m.6 in (
      m.0,
      m.1,
      m.2,
      m.3,
      linked_after m.0 m.1 m.2 m.3 (view_of c.args.pass.now) (view_of c.link_access.new.pass) c.args.held.now.rows c.link_access.new.held.rows c.args.kit.now m.4 c.requires.done move c.args.space m.6.of_space staged,
      move,
      m.7,
    )

pub returns-clause-applies : goal.returns-clause-applies
returns-clause-applies g c = λ a b thread call ready further is same.
    let move = access_moves c.args.space call is in
    let v = view_of c.args.pass.now in
    let u = view_of c.link_access.new.pass in
    let staged = c.link_access.ensures.links a b thread call ready further is in
    applied_after b thread call v u (view_of c.apply_move.new.pass) c.apply_move.new.held.rows c.args.kit.now c.apply_move.new.kit (rows_emptied v u staged.view) (c.apply_move.ensures.applies a b thread call
    (linked_after a b thread call v u c.args.held.now.rows c.link_access.new.held.rows c.args.kit.now ready c.requires.done move c.args.space is.of_space staged) move same)
