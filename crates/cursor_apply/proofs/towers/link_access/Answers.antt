use Rattle.row_table.specs.Passes.{view_of}
use Rattle.cursor_apply.proofs.AboveAccess.{access_above}
use Rattle.cursor_apply.proofs.towers.link_access.Goals as goal

pub link_rows-requires-clause-ready : goal.link_rows-requires-clause-ready
link_rows-requires-clause-ready g c κs within =
    let m = c.requires.ready in
    (m.0, m.1, m.2, m.3, m.4, m.5, access_above m.0 m.1 m.2 m.3 (view_of c.args.pass.now) c.args.held.now.rows c.args.kit.now c.args.space m.4 c.requires.done m.5 m.6)

pub returns-clause-links : goal.returns-clause-links
returns-clause-links g c = λ a b thread call ready further is.
    c.link_rows.ensures.links a b thread call ready further (access_above a b thread call (view_of c.args.pass.now) c.args.held.now.rows c.args.kit.now c.args.space ready c.requires.done further is)
