use Rattle.std.proofs.Common.{sym, subst}
use Rattle.row_table.specs.Passes.{view_of}
use Rattle.cursor_apply.specs.Linking.{IsLinking}
use Rattle.range_apply.proofs.ranging.link_ends.Goals as goal

pub link_end-next-requires-clause-ready : goal.link_end-next-requires-clause-ready
link_end-next-requires-clause-ready g c κs within =
    let m = c.requires.ready in
    (m.0, m.1, m.2, m.3, view_of c.args.pass.now, c.args.held.now.rows, m.4, m.5, m.6.0)

pub link_end-requires-clause-ready : goal.link_end-requires-clause-ready
link_end-requires-clause-ready g c κs within =
    let m = c.requires.ready in
    let v = view_of c.args.pass.now in
    let rows = c.args.held.now.rows in (
      m.0,
      m.1,
      m.2,
      m.3,
      v,
      rows,
      subst (λ n. IsLinking c.args.levels n m.0 m.1 m.2 m.3 c.args.kit.now v rows) (sym c.link_end-next.ensures.room) m.4,
      (c.link_end-next.ensures.links m.0 m.1 m.2 m.3 v rows m.4 m.5 m.6.0).0,
      m.6.1,
    )

pub returns-clause-links : goal.returns-clause-links
returns-clause-links g c = λ a b thread call ready so may.
    let v = view_of c.args.pass.now in
    let rows = c.args.held.now.rows in
    let one = c.link_end-next.ensures.links a b thread call v rows ready so may.0 in
    let two = c.link_end.ensures.links a b thread call v rows (subst (λ n. IsLinking c.args.levels n a b thread call c.args.kit.now v rows) (sym c.link_end-next.ensures.room) ready) one.0 may.1 in
    (c.link_end.result, two.0, (λ k deep high broken was now. c.link_end.ensures.kept _ (one.1 k deep high broken was now)), two.1)
