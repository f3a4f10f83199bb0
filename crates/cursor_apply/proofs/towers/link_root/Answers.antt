use Rattle.std.proofs.Common.{sym, ap, subst, ◌∙◌}
use Rattle.row_layout.specs.declared.places.Layout.{Layout}
use Rattle.row_table.specs.Passes.{view_of}
use Rattle.row_table.proofs.OfTable.{knows_layout}
use Rattle.table_place.specs.Place.{root}
use Rattle.machine_plan.specs.Held.{ListHolds}
use Rattle.cursor_apply.specs.Linking.{IsNext}
use Rattle.cursor_apply.proofs.NewSpace.{root_next, root_there}
use Rattle.cursor_apply.proofs.StagedStart.{is_linking, started, ended}
use Rattle.cursor_apply.proofs.towers.link_root.Goals as goal

pub link_next-requires-clause-ready : goal.link_next-requires-clause-ready
link_next-requires-clause-ready g c κs within =
    let m = c.requires.ready in
    let v = view_of c.args.pass.now in
    let rows = c.args.held.now.rows in
    let levels_are = sym c.table_levels-levels.ensures.levels ∙ ap (λ (y : Layout). y.levels) (sym (knows_layout c.args.iron.now c.args.pass.now c.requires.table)) in
    let is = is_linking m.0 m.1 m.2 m.3 v rows c.args.kit.now m.4 c.requires.done m.5 c.table_levels-levels.result c.args.held.now.room levels_are c.requires.room in (
      m.0,
      m.1,
      m.2,
      m.3,
      v,
      rows,
      is,
      subst (λ n. IsNext m.0 m.1 m.2 m.3 c.args.kit.now 0 v rows v rows (root n c.args.space)) (sym is.count_is)
          (root_next m.0 m.1 m.2 m.3 v rows c.args.kit.now m.4 c.requires.done c.args.space m.6 (started m.0 m.1 m.2 m.3 v rows c.args.kit.now m.4 c.requires.done m.5)),
    )

pub returns-clause-links : goal.returns-clause-links
returns-clause-links g c = λ a b thread call ready further makes.
    let v = view_of c.args.pass.now in
    let rows = c.args.held.now.rows in
    let levels_are = sym c.table_levels-levels.ensures.levels ∙ ap (λ (y : Layout). y.levels) (sym (knows_layout c.args.iron.now c.args.pass.now c.requires.table)) in
    let is = is_linking a b thread call v rows c.args.kit.now ready c.requires.done further c.table_levels-levels.result c.args.held.now.room levels_are c.requires.room in
    let so = c.link_next.ensures.links a b thread call v rows is
    (subst (λ n. IsNext a b thread call c.args.kit.now 0 v rows v rows (root n c.args.space)) (sym is.count_is)
    (root_next a b thread call v rows c.args.kit.now ready c.requires.done c.args.space makes (started a b thread call v rows c.args.kit.now ready c.requires.done further))) in
    ended a b thread call c.args.kit.now 1 v rows (view_of c.link_next.new.pass) c.link_next.new.held.rows so
    (root_there a b thread call v rows c.args.kit.now ready c.requires.done c.args.space makes 1 (view_of c.link_next.new.pass) c.link_next.new.held.rows so
    (subst (λ n. ListHolds c.link_next.new.held.rows (root n c.args.space)) is.count_is c.link_next.ensures.list.there))
