use Rattle.std.proofs.Common.{sym, ap, subst, ◌∙◌}
use Rattle.row_table.specs.Passes.{view_of}
use Rattle.row_layout.specs.declared.places.Layout.{Layout}
use Rattle.row_table.proofs.OfTable.{knows_layout}
use Rattle.table_place.specs.Place.{root}
use Rattle.machine_plan.specs.Books.{state_of}
use Rattle.machine_plan.specs.Held.{ListHolds}
use Rattle.space_apply.specs.Copying.{HasCopies}
use Rattle.cursor_apply.specs.Linking.{IsNext}
use Rattle.space_apply.proofs.CopyTables.{root_first, is_copying, all_copied}
use Rattle.cursor_apply.proofs.StagedStart.{is_linking, started, ended}
use Rattle.space_apply.proofs.copying.link_copy.Goals as goal

pub link_next-requires-clause-ready : goal.link_next-requires-clause-ready
link_next-requires-clause-ready g c κs within =
    let m = c.requires.ready in
    let v = view_of c.args.pass.now in
    let rows = c.args.held.now.rows in
    let levels_are = sym c.table_levels-levels.ensures.levels ∙ ap (λ (y : Layout). y.levels) (sym (knows_layout c.args.iron.now c.args.pass.now c.requires.table)) in
    let is = is_linking m.0 m.1 m.2 m.3 v rows c.args.kit.now m.4 c.requires.done m.5 c.table_levels-levels.result c.args.held.now.room levels_are c.requires.room in (
      m.0,
      m.1,
      m.2,
      m.3,
      v,
      rows,
      is,
      subst (λ n. IsNext m.0 m.1 m.2 m.3 c.args.kit.now 0 v rows v rows (root n c.args.new)) (sym is.count_is)
          (root_first m.0 m.1 m.2 m.3 v rows c.args.kit.now m.4 c.requires.done m.5 c.args.space c.args.new m.6 (started m.0 m.1 m.2 m.3 v rows c.args.kit.now m.4 c.requires.done m.5)),
    )

pub link_below-requires-clause-ready : goal.link_below-requires-clause-ready
link_below-requires-clause-ready g c κs within =
    let m = c.requires.ready in
    let v = view_of c.args.pass.now in
    let rows = c.args.held.now.rows in
    let levels_are = sym c.table_levels-levels.ensures.levels ∙ ap (λ (y : Layout). y.levels) (sym (knows_layout c.args.iron.now c.args.pass.now c.requires.table)) in
    let is = is_linking m.0 m.1 m.2 m.3 v rows c.args.kit.now m.4 c.requires.done m.5 c.table_levels-levels.result c.args.held.now.room levels_are c.requires.room in
    let so = c.link_next.ensures.links m.0 m.1 m.2 m.3 v rows is
    (subst (λ n. IsNext m.0 m.1 m.2 m.3 c.args.kit.now 0 v rows v rows (root n c.args.new)) (sym is.count_is)
    (root_first m.0 m.1 m.2 m.3 v rows c.args.kit.now m.4 c.requires.done m.5 c.args.space c.args.new m.6 (started m.0 m.1 m.2 m.3 v rows c.args.kit.now m.4 c.requires.done m.5))) in (
      m.0,
      m.1,
      m.2,
      m.3,
      v,
      rows,
      is_copying m.0 m.1 m.2 m.3 v rows c.args.kit.now m.4 c.requires.done m.5 c.args.space c.args.new m.6 c.table_levels-levels.result c.args.held.now.room c.link_next.new.held.room is c.link_next.ensures.room
          1 (view_of c.link_next.new.pass) c.link_next.new.held.rows so,
    )

pub returns-clause-links : goal.returns-clause-links
returns-clause-links g c = λ a b thread call ready further copies.
    let v = view_of c.args.pass.now in
    let rows = c.args.held.now.rows in
    let levels_are = sym c.table_levels-levels.ensures.levels ∙ ap (λ (y : Layout). y.levels) (sym (knows_layout c.args.iron.now c.args.pass.now c.requires.table)) in
    let is = is_linking a b thread call v rows c.args.kit.now ready c.requires.done further c.table_levels-levels.result c.args.held.now.room levels_are c.requires.room in
    let so = c.link_next.ensures.links a b thread call v rows is
    (subst (λ n. IsNext a b thread call c.args.kit.now 0 v rows v rows (root n c.args.new)) (sym is.count_is)
    (root_first a b thread call v rows c.args.kit.now ready c.requires.done further c.args.space c.args.new copies (started a b thread call v rows c.args.kit.now ready c.requires.done further))) in
    let copying = is_copying a b thread call v rows c.args.kit.now ready c.requires.done further c.args.space c.args.new copies c.table_levels-levels.result c.args.held.now.room c.link_next.new.held.room is c.link_next.ensures.room
    1 (view_of c.link_next.new.pass) c.link_next.new.held.rows so in
    let all = c.link_below.ensures.links a b thread call v rows copying in
    let each = subst (λ n. HasCopies (state_of a) (root n c.args.space) c.args.new c.link_below.new.held.rows) is.count_is (c.link_below.ensures.copied a b thread call v rows copying) in
    let top = subst (λ n. ListHolds c.link_below.new.held.rows (root n c.args.new)) is.count_is (c.link_below.ensures.kept (root c.table_levels-levels.result c.args.new) c.link_next.ensures.list.there) in
    ended a b thread call c.args.kit.now c.link_below.result v rows (view_of c.link_below.new.pass) c.link_below.new.held.rows all
    (all_copied a b thread call v rows c.args.kit.now ready c.requires.done further c.args.space c.args.new copies c.link_below.result (view_of c.link_below.new.pass) c.link_below.new.held.rows all top each)
