use Rattle.std.proofs.Common.{sym, ap, arith, ◌∙◌}
use Rattle.row_table.specs.Passes.{view_of}
use Rattle.row_layout.specs.declared.places.Layout.{Layout}
use Rattle.row_table.proofs.OfTable.{knows_layout}
use Rattle.cursor_apply.specs.Changed.{range_change}
use Rattle.range_apply.proofs.RangeLinked.{some_changes, no_other, ends_of, range_linked}
use Rattle.cursor_apply.proofs.StagedStart.{is_linking, started}
use Rattle.range_apply.proofs.ranging.link_granted.Goals as goal

pub index-requires : goal.index-requires
index-requires g c =
    let m = c.requires.ready in
    let some = some_changes m.0 m.1 m.2 m.3 (view_of c.args.pass.now) c.args.held.now.rows c.args.kit.now c.args.space m.4 c.requires.done m.5 m.6 c.requires.some in
    let l = c.args.kit.now.changes.ok.0 in
    omega (arith, some, l)

pub link_ends-requires-clause-levels : goal.link_ends-requires-clause-levels
link_ends-requires-clause-levels g c κs within =
    let m = c.requires.ready in
    let levels_are = sym c.table_levels-levels.ensures.levels ∙ ap (λ (y : Layout). y.levels) (sym (knows_layout c.args.iron.now c.args.pass.now c.requires.table)) in
    let is = is_linking m.0 m.1 m.2 m.3 (view_of c.args.pass.now) c.args.held.now.rows c.args.kit.now m.4 c.requires.done m.5 c.table_levels-levels.result c.args.held.now.room levels_are c.requires.room in
    (let some = is.before.some_levels in let e = is.count_is in omega (arith, some, e), c.table_levels-levels.ensures.few)

pub link_ends-requires-clause-some : goal.link_ends-requires-clause-some
link_ends-requires-clause-some g c κs within =
    let m = c.requires.ready in
    (ends_of m.0 m.1 m.2 m.3 (view_of c.args.pass.now) c.args.held.now.rows c.args.kit.now c.args.space m.4 c.requires.done m.5 m.6 c.requires.some c.index.result.now c.in-Some.change (ap range_change (sym c.index.ensures) ∙ sym c.in-Some.ensures)).some

pub link_ends-requires-clause-end : goal.link_ends-requires-clause-end
link_ends-requires-clause-end g c κs within =
    let m = c.requires.ready in
    (ends_of m.0 m.1 m.2 m.3 (view_of c.args.pass.now) c.args.held.now.rows c.args.kit.now c.args.space m.4 c.requires.done m.5 m.6 c.requires.some c.index.result.now c.in-Some.change (ap range_change (sym c.index.ensures) ∙ sym c.in-Some.ensures)).end

pub link_ends-requires-clause-near : goal.link_ends-requires-clause-near
link_ends-requires-clause-near g c κs within =
    let m = c.requires.ready in
    (ends_of m.0 m.1 m.2 m.3 (view_of c.args.pass.now) c.args.held.now.rows c.args.kit.now c.args.space m.4 c.requires.done m.5 m.6 c.requires.some c.index.result.now c.in-Some.change (ap range_change (sym c.index.ensures) ∙ sym c.in-Some.ensures)).near

pub link_ends-requires-clause-ready : goal.link_ends-requires-clause-ready
link_ends-requires-clause-ready g c κs within =
    let m = c.requires.ready in
    let v = view_of c.args.pass.now in
    let rows = c.args.held.now.rows in
    let levels_are = sym c.table_levels-levels.ensures.levels ∙ ap (λ (y : Layout). y.levels) (sym (knows_layout c.args.iron.now c.args.pass.now c.requires.table)) in (
      m.0,
      m.1,
      m.2,
      m.3,
      is_linking m.0 m.1 m.2 m.3 v rows c.args.kit.now m.4 c.requires.done m.5 c.table_levels-levels.result c.args.held.now.room levels_are c.requires.room,
      started m.0 m.1 m.2 m.3 v rows c.args.kit.now m.4 c.requires.done m.5,
      (ends_of m.0 m.1 m.2 m.3 v rows c.args.kit.now c.args.space m.4 c.requires.done m.5 m.6 c.requires.some c.index.result.now c.in-Some.change (ap range_change (sym c.index.ensures) ∙ sym c.in-Some.ensures)).ends,
    )

pub returns-in-Some-clause-links : goal.returns-in-Some-clause-links
returns-in-Some-clause-links g c = λ a b thread call ready further is.
    let v = view_of c.args.pass.now in
    let rows = c.args.held.now.rows in
    let kit = c.args.kit.now in
    let told = ap range_change (sym c.index.ensures) ∙ sym c.in-Some.ensures in
    let levels_are = sym c.table_levels-levels.ensures.levels ∙ ap (λ (y : Layout). y.levels) (sym (knows_layout c.args.iron.now c.args.pass.now c.requires.table)) in
    let linking = is_linking a b thread call v rows kit ready c.requires.done further c.table_levels-levels.result c.args.held.now.room levels_are c.requires.room in
    let ends = ends_of a b thread call v rows kit c.args.space ready c.requires.done further is c.requires.some c.index.result.now c.in-Some.change told in
    let linked = c.link_ends.ensures.links a b thread call linking (started a b thread call v rows kit ready c.requires.done further) ends.ends in
    range_linked a b thread call v rows kit c.args.space ready c.requires.done further is c.requires.some c.index.result.now c.in-Some.change told
    linked.0 (view_of c.link_ends.new.pass) c.link_ends.new.held.rows linked.1 linked.2 linked.3

pub returns-in-None-clause-links : goal.returns-in-None-clause-links
returns-in-None-clause-links g c = λ a b thread call ready further is.
    absurd (no_other a b thread call (view_of c.args.pass.now) c.args.held.now.rows c.args.kit.now c.args.space ready c.requires.done further is c.requires.some c.index.result.now
    (ap range_change (sym c.index.ensures) ∙ sym c.in-None.ensures))
