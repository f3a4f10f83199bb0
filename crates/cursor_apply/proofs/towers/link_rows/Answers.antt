use Rattle.std.specs.Prelude.{ℕ, slice_index_or}
use Rattle.std.proofs.Common.{sym, refl, ap, subst, arith, ◌∙◌}
use mathlib.Core.Logic.{dite}
use native.Mathlib.Decide.{ℕ_discrete}
use Rattle.row_table.specs.Passes.{view_of}
use Rattle.row_layout.specs.declared.places.Layout.{Layout}
use Rattle.row_table.proofs.OfTable.{knows_layout}
use Rattle.machine_plan.specs.declared.kit.Want.{Want}
use Rattle.cursor_apply.specs.Linking.{MayLinkPage, ReachesPage}
use Rattle.cursor_apply.proofs.AbovePages.{still_reached, all_there}
use Rattle.cursor_apply.proofs.StagedStart.{is_linking, started, ended}
use Rattle.cursor_detach.proofs.Lists.{any_default}
use Rattle.cursor_apply.proofs.towers.link_rows.Goals as goal

pub loop-at-init : goal.loop-at-init
loop-at-init g c = record {
  table = refl;
  same = refl;
  room = refl;
  so_far = λ a b thread call ready further above. started a b thread call (view_of c.args.pass.now) c.args.held.now.rows c.args.kit.now ready c.requires.done further;
  reached = λ k d less. absurd (omega arith);
}

pub link_page-next-requires-clause-table : goal.link_page-next-requires-clause-table
link_page-next-requires-clause-table g c κs within = c.loop-at.invariant.table ∙ c.requires.table

pub link_page-next-requires-clause-ready : goal.link_page-next-requires-clause-ready
link_page-next-requires-clause-ready g c κs within =
    let m = c.requires.ready in
    let v = view_of c.args.pass.now in
    let levels_are = sym c.table_levels-levels.ensures.levels ∙ ap (λ (y : Layout). y.levels) (sym (knows_layout c.args.iron.now c.args.pass.now c.requires.table)) in (
      m.0,
      m.1,
      m.2,
      m.3,
      v,
      c.args.held.now.rows,
      is_linking m.0 m.1 m.2 m.3 v c.args.held.now.rows c.args.kit.now m.4 c.requires.done m.5 c.table_levels-levels.result c.loop-at.held.room levels_are (let room = c.loop-at.invariant.room in let enough = c.requires.room in omega (arith, room, enough)),
      c.loop-at.invariant.so_far m.0 m.1 m.2 m.3 m.4 m.5 m.6,
      subst (λ (y : ℕ × Want). MayLinkPage m.0 m.1 c.args.held.now.rows c.args.space y.0 1) (sym c.index.ensures) (m.6.pages c.loop-at.at c.index.result.now (let t = c.loop-at-test.true in let l = c.args.kit.now.wants.ok.0 in omega (arith, t, l))),
    )

pub loop-at-preserved : goal.loop-at-preserved
loop-at-preserved g c =
    let v = view_of c.args.pass.now in
    let levels_are = sym c.table_levels-levels.ensures.levels ∙ ap (λ (y : Layout). y.levels) (sym (knows_layout c.args.iron.now c.args.pass.now c.requires.table)) in
    record {
      table = c.link_page-next.ensures.table ∙ c.loop-at.invariant.table;
      same = c.link_page-next.ensures.same ∙ c.loop-at.invariant.same;
      room = c.link_page-next.ensures.room ∙ c.loop-at.invariant.room;
      so_far = λ a b thread call ready further above.
          c.link_page-next.ensures.links a b thread call v c.args.held.now.rows
          (is_linking a b thread call v c.args.held.now.rows c.args.kit.now ready c.requires.done further c.table_levels-levels.result c.loop-at.held.room levels_are (let room = c.loop-at.invariant.room in let enough = c.requires.room in omega (arith, room, enough)))
          (c.loop-at.invariant.so_far a b thread call ready further above) (subst (λ (y : ℕ × Want). MayLinkPage a b c.args.held.now.rows c.args.space y.0 1) (sym c.index.ensures) (above.pages c.loop-at.at c.index.result.now (let t = c.loop-at-test.true in let l = c.args.kit.now.wants.ok.0 in omega (arith, t, l))));
      reached = λ k d less. dite (ℕ_discrete k c.loop-at.at)
          (λ e. subst (λ (y : ℕ × Want). ReachesPage c.args.space y.0 1 c.link_page-next.new.held.rows)
          (c.index.ensures ∙ (any_default c.args.kit.now.wants.items c.loop-at.at c.index.result.now d (let t = c.loop-at-test.true in let l = c.args.kit.now.wants.ok.0 in omega (arith, t, l)) ∙ ap (λ n. slice_index_or c.args.kit.now.wants.items n d) (sym e))) c.link_page-next.ensures.reached)
          (λ ne. still_reached c.args.space (slice_index_or c.args.kit.now.wants.items k d).0 1 c.loop-at.held.rows c.link_page-next.new.held.rows c.link_page-next.ensures.kept
          (c.loop-at.invariant.reached k d (omega arith)));
    }

pub returns-clause-links : goal.returns-clause-links
returns-clause-links g c = λ a b thread call ready further above.
    let v = view_of c.args.pass.now in
    let rows = c.args.held.now.rows in
    let so = c.loop-at.invariant.so_far a b thread call ready further above in
    let levels_are = sym c.table_levels-levels.ensures.levels ∙ ap (λ (y : Layout). y.levels) (sym (knows_layout c.args.iron.now c.args.pass.now c.requires.table)) in
    let is = is_linking a b thread call v rows c.args.kit.now ready c.requires.done further c.table_levels-levels.result c.args.held.now.room levels_are c.requires.room in
    ended a b thread call c.args.kit.now c.loop-at.next v rows (view_of c.loop-at.pass) c.loop-at.held.rows so
    (all_there a b thread call c.args.kit.now v rows is.before is.after is.same c.loop-at.next (view_of c.loop-at.pass) c.loop-at.held.rows so c.args.space above
    (λ k d less. c.loop-at.invariant.reached k d (let over = c.loop-at-test.false in let l = c.args.kit.now.wants.ok.0 in omega arith)))
