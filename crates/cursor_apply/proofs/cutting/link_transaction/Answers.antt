use Rattle.std.specs.Prelude.{slice_index_or}
use Rattle.std.proofs.Common.{sym, refl, ap, subst, arith, ◌∙◌}
use mathlib.Core.Logic.{dite}
use native.Mathlib.Decide.{ℕ_discrete}
use Rattle.row_table.specs.Passes.{view_of}
use Rattle.row_layout.specs.declared.places.Layout.{Layout}
use Rattle.row_table.proofs.OfTable.{knows_layout}
use Rattle.machine_plan.specs.declared.kit.Change.{Change}
use Rattle.cursor_apply.specs.Changed.{range_change}
use Rattle.cursor_apply.specs.Transacting.{MayLinkBy, ReachesBy}
use Rattle.cursor_apply.proofs.StagedStart.{is_linking, started, ended}
use Rattle.cursor_apply.proofs.TxnCuts.{txn_may_link, txn_all_there, still_by}
use Rattle.cursor_detach.proofs.Lists.{any_default}
use Rattle.cursor_apply.proofs.cutting.link_transaction.Goals as goal

pub loop-at-init : goal.loop-at-init
loop-at-init g c = record {
  table = refl;
  same = refl;
  room = refl;
  so_far = λ a b thread call ready further is. started a b thread call (view_of c.args.pass.now) c.args.held.now.rows c.args.kit.now ready c.requires.done further;
  reached = λ k d less. absurd (omega arith);
}

pub link_by-next-requires-clause-table : goal.link_by-next-requires-clause-table
link_by-next-requires-clause-table g c κs within = c.loop-at.invariant.table ∙ c.requires.table

pub link_by-next-requires-clause-levels : goal.link_by-next-requires-clause-levels
link_by-next-requires-clause-levels g c κs within =
    let m = c.requires.ready in
    let levels_are = sym c.table_levels-levels.ensures.levels ∙ ap (λ (y : Layout). y.levels) (sym (knows_layout c.args.iron.now c.args.pass.now c.requires.table)) in
    let is = is_linking m.0 m.1 m.2 m.3 (view_of c.args.pass.now) c.args.held.now.rows c.args.kit.now m.4 c.requires.done m.5 c.table_levels-levels.result c.args.held.now.room levels_are c.requires.room in
    (let some = is.before.some_levels in let e = is.count_is in omega (arith, some, e), c.table_levels-levels.ensures.few)

pub link_by-next-requires-clause-ready : goal.link_by-next-requires-clause-ready
link_by-next-requires-clause-ready g c κs within =
    let m = c.requires.ready in
    let v = view_of c.args.pass.now in
    let levels_are = sym c.table_levels-levels.ensures.levels ∙ ap (λ (y : Layout). y.levels) (sym (knows_layout c.args.iron.now c.args.pass.now c.requires.table)) in (
      m.0,
      m.1,
      m.2,
      m.3,
      v,
      c.args.held.now.rows,
      is_linking m.0 m.1 m.2 m.3 v c.args.held.now.rows c.args.kit.now m.4 c.requires.done m.5 c.table_levels-levels.result c.loop-at.held.room levels_are (let room = c.loop-at.invariant.room in let enough = c.requires.room in omega (arith, room, enough)),
      c.loop-at.invariant.so_far m.0 m.1 m.2 m.3 m.4 m.5 m.6,
      subst (λ (y : Change). MayLinkBy m.0 m.1 c.args.held.now.rows c.args.space (range_change y)) (sym c.index-change.ensures)
          (txn_may_link m.0 m.1 m.2 m.3 v c.args.held.now.rows c.args.kit.now c.args.space m.4 c.requires.done m.5 m.6 c.loop-at.at c.index-change.result.now (let t = c.loop-at-test.true in let l = c.args.kit.now.changes.ok.0 in omega (arith, t, l))),
    )

pub loop-at-preserved : goal.loop-at-preserved
loop-at-preserved g c =
    let v = view_of c.args.pass.now in
    let levels_are = sym c.table_levels-levels.ensures.levels ∙ ap (λ (y : Layout). y.levels) (sym (knows_layout c.args.iron.now c.args.pass.now c.requires.table)) in
    record {
      table = c.link_by-next.ensures.table ∙ c.loop-at.invariant.table;
      same = c.link_by-next.ensures.same ∙ c.loop-at.invariant.same;
      room = c.link_by-next.ensures.room ∙ c.loop-at.invariant.room;
      so_far = λ a b thread call ready further is.
          c.link_by-next.ensures.links a b thread call v c.args.held.now.rows
          (is_linking a b thread call v c.args.held.now.rows c.args.kit.now ready c.requires.done further c.table_levels-levels.result c.loop-at.held.room levels_are (let room = c.loop-at.invariant.room in let enough = c.requires.room in omega (arith, room, enough)))
          (c.loop-at.invariant.so_far a b thread call ready further is)
          (subst (λ (y : Change). MayLinkBy a b c.args.held.now.rows c.args.space (range_change y)) (sym c.index-change.ensures)
          (txn_may_link a b thread call v c.args.held.now.rows c.args.kit.now c.args.space ready c.requires.done further is c.loop-at.at c.index-change.result.now (let t = c.loop-at-test.true in let l = c.args.kit.now.changes.ok.0 in omega (arith, t, l))));
      reached = λ k d less. dite (ℕ_discrete k c.loop-at.at)
          (λ e. subst (λ (y : Change). ReachesBy c.table_levels-levels.result c.args.space (range_change y) c.link_by-next.new.held.rows)
          (c.index-change.ensures ∙ (any_default c.args.kit.now.changes.items c.loop-at.at c.index-change.result.now d (let t = c.loop-at-test.true in let l = c.args.kit.now.changes.ok.0 in omega (arith, t, l)) ∙ ap (λ n. slice_index_or c.args.kit.now.changes.items n d) (sym e))) c.link_by-next.ensures.reached)
          (λ ne. still_by c.table_levels-levels.result c.args.space (range_change (slice_index_or c.args.kit.now.changes.items k d)) c.loop-at.held.rows c.link_by-next.new.held.rows c.link_by-next.ensures.kept
          (c.loop-at.invariant.reached k d (omega arith)));
    }

pub returns-clause-links : goal.returns-clause-links
returns-clause-links g c = λ a b thread call ready further txn.
    let v = view_of c.args.pass.now in
    let rows = c.args.held.now.rows in
    let so = c.loop-at.invariant.so_far a b thread call ready further txn in
    let levels_are = sym c.table_levels-levels.ensures.levels ∙ ap (λ (y : Layout). y.levels) (sym (knows_layout c.args.iron.now c.args.pass.now c.requires.table)) in
    let is = is_linking a b thread call v rows c.args.kit.now ready c.requires.done further c.table_levels-levels.result c.args.held.now.room levels_are c.requires.room in
    ended a b thread call c.args.kit.now c.loop-at.next v rows (view_of c.loop-at.pass) c.loop-at.held.rows so
    (txn_all_there a b thread call v rows c.args.kit.now c.args.space ready c.requires.done further txn c.loop-at.next (view_of c.loop-at.pass) c.loop-at.held.rows so
    (λ k d less. subst (λ n. ReachesBy n c.args.space (range_change (slice_index_or c.args.kit.now.changes.items k d)) c.loop-at.held.rows) is.count_is (c.loop-at.invariant.reached k d (let over = c.loop-at-test.false in let l = c.args.kit.now.changes.ok.0 in omega arith))))
