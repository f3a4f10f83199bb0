use Rattle.std.specs.Prelude.{◌≡◌, ◌+◌, ◌-◌, length}
use Rattle.std.proofs.Common.{sym, refl, ap, ◌∙◌, arith}
use Rattle.row_table.specs.Passes.{view_of, layout_of}
use Rattle.row_table.proofs.OfTable.{knows_layout}
use Rattle.cursor_detach.proofs.Gone.{begun, inside, may_step, few_gone, stepped, ended}
use Rattle.cursor_detach.proofs.detaching.detach.Goals as goal

pub loop-passed-init : goal.loop-passed-init
loop-passed-init g c =
    let m = c.requires.ready in
    let list = c.rows.ensures.list in
    let long = ap length list in
    record {
      table = refl;
      same = refl;
      room = refl;
      now = begun m.0 m.1 m.2 m.3 (view_of c.args.pass.now) c.args.held.now.rows c.args.kit.now m.4 c.rows.ensures.order c.rows.ensures.once
          (layout_of c.args.iron.now) c.table_levels-levels.result (knows_layout c.args.iron.now c.args.pass.now c.requires.table) c.table_levels-levels.ensures.levels
          (length c.rows.result.now - 0) (omega arith);
    }

pub step_back-requires-clause-table : goal.step_back-requires-clause-table
step_back-requires-clause-table g c κs within = c.loop-passed.invariant.table ∙ c.requires.table

pub step_back-requires-clause-inside : goal.step_back-requires-clause-inside
step_back-requires-clause-inside g c κs within =
    let m = c.requires.ready in
    inside m.0 m.1 m.2 m.3 (view_of c.args.pass.now) c.args.held.now.rows c.args.kit.now m.4 c.rows.ensures.order c.rows.ensures.once
    (layout_of c.args.iron.now) c.table_levels-levels.result (knows_layout c.args.iron.now c.args.pass.now c.requires.table) c.table_levels-levels.ensures.levels
    (length c.rows.result.now - 1 - c.loop-passed.passed) (length c.rows.result.now - c.loop-passed.passed) (view_of c.loop-passed.pass) c.loop-passed.held.rows c.loop-passed.kit (omega arith) c.loop-passed.invariant.now

pub step_back-requires-clause-places : goal.step_back-requires-clause-places
step_back-requires-clause-places g c κs within = c.loop-passed.invariant.now.room c.requires.ready.4.committed.commits.room

pub step_back-requires-clause-may : goal.step_back-requires-clause-may
step_back-requires-clause-may g c κs within =
    let m = c.requires.ready in
    may_step m.0 m.1 m.2 m.3 (view_of c.args.pass.now) c.args.held.now.rows c.args.kit.now m.4 c.rows.ensures.order c.rows.ensures.once
    (layout_of c.args.iron.now) c.table_levels-levels.result (knows_layout c.args.iron.now c.args.pass.now c.requires.table) c.table_levels-levels.ensures.levels
    (length c.rows.result.now - 1 - c.loop-passed.passed) (length c.rows.result.now - c.loop-passed.passed) (view_of c.loop-passed.pass) c.loop-passed.held.rows c.loop-passed.kit (omega arith) c.loop-passed.invariant.now

pub step_back-requires-clause-few : goal.step_back-requires-clause-few
step_back-requires-clause-few g c κs within =
    let m = c.requires.ready in
    few_gone m.0 m.1 m.2 m.3 (view_of c.args.pass.now) c.args.held.now.rows c.args.kit.now m.4 c.rows.ensures.order c.rows.ensures.once
    (layout_of c.args.iron.now) c.table_levels-levels.result (knows_layout c.args.iron.now c.args.pass.now c.requires.table) c.table_levels-levels.ensures.levels
    (length c.rows.result.now - 1 - c.loop-passed.passed) (length c.rows.result.now - c.loop-passed.passed) (view_of c.loop-passed.pass) c.loop-passed.held.rows c.loop-passed.kit (omega arith) c.loop-passed.invariant.now

pub loop-passed-preserved : goal.loop-passed-preserved
loop-passed-preserved g c =
    let m = c.requires.ready in
    let less = c.loop-passed-test.true in
    let same : length c.rows.result.now - 1 - c.loop-passed.passed ≡ length c.rows.result.now - (c.loop-passed.passed + 1) = omega arith in
    record {
      table = c.step_back.ensures.table ∙ c.loop-passed.invariant.table;
      same = c.step_back.ensures.same ∙ c.loop-passed.invariant.same;
      room = c.step_back.ensures.room ∙ c.loop-passed.invariant.room;
      now = stepped m.0 m.1 m.2 m.3 (view_of c.args.pass.now) c.args.held.now.rows c.args.kit.now m.4 c.rows.ensures.order c.rows.ensures.once
          (layout_of c.args.iron.now) c.table_levels-levels.result (knows_layout c.args.iron.now c.args.pass.now c.requires.table) c.table_levels-levels.ensures.levels
          (length c.rows.result.now - 1 - c.loop-passed.passed) (length c.rows.result.now - c.loop-passed.passed) (view_of c.loop-passed.pass) c.loop-passed.held.rows c.loop-passed.kit (omega arith) c.loop-passed.invariant.now
          (length c.rows.result.now - (c.loop-passed.passed + 1)) (view_of c.step_back.new.pass) c.step_back.new.held.rows c.step_back.new.kit (sym same) c.step_back.ensures.steps;
    }

pub returns-clause-detaches : goal.returns-clause-detaches
returns-clause-detaches g c = λ a b thread call ready.
    ended a b thread call (view_of c.args.pass.now) c.args.held.now.rows c.args.kit.now ready c.rows.ensures.order c.rows.ensures.once
    (layout_of c.args.iron.now) c.table_levels-levels.result (knows_layout c.args.iron.now c.args.pass.now c.requires.table) c.table_levels-levels.ensures.levels
    (length c.rows.result.now - c.loop-passed.passed) (view_of c.loop-passed.pass) c.loop-passed.held.rows c.loop-passed.kit (omega arith) c.loop-passed.invariant.now
