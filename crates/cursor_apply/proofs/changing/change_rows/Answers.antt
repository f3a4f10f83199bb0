use Rattle.std.specs.Prelude.{◌<◌, ◌≤◌, length}
use Rattle.std.proofs.Common.{ap, ◌∙◌, arith}
use Rattle.row_table.specs.Passes.{view_of}
use Rattle.cursor_apply.proofs.RowsMade.{begun, may_change, stepped, ended, long_row}
use Rattle.cursor_apply.proofs.changing.change_rows.Goals as goal

pub change_row-requires-clause-may : goal.change_row-requires-clause-may
change_row-requires-clause-may g c κs within =
    let r = c.requires.ready in
    let long = ap length c.rows.ensures.list in
    let inside : c.loop-at.at < length c.args.held.now.rows = omega arith in
    may_change r.0 r.1 r.2 r.3 r.4 c.args.change (view_of c.args.pass.now) c.args.held.now.rows r.5 c.rows.ensures.once
    c.loop-at.at (view_of c.loop-at.pass) c.loop-at.held.rows (c.loop-at.invariant.changing r.0 r.1 r.2 r.3 r.4 r.5) inside c.has_whole_rows.ensures

pub loop-at-preserved : goal.loop-at-preserved
loop-at-preserved g c =
    let long = ap length c.rows.ensures.list in
    let inside : c.loop-at.at < length c.args.held.now.rows = omega arith in
    record {
      table = c.change_row.ensures.table ∙ c.loop-at.invariant.table;
      same = c.change_row.ensures.same ∙ c.loop-at.invariant.same;
      room = c.change_row.ensures.room ∙ c.loop-at.invariant.room;
      long = long_row c.args.change c.loop-at.at c.loop-at.held.rows c.change_row.new.held.rows (view_of c.loop-at.pass) (view_of c.change_row.new.pass) c.change_row.ensures.changes ∙ c.loop-at.invariant.long;
      changing = λ b st now space is_old ready.
          stepped b st now space is_old c.args.change (view_of c.args.pass.now) c.args.held.now.rows ready c.rows.ensures.once
          c.loop-at.at (view_of c.loop-at.pass) c.loop-at.held.rows (c.loop-at.invariant.changing b st now space is_old ready) inside
          (view_of c.change_row.new.pass) c.change_row.new.held.rows c.change_row.ensures.changes c.change_row.ensures.order c.change_row.ensures.once;
    }

pub returns-clause-changes : goal.returns-clause-changes
returns-clause-changes g c = λ b st now space is_old ready.
    let long = ap length c.rows.ensures.list in
    let all : length c.args.held.now.rows ≤ c.loop-at.at = omega arith in
    ended b st now space is_old c.args.change (view_of c.args.pass.now) c.args.held.now.rows ready c.rows.ensures.once
    c.loop-at.at (view_of c.loop-at.pass) c.loop-at.held.rows all (c.loop-at.invariant.changing b st now space is_old ready)
