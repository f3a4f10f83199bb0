use Rattle.std.proofs.Common.{length, ap, ◌∙◌, arith}
use Rattle.row_table.specs.Passes.{view_of}
use Rattle.tree_lock.proofs.Emptying.{released_next, all_released}
use Rattle.tree_lock.proofs.release.release_all.Goals as goal

pub loop-released-preserved : goal.loop-released-preserved
loop-released-preserved g c = let r = c.release_last.ensures.releases in record {
  table = c.release_last.ensures.table ∙ c.loop-released.invariant.table;
  same = c.release_last.ensures.same ∙ c.loop-released.invariant.same;
  room = c.release_last.ensures.room ∙ c.loop-released.invariant.room;
  now = released_next g.P.Plan.meaning (view_of c.args.pass.now) (view_of c.loop-released.pass) (view_of c.release_last.new.pass) c.args.held.now.rows c.loop-released.held.rows c.release_last.new.held.rows
      c.loop-released.released _ r.row c.loop-released.invariant.now r.removed r.now;
}

pub returns-clause-releases : goal.returns-clause-releases
returns-clause-releases g c = let long = ap length c.rows.ensures.list in
    (all_released g.P.Plan.meaning (view_of c.args.pass.now) (view_of c.loop-released.pass) c.args.held.now.rows c.loop-released.held.rows c.loop-released.released c.loop-released.invariant.now (omega arith)).1
