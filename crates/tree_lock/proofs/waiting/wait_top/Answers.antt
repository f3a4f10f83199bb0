use Rattle.std.proofs.Common.{◌∙◌, arith}
use Rattle.row_table.specs.Passes.{view_of}
use Rattle.tree_lock.proofs.Levels.{levels_inside}
use Rattle.tree_lock.proofs.Trying.{stands_inside}
use Rattle.tree_lock.proofs.Retries.{free_still, later, still_missed, top_held}
use Rattle.tree_lock.proofs.waiting.wait_top.Goals as goal

pub lock_top-top-requires-clause-stands : goal.lock_top-top-requires-clause-stands
lock_top-top-requires-clause-stands g c κs within = let e = c.in_ok-enter.ensures in stands_inside _ _ (free_still (view_of c.args.pass.now) (view_of c.loop.pass) c.requires.free c.loop.invariant.still) e.right e.enters.1

pub lock_top-top-requires-clause-levels : goal.lock_top-top-requires-clause-levels
lock_top-top-requires-clause-levels g c κs within = let e = c.in_ok-enter.ensures in levels_inside _ (view_of c.loop.pass) (view_of c.enter.new.self) e.layout e.enters.1 _ c.requires.levels.0 c.requires.levels.1

pub returns-in-Got-clause-waits : goal.returns-in-Got-clause-waits
returns-in-Got-clause-waits g c = let e = c.in_ok-enter.ensures in let t = c.in-Got.ensures in let i = c.loop.invariant in
    let few = e.enters.0 in let low = i.rises in
    (omega arith, top_held (view_of c.args.pass.now) (view_of c.loop.pass) (view_of c.enter.new.self) (view_of c.lock_top-top.new.pass) (view_of c.leave.new.self) i.still e.enters.1 t.kept t.epoch c.leave.ensures.leaves c.args.levels c.args.zone.now c.in-Got.row i.rises t.takes)

pub loop-preserved-in-Busy : goal.loop-preserved-in-Busy
loop-preserved-in-Busy g c = let e = c.in_ok-enter.ensures in let t = c.in-Busy.ensures in let i = c.loop.invariant in record {
  table = c.leave.ensures.table ∙ t.table ∙ e.table ∙ i.table;
  kit = c.leave.ensures.same ∙ t.same ∙ e.same ∙ i.kit;
  still = still_missed (view_of c.args.pass.now) (view_of c.loop.pass) (view_of c.enter.new.self) (view_of c.lock_top-top.new.pass) (view_of c.leave.new.self) i.still e.enters.1 t.kept t.epoch c.leave.ensures.leaves c.args.levels c.args.zone.now _ _ c.requires.free e.right t.takes.1;
  rises = later (view_of c.args.pass.now) (view_of c.loop.pass) (view_of c.enter.new.self) (view_of c.lock_top-top.new.pass) (view_of c.leave.new.self) i.still e.enters.1 t.kept t.epoch c.leave.ensures.leaves i.rises;
}

pub loop-preserved : goal.loop-preserved
loop-preserved g c = let e = c.in_ok-enter.ensures in let t = c.in-Stale.ensures in let i = c.loop.invariant in record {
  table = c.leave.ensures.table ∙ t.table ∙ e.table ∙ i.table;
  kit = c.leave.ensures.same ∙ t.same ∙ e.same ∙ i.kit;
  still = still_missed (view_of c.args.pass.now) (view_of c.loop.pass) (view_of c.enter.new.self) (view_of c.lock_top-top.new.pass) (view_of c.leave.new.self) i.still e.enters.1 t.kept t.epoch c.leave.ensures.leaves c.args.levels c.args.zone.now _ _ c.requires.free e.right t.takes.1;
  rises = later (view_of c.args.pass.now) (view_of c.loop.pass) (view_of c.enter.new.self) (view_of c.lock_top-top.new.pass) (view_of c.leave.new.self) i.still e.enters.1 t.kept t.epoch c.leave.ensures.leaves i.rises;
}
