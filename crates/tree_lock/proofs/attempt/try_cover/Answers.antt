use Rattle.std.proofs.Common.{ℕ, sym, subst}
use Rattle.row_table.specs.Passes.{view_of}
use Rattle.tree_lock.specs.declared.attempt.Tried.TheVariants.{Busy, Stale}
use Rattle.tree_lock.specs.Zone.{IsZone}
use Rattle.tree_lock.specs.Tries.{Tries}
use Rattle.tree_lock.proofs.Levels.{levels_inside, levels_kept}
use Rattle.tree_lock.proofs.Trying.{stands_inside, tried_busy, tried_stale, tried_all, released_after}
use Rattle.tree_lock.proofs.attempt.try_cover.Goals as goal

pub lock_top-top-requires-clause-levels : goal.lock_top-top-requires-clause-levels
lock_top-top-requires-clause-levels g c κs within = let of = c.table_levels-levels.ensures in levels_inside _ (view_of c.args.pass.now) (view_of c.enter.new.self) c.in-Ok.ensures.layout c.in-Ok.ensures.enters.1 _ of.few of.levels

pub lock_top-top-requires-clause-zone : goal.lock_top-top-requires-clause-zone
lock_top-top-requires-clause-zone g c κs within = subst (λ (n : ℕ). IsZone n c.args.zone.now) c.table_levels-levels.ensures.levels c.requires.zone

pub lock_top-top-requires-clause-stands : goal.lock_top-top-requires-clause-stands
lock_top-top-requires-clause-stands g c κs within = stands_inside _ _ c.requires.free c.in-Ok.ensures.right c.in-Ok.ensures.enters.1

pub returns-in-Got-clause-tries : goal.returns-in-Got-clause-tries
returns-in-Got-clause-tries g c = let e = c.in-Ok.ensures in let t = c.in-Got.ensures in
    subst (λ (n : ℕ). Tries n c.args.zone.now (view_of c.args.pass.now) c.take_all.result (view_of c.take_all.new.pass) c.take_all.new.held.rows) (sym c.table_levels-levels.ensures.levels)
    (tried_all (view_of c.args.pass.now) (view_of c.enter.new.self) (view_of c.lock_top-top.new.pass) (view_of c.leave.new.self) c.requires.free e.right e.enters.1 t.kept t.epoch c.leave.ensures.leaves
    c.table_levels-levels.result c.args.zone.now c.take_all.result (view_of c.take_all.new.pass) c.take_all.new.held.rows e.enters.0 c.take_all.ensures.takes)

pub returns-in-Busy-clause-tries : goal.returns-in-Busy-clause-tries
returns-in-Busy-clause-tries g c = let e = c.in-Ok.ensures in let t = c.in-Busy.ensures in
    subst (λ (n : ℕ). Tries n c.args.zone.now (view_of c.args.pass.now) (Busy c.in-Busy.row c.in-Busy.seat) (view_of c.leave.new.self) c.args.held.now.rows) (sym c.table_levels-levels.ensures.levels)
    (tried_busy (view_of c.args.pass.now) (view_of c.enter.new.self) (view_of c.lock_top-top.new.pass) (view_of c.leave.new.self) c.requires.free e.right e.enters.1 t.kept t.epoch c.leave.ensures.leaves
    c.table_levels-levels.result c.args.zone.now c.in-Busy.row c.in-Busy.seat c.args.held.now.rows e.enters.0 t.takes.0 t.takes.1 c.requires.empty)

pub returns-in-Stale-clause-tries : goal.returns-in-Stale-clause-tries
returns-in-Stale-clause-tries g c = let e = c.in-Ok.ensures in let t = c.in-Stale.ensures in
    subst (λ (n : ℕ). Tries n c.args.zone.now (view_of c.args.pass.now) (Stale c.in-Stale.row) (view_of c.leave.new.self) c.args.held.now.rows) (sym c.table_levels-levels.ensures.levels)
    (tried_stale (view_of c.args.pass.now) (view_of c.enter.new.self) (view_of c.lock_top-top.new.pass) (view_of c.leave.new.self) c.requires.free e.right e.enters.1 t.kept t.epoch c.leave.ensures.leaves
    c.table_levels-levels.result c.args.zone.now c.in-Stale.row c.args.held.now.rows e.enters.0 t.takes.0 t.takes.1 c.requires.empty)

pub returns-in-Got-clause-release : goal.returns-in-Got-clause-release
returns-in-Got-clause-release g c = released_after g.P.Plan.meaning c.table_levels-levels.result c.args.zone.now (view_of c.leave.new.self) (view_of c.take_all.new.pass) c.take_all.result c.take_all.new.held.rows c.take_all.ensures.takes
