use Rattle.std.proofs.Common.{Some, refl, sym, ap, ◌∙◌, subst}
use Rattle.row_table.specs.Passes.{view_of}
use Rattle.tree_lock.specs.declared.attempt.Tried.TheVariants.{Busy, Stale, Worn}
use Rattle.tree_lock.specs.declared.zone.Zone.{Zone}
use Rattle.tree_lock.specs.Zone.{IsZone}
use Rattle.machine_plan.specs.Cover.{View}
use Rattle.mm_txn.specs.Machines.{model_of}
use Rattle.mm_txn.specs.Beginning.{EntersOnce}
use Rattle.mm_txn.proofs.Opening.{kit0, member0, begun_none, begun_some, missed}
use Rattle.mm_txn.proofs.beginning.try_begin.Goals as goal

pub returns-in_default : goal.returns-in_default
unfolding model_of
returns-in_default c = begun_none (model_of c.args.machine.now) c.args.pass c.take_kit-kit.new.self c.take_kit-kit.result c.args.space c.args.at c.args.len c.requires.member c.requires.ready c.take_kit-kit.ensures.kit c.take_kit-kit.ensures.same
    EntersOnce _ _ c.opened.ensures c.range_in-range.ensures.value c.in_default.is (ap (λ (u : View). u.epoch) c.take_kit-kit.ensures.same.0)

pub try_cover-requires-clause-table : goal.try_cover-requires-clause-table
unfolding model_of
try_cover-requires-clause-table c κs = member0 (model_of c.args.machine.now) c.args.pass c.take_kit-kit.new.self c.take_kit-kit.result c.args.space c.args.at c.args.len c.requires.member c.requires.ready c.take_kit-kit.ensures.kit c.take_kit-kit.ensures.same

pub try_cover-requires-clause-zone : goal.try_cover-requires-clause-zone
unfolding model_of
try_cover-requires-clause-zone c κs = subst (λ (z : Zone). IsZone (model_of c.args.machine.now).table.layout.levels z) (sym c.zone_of-zone.ensures.zone) (c.zone_of-zone.ensures.space, c.in-Some.ensures.user.0, c.in-Some.ensures.user.1)

pub try_cover-requires-clause-room : goal.try_cover-requires-clause-room
unfolding model_of
try_cover-requires-clause-room c κs = (kit0 (model_of c.args.machine.now) c.args.pass c.take_kit-kit.new.self c.take_kit-kit.result c.args.space c.args.at c.args.len c.requires.member c.requires.ready c.take_kit-kit.ensures.kit c.take_kit-kit.ensures.same).5

pub returns-in-Held : goal.returns-in-Held
unfolding model_of
returns-in-Held c =
    let w = c.in-Held.ensures.tries in
    begun_some (model_of c.args.machine.now) c.args.pass c.take_kit-kit.new.self c.take_kit-kit.result c.args.space c.args.at c.args.len c.requires.member c.requires.ready c.take_kit-kit.ensures.kit c.take_kit-kit.ensures.same
    c.try_cover.new.pass (c.take_kit-kit.result.0, c.try_cover.new.held) c.try_cover.ensures.table refl c.try_cover.ensures.room EntersOnce _ _ c.in-Some.pages c.zone_of-zone.result c.opened-in-Held.ensures (sym c.in-Some.is ∙ c.range_in-range.ensures.value) refl c.zone_of-zone.ensures.zone
    (subst (λ (z : Zone). IsZone (model_of c.args.machine.now).table.layout.levels z) (sym c.zone_of-zone.ensures.zone) (c.zone_of-zone.ensures.space, c.in-Some.ensures.user.0, c.in-Some.ensures.user.1))
    c.try_cover.ensures.same w.1.same w.1.outside w.1.listed w.1.covers w.1.in_tree c.in-Held.ensures.release
    (subst (λ (v : View). EntersOnce (Some c.in-Some.pages) v.epoch (view_of c.try_cover.new.pass).epoch) c.take_kit-kit.ensures.same.0 (w.0, w.1.twice))

pub returns-in-Busy : goal.returns-in-Busy
unfolding model_of
returns-in-Busy c =
    let w = c.in-Busy.ensures.tries in
    missed (model_of c.args.machine.now) c.args.pass c.take_kit-kit.new.self c.take_kit-kit.result c.args.space c.args.at c.args.len c.requires.member c.requires.ready c.take_kit-kit.ensures.kit c.take_kit-kit.ensures.same
    c.try_cover.new.pass (c.take_kit-kit.result.0, c.try_cover.new.held) c.try_cover.ensures.table refl c.try_cover.ensures.room c.put_kit.new.self w.3 c.put_kit.ensures.kit c.put_kit.ensures.same (Busy c.in-Busy.row c.in-Busy.seat) _ c.in-Some.pages c.zone_of-zone.result (ap (λ (u : View). u.core) w.1) c.range_in-range.ensures.value c.in-Some.is c.zone_of-zone.ensures.zone w

pub returns-in-Stale : goal.returns-in-Stale
unfolding model_of
returns-in-Stale c =
    let w = c.in-Stale.ensures.tries in
    missed (model_of c.args.machine.now) c.args.pass c.take_kit-kit.new.self c.take_kit-kit.result c.args.space c.args.at c.args.len c.requires.member c.requires.ready c.take_kit-kit.ensures.kit c.take_kit-kit.ensures.same
    c.try_cover.new.pass (c.take_kit-kit.result.0, c.try_cover.new.held) c.try_cover.ensures.table refl c.try_cover.ensures.room c.put_kit-in-Stale.new.self w.3 c.put_kit-in-Stale.ensures.kit c.put_kit-in-Stale.ensures.same (Stale c.in-Stale.row) _ c.in-Some.pages c.zone_of-zone.result (ap (λ (u : View). u.core) w.1) c.range_in-range.ensures.value c.in-Some.is c.zone_of-zone.ensures.zone w

pub returns-in-Worn : goal.returns-in-Worn
unfolding model_of
returns-in-Worn c =
    let w = c.in-Worn.ensures.tries in
    missed (model_of c.args.machine.now) c.args.pass c.take_kit-kit.new.self c.take_kit-kit.result c.args.space c.args.at c.args.len c.requires.member c.requires.ready c.take_kit-kit.ensures.kit c.take_kit-kit.ensures.same
    c.try_cover.new.pass (c.take_kit-kit.result.0, c.try_cover.new.held) c.try_cover.ensures.table refl c.try_cover.ensures.room c.put_kit-in-Worn.new.self w.2 c.put_kit-in-Worn.ensures.kit c.put_kit-in-Worn.ensures.same Worn _ c.in-Some.pages c.zone_of-zone.result (ap (λ (u : View). u.core) w.1) c.range_in-range.ensures.value c.in-Some.is c.zone_of-zone.ensures.zone w
