use Rattle.std.proofs.Common.{Some, refl, sym, ap, ◌∙◌, subst}
use Rattle.row_table.specs.Passes.{view_of}
use Rattle.tree_lock.specs.declared.zone.Zone.{Zone}
use Rattle.tree_lock.specs.Zone.{IsZone}
use Rattle.machine_plan.specs.Cover.{View}
use Rattle.mm_txn.specs.Machines.{model_of}
use Rattle.mm_txn.specs.Beginning.{Enters}
use Rattle.mm_txn.proofs.Opening.{kit0, member0, begun_none, begun_some, worn_out}
use Rattle.mm_txn.proofs.beginning.begin.Goals as goal

pub returns-in_default : goal.returns-in_default
unfolding model_of
returns-in_default g c = begun_none (model_of c.args.machine.now) c.args.pass c.take_kit-kit.new.self c.take_kit-kit.result c.args.space c.args.at c.args.len c.requires.member c.requires.ready c.take_kit-kit.ensures.kit c.take_kit-kit.ensures.same
    Enters _ _ c.opened.ensures c.range_in-range.ensures.value c.in_default.is (ap (λ (u : View). u.epoch) c.take_kit-kit.ensures.same.0)

pub cover-requires-clause-table : goal.cover-requires-clause-table
unfolding model_of
cover-requires-clause-table g c κs within = member0 (model_of c.args.machine.now) c.args.pass c.take_kit-kit.new.self c.take_kit-kit.result c.args.space c.args.at c.args.len c.requires.member c.requires.ready c.take_kit-kit.ensures.kit c.take_kit-kit.ensures.same

pub cover-requires-clause-zone : goal.cover-requires-clause-zone
unfolding model_of
cover-requires-clause-zone g c κs within = subst (λ (z : Zone). IsZone (model_of c.args.machine.now).table.layout.levels z) (sym c.zone_of-zone.ensures.zone) (c.zone_of-zone.ensures.space, c.in-Some.ensures.user.0, c.in-Some.ensures.user.1)

pub cover-requires-clause-room : goal.cover-requires-clause-room
unfolding model_of
cover-requires-clause-room g c κs within = (kit0 (model_of c.args.machine.now) c.args.pass c.take_kit-kit.new.self c.take_kit-kit.result c.args.space c.args.at c.args.len c.requires.member c.requires.ready c.take_kit-kit.ensures.kit c.take_kit-kit.ensures.same).5

pub returns-in-Ok : goal.returns-in-Ok
unfolding model_of
returns-in-Ok g c =
    let w = c.in-Ok.ensures.waits in
    begun_some (model_of c.args.machine.now) c.args.pass c.take_kit-kit.new.self c.take_kit-kit.result c.args.space c.args.at c.args.len c.requires.member c.requires.ready c.take_kit-kit.ensures.kit c.take_kit-kit.ensures.same
    c.cover.new.pass (c.take_kit-kit.result.0, c.cover.new.held) c.cover.ensures.table refl c.cover.ensures.room Enters _ _ c.in-Some.pages c.zone_of-zone.result c.opened-in-Ok.ensures (sym c.in-Some.is ∙ c.range_in-range.ensures.value) refl c.zone_of-zone.ensures.zone
    (subst (λ (z : Zone). IsZone (model_of c.args.machine.now).table.layout.levels z) (sym c.zone_of-zone.ensures.zone) (c.zone_of-zone.ensures.space, c.in-Some.ensures.user.0, c.in-Some.ensures.user.1))
    c.cover.ensures.same w.1.same w.1.outside w.1.listed w.1.covers w.1.in_tree c.in-Ok.ensures.release
    (subst (λ (v : View). Enters (Some c.in-Some.pages) v.epoch (view_of c.cover.new.pass).epoch) c.take_kit-kit.ensures.same.0 (w.0, w.1.rises))

pub returns-in-Err : goal.returns-in-Err
unfolding model_of
returns-in-Err g c =
    let w = c.in-Err.ensures.waits in
    worn_out (model_of c.args.machine.now) c.args.pass c.take_kit-kit.new.self c.take_kit-kit.result c.args.space c.args.at c.args.len c.requires.member c.requires.ready c.take_kit-kit.ensures.kit c.take_kit-kit.ensures.same
    c.cover.new.pass (c.take_kit-kit.result.0, c.cover.new.held) c.cover.ensures.table refl c.cover.ensures.room c.put_kit.new.self w.1 c.put_kit.ensures.kit c.put_kit.ensures.same _ c.in-Some.pages c.range_in-range.ensures.value c.in-Some.is w.0
