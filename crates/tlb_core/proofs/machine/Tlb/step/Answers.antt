use Rattle.std.proofs.Common.{sym, subst}
use Rattle.tlb_core.specs.declared.events.TlbEvent.TheVariants as events
use Rattle.tlb_core.specs.Answers.{IsEvent}
use Rattle.tlb_core.specs.Shown.{IsSized}
use Rattle.tlb_core.proofs.Told.{Told, map_told, unmap_told, fill_told, reach_told, drop_told, ack_told, free_told}
use Rattle.tlb_core.proofs.machine.Tlb.step.Goals as goal

pub returns-in-Map : goal.returns-in-Map
returns-in-Map c =
    let t : Told c.args.self.now c.args.event.now c.map.result c.map.new.self = subst (λ e. Told c.args.self.now e c.map.result c.map.new.self) (sym c.in-Map.is)
    (map_told c.args.self.now (subst IsSized c.self.view_is c.self.invariant) c.map.new.self c.in-Map.page (subst (IsEvent c.args.self.now.sizes) c.in-Map.is c.requires) c.map.result c.map.ensures) in
    record { answer = t.answer; shown = t.shown; sizes = t.sizes }

pub returns-in-Unmap : goal.returns-in-Unmap
returns-in-Unmap c =
    let t : Told c.args.self.now c.args.event.now c.unmap.result c.unmap.new.self = subst (λ e. Told c.args.self.now e c.unmap.result c.unmap.new.self) (sym c.in-Unmap.is)
    (unmap_told c.args.self.now (subst IsSized c.self.view_is c.self.invariant) c.unmap.new.self c.in-Unmap.page (subst (IsEvent c.args.self.now.sizes) c.in-Unmap.is c.requires) c.unmap.result c.unmap.ensures) in
    record { answer = t.answer; shown = t.shown; sizes = t.sizes }

pub returns-in-Fill : goal.returns-in-Fill
returns-in-Fill c =
    let t : Told c.args.self.now c.args.event.now c.fill.result c.fill.new.self = subst (λ e. Told c.args.self.now e c.fill.result c.fill.new.self) (sym c.in-Fill.is)
    (fill_told c.args.self.now (subst IsSized c.self.view_is c.self.invariant) c.fill.new.self c.in-Fill.cpu c.in-Fill.page (subst (IsEvent c.args.self.now.sizes) c.in-Fill.is c.requires) c.fill.result c.fill.ensures) in
    record { answer = t.answer; shown = t.shown; sizes = t.sizes }

pub returns-in-Reach : goal.returns-in-Reach
returns-in-Reach c =
    let t : Told c.args.self.now c.args.event.now c.reach.result c.args.self.now = subst (λ e. Told c.args.self.now e c.reach.result c.args.self.now) (sym c.in-Reach.is)
    (reach_told c.args.self.now (subst IsSized c.self.view_is c.self.invariant) c.in-Reach.cpu c.in-Reach.page (subst (IsEvent c.args.self.now.sizes) c.in-Reach.is c.requires) c.reach.result c.reach.ensures) in
    record { answer = t.answer; shown = t.shown; sizes = t.sizes }

pub returns-in-Drop : goal.returns-in-Drop
returns-in-Drop c =
    let t : Told c.args.self.now c.args.event.now c.drop_page.result c.drop_page.new.self = subst (λ e. Told c.args.self.now e c.drop_page.result c.drop_page.new.self) (sym c.in-Drop.is)
    (subst (λ a. Told c.args.self.now (events.Drop c.in-Drop.cpu c.in-Drop.page) a c.drop_page.new.self) (sym c.drop_page.ensures.done)
    (drop_told c.args.self.now (subst IsSized c.self.view_is c.self.invariant) c.drop_page.new.self c.in-Drop.cpu c.in-Drop.page (subst (IsEvent c.args.self.now.sizes) c.in-Drop.is c.requires) c.drop_page.ensures.step)) in
    record { answer = t.answer; shown = t.shown; sizes = t.sizes }

pub returns-in-Ack : goal.returns-in-Ack
returns-in-Ack c =
    let t : Told c.args.self.now c.args.event.now c.acknowledge.result c.acknowledge.new.self = subst (λ e. Told c.args.self.now e c.acknowledge.result c.acknowledge.new.self) (sym c.in-Ack.is)
    (subst (λ a. Told c.args.self.now (events.Ack c.in-Ack.cpu) a c.acknowledge.new.self) (sym c.acknowledge.ensures.done)
    (ack_told c.args.self.now (subst IsSized c.self.view_is c.self.invariant) c.acknowledge.new.self c.in-Ack.cpu (subst (IsEvent c.args.self.now.sizes) c.in-Ack.is c.requires) c.acknowledge.ensures.step)) in
    record { answer = t.answer; shown = t.shown; sizes = t.sizes }

pub returns-in-Free : goal.returns-in-Free
returns-in-Free c =
    let t : Told c.args.self.now c.args.event.now c.free.result c.free.new.self = subst (λ e. Told c.args.self.now e c.free.result c.free.new.self) (sym c.in-Free.is)
    (free_told c.args.self.now (subst IsSized c.self.view_is c.self.invariant) c.free.new.self c.in-Free.frame (subst (IsEvent c.args.self.now.sizes) c.in-Free.is c.requires) c.free.result c.free.ensures) in
    record { answer = t.answer; shown = t.shown; sizes = t.sizes }
