use Rattle.std.proofs.Common.{◌≡◌, ℕ, List, [], ◌++◌, ◌∙◌, ap, subst, arith}
use Rattle.std.proofs.lemmas.List.{append-nil}
use Rattle.machine_plan.specs.Kits.{Refs}
use Rattle.cursor_apply.specs.Putting.{owned_again, pages_of, AreShort}
use Rattle.cursor_apply.specs.declared.putting.Reference.TheVariants as reference
use Rattle.cursor_apply.proofs.PutRows.{put_places}
use Rattle.cursor_apply.proofs.Backs.{slot_back, no_refs, no_seconds}
use Rattle.cursor_apply.proofs.putting.put_slots.Goals as goal

pub loop-page-preserved : goal.loop-page-preserved
loop-page-preserved c = record {
  back = λ b space known more others left.
      slot_back b space known more others c.loop-page.slots.items c.pop.new.self.items c.loop-page.seconds.items c.pop-in-Some.new.self.items c.loop-page.held.rows c.put.new.held.rows c.in-Some.page c.in-Some.slot c.pop-in-Some.result
      c.in-Some.ensures.items c.pop-in-Some.ensures.items (λ more. c.pop-in-Some.ensures.variant.1 (let same = c.loop-page.seconds.ok in omega arith)) c.own_slot-own.result (c.own_slot-own.ensures ∙ ap (owned_again c.in-Some.slot) c.spare_of.ensures) (c.loop-page.invariant.back b space known more others left) c.put.ensures.put;
  none = λ empty. no_seconds c.loop-page.seconds.items c.pop-in-Some.new.self.items c.pop-in-Some.result c.pop-in-Some.ensures.items (c.loop-page.invariant.none empty);
  capacity = c.in-Some.ensures.capacity ∙ c.loop-page.invariant.capacity;
  second_capacity = c.pop-in-Some.ensures.capacity ∙ c.loop-page.invariant.second_capacity;
  places = put_places c.in-Some.page (reference.Slot c.own_slot-own.result) c.loop-page.held.rows c.put.new.held.rows c.put.ensures.put ∙ c.loop-page.invariant.places;
  room = c.put.ensures.room ∙ c.loop-page.invariant.room;
}

pub returns-clause-back : goal.returns-clause-back
returns-clause-back c = λ b space known more others consistent refs backable of_space short.
    let left = c.loop-page.invariant.back b space known more others (record { consistent = consistent; refs = refs; backable = backable; of_space = of_space; short = short }) in
    let none : c.loop-page.slots.items ≡ [] = no_refs c.loop-page.slots.items (let same = c.loop-page.slots.ok in let z = c.in_default.ensures.cases.0 in omega arith) in
    subst (λ (l : List ℕ). AreShort b known others l c.loop-page.held.rows) (ap (λ (l : Refs). more ++ pages_of l) none ∙ append-nil more) left.short
