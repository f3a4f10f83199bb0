use Rattle.std.proofs.Common.{◌≡◌, ℕ, List, [], ◌++◌, ◌∙◌, ap, subst, arith}
use Rattle.std.proofs.lemmas.List.{append-nil}
use Rattle.machine_plan.specs.Kits.{Refs}
use Rattle.cursor_apply.specs.Placing.{AreShortIn}
use Rattle.cursor_apply.specs.Putting.{pages_of}
use Rattle.cursor_apply.specs.declared.putting.Reference.TheVariants as reference
use Rattle.cursor_apply.proofs.Backs.{no_refs}
use Rattle.cursor_apply.proofs.PlacedRows.{place_places, slot_placed}
use Rattle.cursor_apply.proofs.placing.place_slots.Goals as goal

pub loop-page-preserved : goal.loop-page-preserved
loop-page-preserved c = record {
  back = λ b known more others rest left.
      slot_placed b c.args.space known more others rest c.loop-page.slots.items c.pop.new.self.items c.loop-page.held.rows c.place.new.held.rows c.in-Some.page c.in-Some.slot c.in-Some.ensures.items (c.loop-page.invariant.back b known more others rest left) c.place.ensures.put;
  capacity = c.in-Some.ensures.capacity ∙ c.loop-page.invariant.capacity;
  places = place_places c.args.space c.in-Some.page (reference.Slot c.in-Some.slot) c.loop-page.held.rows c.place.new.held.rows c.place.ensures.put ∙ c.loop-page.invariant.places;
  room = c.place.ensures.room ∙ c.loop-page.invariant.room;
}

pub returns-clause-back : goal.returns-clause-back
returns-clause-back c = λ b known more others rest consistent refs backed short.
    let left = c.loop-page.invariant.back b known more others rest (record { consistent = consistent; refs_are = refs; backed = backed; short = short }) in
    let none : c.loop-page.slots.items ≡ [] = no_refs c.loop-page.slots.items (let same = c.loop-page.slots.ok in let z = c.in_default.ensures.cases.0 in omega arith) in
    subst (λ (l : List ℕ). AreShortIn b known c.args.space others l rest c.loop-page.held.rows) (ap (λ (l : Refs). more ++ pages_of l) none ∙ append-nil more) left.short
