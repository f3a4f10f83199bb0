use Rattle.std.specs.Prelude.{◌≡◌, []}
use Rattle.std.proofs.Common.{refl, ◌∙◌, arith}
use Rattle.cursor_apply.specs.declared.putting.Reference.TheVariants as reference
use Rattle.cursor_apply.proofs.Backs.{no_refs}
use Rattle.cursor_apply.proofs.PutKept.{left_first, left_more, left_none}
use Rattle.cursor_apply.proofs.PutRows.{put_places}
use Rattle.cursor_apply.proofs.returning.return_slots.Goals as goal

pub loop-page-init : goal.loop-page-init
loop-page-init c = record {
  left = left_first (λ r. reference.Slot r) c.args.slots.now.items c.args.held.now.rows;
  capacity = refl;
  places = refl;
  room = refl;
}

pub loop-page-preserved : goal.loop-page-preserved
loop-page-preserved c = record {
  left = left_more (λ r. reference.Slot r) c.args.slots.now.items c.loop-page.slots.items c.pop.new.self.items c.args.held.now.rows c.loop-page.held.rows c.put.new.held.rows c.in-Some.page c.in-Some.slot c.in-Some.ensures.items c.loop-page.invariant.places c.loop-page.invariant.left c.put.ensures.put;
  capacity = c.in-Some.ensures.capacity ∙ c.loop-page.invariant.capacity;
  places = put_places c.in-Some.page (reference.Slot c.in-Some.slot) c.loop-page.held.rows c.put.new.held.rows c.put.ensures.put ∙ c.loop-page.invariant.places;
  room = c.put.ensures.room ∙ c.loop-page.invariant.room;
}

pub returns-clause-back : goal.returns-clause-back
returns-clause-back c =
    let none : c.loop-page.slots.items ≡ [] = no_refs c.loop-page.slots.items (let same = c.loop-page.slots.ok in let z = c.in_default.ensures.cases.0 in omega arith) in
    left_none (λ r. reference.Slot r) c.args.slots.now.items c.loop-page.slots.items c.args.held.now.rows c.loop-page.held.rows none c.loop-page.invariant.left
