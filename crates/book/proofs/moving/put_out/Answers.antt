use Rattle.std.proofs.Common.{◌≡◌, ℕ, true, List, Vec, Global, length, refl, sym, ap, ◌∙◌, arith}
use Rattle.std.specs.Prelude.{Some}
use Rattle.std.specs.Vec.{vec_capacity}
use Rattle.std.proofs.lemmas.List.{length_push}
use Rattle.counted_pages.specs.Pages.{CountedPage}
use Rattle.shares.specs.Counts.{count_of, least_unused}
use Rattle.book.proofs.Arriving.{next_turned, slot_taken, frame_backed, one_out, one_stays, out_so}
use Rattle.book.proofs.moving.put_out.Goals as goal
use Rattle.book.proofs.moving.put_out.Goals.{then-count-eq1, else-count-eq1}

pub unwrap-slot-requires : goal.unwrap-slot-requires
unwrap-slot-requires c =
    let popped = rw c.unwrap-page.ensures at c.pop.ensures.items in
    let one : count_of c.loop-done.pool.counts c.unwrap-page.result.1.number ≡ 1 = ap (count_of c.loop-done.pool.counts) (sym c.number.ensures) ∙ sym c.count.ensures.value ∙ c.if-count-eq1.true in
    slot_taken _ _ _ _ _ _ _ _ _ c.unwrap-page.result (next_turned _ _ c.unwrap-page.result popped) c.loop-done.invariant.out one c.put.result c.put.ensures.least

pub give_back-requires-clause-spare : goal.give_back-requires-clause-spare
give_back-requires-clause-spare c =
    let popped = rw c.unwrap-page.ensures at c.pop.ensures.items in
    frame_backed _ _ _ _ _ _ _ _ _ c.unwrap-page.result (next_turned _ _ c.unwrap-page.result popped) c.loop-done.invariant.out

pub loop-done-preserved : goal.loop-done-preserved
loop-done-preserved c =
    let was = c.loop-done.invariant in
    let popped = rw c.unwrap-page.ensures at c.pop.ensures.items in
    let more = next_turned _ _ c.unwrap-page.result popped in
    let count : c.count.result ≡ count_of c.loop-done.pool.counts c.unwrap-page.result.1.number = c.count.ensures.value ∙ ap (count_of c.loop-done.pool.counts) c.number.ensures in
    let long = ap length popped in
    let one_more = length_push c.pop.new.self.items c.unwrap-page.result in
    elim c.if-count-eq1.branch [
      | then-count-eq1 w ↦ (
          let least : Some w.unwrap-slot.result.number ≡ least_unused c.loop-done.area.counts = rw w.unwrap-slot.ensures at w.put.ensures.least in
          let taken = rw w.unwrap-slot.ensures at w.put.ensures.taken in
          let body : w.unwrap-slot.result.body ≡ record { bytes = c.unwrap-page.result.1.body.bytes; own = true } = taken.0 ∙ ap (λ (l : List ℕ). record { bytes = l; own = true }) w.bytes.ensures.value in
          let pushed = rw w.unwrap.ensures at w.push.ensures.items in
          let slots = ap (λ (v : Vec (ℕ × CountedPage) Global). v.items) w.slots-is ∙ pushed in
          let left = ap (λ (v : Vec (ℕ × CountedPage) Global). v.items) w.left-is in
          let slots_room = ap (λ (v : Vec (ℕ × CountedPage) Global). vec_capacity v) w.slots-is in
          let left_room = ap (λ (v : Vec (ℕ × CountedPage) Global). vec_capacity v) w.left-is in
          let out = one_out _ _ _ _ _ _ _ _ _ c.unwrap-page.result more was.out (sym count ∙ w.if-count-eq1.true) c.if-count-eq1.pool c.if-count-eq1.area c.if-count-eq1.slots.items w.unwrap-slot.result least body (w.area-is ∙ taken.1) slots (w.pool-is ∙ w.give_back.ensures) in
          record {
            out = out_so _ _ _ _ _ _ _ _ _ _ _ _ _ out refl refl refl left refl;
            long = omega (arith, was.long, long, one_more);
            few_left = omega (arith, was.few_left, ap length left);
            few_slots = omega (arith, was.few_slots, ap length slots, length_push c.loop-done.slots.items (c.unwrap-page.result.0, w.unwrap-slot.result));
            own_room = c.pop.ensures.capacity ∙ was.own_room;
            left_room = omega (arith, was.left_room, left_room);
            slots_room = omega (arith, was.slots_room, slots_room, w.push.ensures.capacity);
          }
          )
      | else-count-eq1 w ↦ (
          let pushed = rw w.unwrap-else-count-eq1.ensures at w.push-else-count-eq1.ensures.items in
          let slots = ap (λ (v : Vec (ℕ × CountedPage) Global). v.items) w.slots-is in
          let left = ap (λ (v : Vec (ℕ × CountedPage) Global). v.items) w.left-is ∙ pushed in
          let slots_room = ap (λ (v : Vec (ℕ × CountedPage) Global). vec_capacity v) w.slots-is in
          let left_room = ap (λ (v : Vec (ℕ × CountedPage) Global). vec_capacity v) w.left-is in
          let two : count_of c.loop-done.pool.counts c.unwrap-page.result.1.number ≡ 1 → ⊥ = λ one. w.if-count-eq1.false (count ∙ one) in
          let out = one_stays _ _ _ _ _ _ _ _ _ c.unwrap-page.result more was.out two c.if-count-eq1.left.items left in
          record {
            out = out_so _ _ _ _ _ _ _ _ _ _ _ _ _ out w.pool-is w.area-is refl refl slots;
            long = omega (arith, was.long, long, one_more);
            few_left = omega (arith, was.few_left, ap length left, length_push c.loop-done.left.items c.unwrap-page.result);
            few_slots = omega (arith, was.few_slots, ap length slots);
            own_room = c.pop.ensures.capacity ∙ was.own_room;
            left_room = omega (arith, was.left_room, left_room, w.push-else-count-eq1.ensures.capacity);
            slots_room = omega (arith, was.slots_room, slots_room);
          }
          )
    ]
