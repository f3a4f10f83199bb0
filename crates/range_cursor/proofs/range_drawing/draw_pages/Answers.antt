use Rattle.std.specs.Prelude.{◌≡◌, ℕ, suc, ◌&&◌, Bool, true, false, nat_eq, ◌+◌, ◌-◌, ◌≤◌, ◌++◌}
use Rattle.std.proofs.Common.{sym, refl, ◌∙◌, ap, subst, arith}
use Rattle.range_cursor.specs.Drawing.{IsTaken, leaf_place, frames_in, slots_in, frame_part, slot_part, reaches, IsPartOf}
use Rattle.range_cursor.specs.Ranges.{DrawsOn}
use Rattle.range_cursor.proofs.Ranges.{draws_more, at_on, room_for_one, part_back}
use Rattle.range_cursor.proofs.Taken.{past, taken_frames, taken_slots}
use Rattle.range_cursor.proofs.range_drawing.draw_pages.Goals as goal

counted : (first page : ℕ) → first ≤ page → first + (page - first) ≡ page
counted first page low = omega (arith, low)

next : (first page : ℕ) → first ≤ page → suc (page - first) ≡ page + 1 - first
next first page low = omega (arith, low)

pub take_from-drawn-requires : goal.take_from-drawn-requires
take_from-drawn-requires c =
    at_on (reaches c.args.space c.args.first (c.loop-page.page - c.args.first)) c.args.held.now.rows c.loop-page.held.rows (leaf_place c.args.space c.loop-page.page) c.args.place c.loop-page.invariant.draws.drawn
    (c.requires.row c.loop-page.page c.loop-page.invariant.low c.loop-page-test.true)

-- a page beyond those that were gone over is none of them
beyond : (space first n page : ℕ) → page ≡ first + n → reaches space first n space page ≡ false
beyond space first n page at = ap (λ b. nat_eq space space && b) (past first n page at) ∙ and_false (nat_eq space space)
  where
    and_false : (b : Bool) → (b && false) ≡ false
    and_false true = refl
    and_false false = refl

pub list-requires-clause-frame_room : goal.list-requires-clause-frame_room
list-requires-clause-frame_room c =
    let first : ℕ = c.args.first in
    let page : ℕ = c.loop-page.page in
    let was = c.loop-page.invariant in
    let n : ℕ = page - first in
    let at : first + n ≡ page = counted first page was.low in
    let part = part_back frame_part (reaches c.args.space first n) c.args.space page c.args.held.now.rows c.loop-page.held.rows (frames_in page c.take_from-drawn.result) was.draws.drawn (beyond c.args.space first n page (sym at))
    (taken_frames c.args.space page c.loop-page.held.rows c.take_from-drawn.new.held.rows c.take_from-drawn.result c.take_from-drawn.ensures.taken) in
    let all = room_for_one frame_part c.args.space c.args.held.now.rows first (c.args.end - first) n c.args.frames.now.items c.loop-page.frames.items (frames_in page c.take_from-drawn.result) c.requires.few_frames was.draws.frames_are
    (omega (arith, was.low, c.loop-page-test.true)) (subst (λ q. IsPartOf frame_part c.args.space c.args.held.now.rows q (frames_in page c.take_from-drawn.result)) (sym at) part) in
    omega (arith, all, was.frame_room)

pub list-requires-clause-slot_room : goal.list-requires-clause-slot_room
list-requires-clause-slot_room c =
    let first : ℕ = c.args.first in
    let page : ℕ = c.loop-page.page in
    let was = c.loop-page.invariant in
    let n : ℕ = page - first in
    let at : first + n ≡ page = counted first page was.low in
    let part = part_back slot_part (reaches c.args.space first n) c.args.space page c.args.held.now.rows c.loop-page.held.rows (slots_in page c.take_from-drawn.result) was.draws.drawn (beyond c.args.space first n page (sym at))
    (taken_slots c.args.space page c.loop-page.held.rows c.take_from-drawn.new.held.rows c.take_from-drawn.result c.take_from-drawn.ensures.taken) in
    let all = room_for_one slot_part c.args.space c.args.held.now.rows first (c.args.end - first) n c.args.slots.now.items c.loop-page.slots.items (slots_in page c.take_from-drawn.result) c.requires.few_slots was.draws.slots_are
    (omega (arith, was.low, c.loop-page-test.true)) (subst (λ q. IsPartOf slot_part c.args.space c.args.held.now.rows q (slots_in page c.take_from-drawn.result)) (sym at) part) in
    omega (arith, all, was.slot_room)

pub loop-page-preserved : goal.loop-page-preserved
loop-page-preserved c =
    let first : ℕ = c.args.first in
    let page : ℕ = c.loop-page.page in
    let was = c.loop-page.invariant in
    let n : ℕ = page - first in
    let at : first + n ≡ page = counted first page was.low in
    record {
      low = omega (arith, was.low);
      high = omega (arith, c.loop-page-test.true);
      draws = subst (λ m. DrawsOn c.args.space first m c.args.held.now.rows c.take_from-drawn.new.held.rows c.args.frames.now.items c.list.new.frames.items c.args.slots.now.items c.list.new.slots.items) (next first page was.low)
          (draws_more c.args.space first n c.args.held.now.rows c.loop-page.held.rows c.take_from-drawn.new.held.rows c.args.frames.now.items c.loop-page.frames.items c.list.new.frames.items c.args.slots.now.items c.loop-page.slots.items c.list.new.slots.items
          c.take_from-drawn.result was.draws (subst (λ q. IsTaken c.args.space q c.loop-page.held.rows c.take_from-drawn.new.held.rows c.take_from-drawn.result) (sym at) c.take_from-drawn.ensures.taken)
          (c.list.ensures.frames ∙ ap (λ q. c.loop-page.frames.items ++ frames_in q c.take_from-drawn.result) (sym at)) (c.list.ensures.slots ∙ ap (λ q. c.loop-page.slots.items ++ slots_in q c.take_from-drawn.result) (sym at)));
      frame_room = omega (arith, was.frame_room, c.list.ensures.frame_room);
      slot_room = omega (arith, was.slot_room, c.list.ensures.slot_room);
      room = c.take_from-drawn.ensures.room ∙ was.room;
    }
