use Rattle.std.proofs.Common.{◌+◌, ◌∷◌, ◌^◌, subst, arith}
use Rattle.space_cells.specs.Walking.{IsWalk}
use Rattle.space_cells.proofs.Walking.{walk_more, walk_over}
use Rattle.plain_spaces.specs.Numbers.{frame_in, slot_in}
use Rattle.plain_spaces.proofs.Held.{IsNextHeld, walked}
use Rattle.plain_spaces.proofs.Released.{none_lost, may_lose, frames_lost, slots_lost, all_lost}
use Rattle.plain_spaces.proofs.copy.leave.Goals as goal
use Rattle.plain_spaces.proofs.copy.leave.Goals.{In-Some}

-- the pages that are left, with the next one
abbrev left : (c : In-Some) → IsWalk c.args.cells.now c.loop-page.invariant.next ((c.in-Some._page, c.in-Some.number) ∷ c.next.new.self)
left c = subst (IsWalk c.args.cells.now c.loop-page.invariant.next) c.in-Some.ensures.some c.loop-page.invariant.walk

abbrev at : (c : In-Some) → IsNextHeld c.args.cells.now c.loop-page.invariant.next (2 ^ 44) c.in-Some._page c.in-Some.number
at c = walked c.args.cells.now c.requires.low c.loop-page.invariant.next c.in-Some._page c.in-Some.number c.next.new.self (left c)

pub loop-page-init : goal.loop-page-init
loop-page-init c = record {
  next = 0;
  high = omega arith;
  walk = c.held_pages-walk.ensures;
  frames = none_lost frame_in c.args.counts.now.frames c.args.cells.now;
  slots = none_lost slot_in c.args.counts.now.slots c.args.cells.now;
}

pub give_up-requires : goal.give_up-requires
give_up-requires c =
    may_lose c.args.cells.now c.args.counts.now c.loop-page.counts c.loop-page.invariant.next (2 ^ 44) c.in-Some._page c.in-Some.number (at (goal.at.give_up-requires c).In-Some)
    c.loop-page.invariant.frames c.loop-page.invariant.slots c.requires.counted

pub loop-page-preserved : goal.loop-page-preserved
loop-page-preserved c =
    let was = c.loop-page.invariant in
    let here = at (goal.at.loop-page-preserved c).In-Some in
    record {
      next = c.in-Some._page + 1;
      high = omega (arith, here.high);
      walk = walk_more c.args.cells.now was.next c.in-Some._page c.in-Some.number c.next.new.self (left (goal.at.loop-page-preserved c).In-Some);
      frames = frames_lost c.args.cells.now c.args.counts.now c.loop-page.counts was.next (2 ^ 44) c.in-Some._page c.in-Some.number here was.frames was.slots c.give_up.new.counts c.give_up.ensures;
      slots = slots_lost c.args.cells.now c.args.counts.now c.loop-page.counts was.next (2 ^ 44) c.in-Some._page c.in-Some.number here was.frames was.slots c.give_up.new.counts c.give_up.ensures;
    }

pub returns : goal.returns
returns c =
    let was = c.loop-page.invariant in
    let over = walk_over c.args.cells.now was.next (subst (IsWalk c.args.cells.now was.next) c.in_default.ensures.none was.walk) in
    all_lost c.args.cells.now c.args.counts.now c.loop-page.counts was.next (2 ^ 44) was.high (λ q from before. over q from) c.requires.low was.frames was.slots
