use Rattle.std.proofs.Common.{arith}
use Rattle.plain_spaces.specs.Numbers.{frame_in, slot_in}
use Rattle.plain_spaces.proofs.Released.{nothing_done, this_is_carried, frames_further, slots_further, all_done}
use Rattle.plain_spaces.proofs.numbers.give_up_all.Goals as goal

pub loop-number-init : goal.loop-number-init
loop-number-init c = record { frames = nothing_done frame_in c.args.numbers.now c.args.counts.now.frames; slots = nothing_done slot_in c.args.numbers.now c.args.counts.now.slots }

pub give_up-requires : goal.give_up-requires
give_up-requires c =
    let was = c.loop-number.invariant in
    this_is_carried c.args.numbers.now c.args.counts.now c.loop-number.counts c.loop-number.number-index _ c.loop-number-test.true was.frames was.slots c.requires

pub loop-number-preserved : goal.loop-number-preserved
loop-number-preserved c =
    let was = c.loop-number.invariant in
    record {
      frames = frames_further c.args.numbers.now c.args.counts.now c.loop-number.counts c.loop-number.number-index _ c.loop-number-test.true was.frames was.slots c.give_up.new.counts c.give_up.ensures;
      slots = slots_further c.args.numbers.now c.args.counts.now c.loop-number.counts c.loop-number.number-index _ c.loop-number-test.true was.frames was.slots c.give_up.new.counts c.give_up.ensures;
    }

pub returns : goal.returns
returns c =
    let was = c.loop-number.invariant in
    all_done c.args.numbers.now c.args.counts.now c.loop-number.counts c.loop-number.number-index (omega (arith, c.loop-number-test.false)) was.frames was.slots
