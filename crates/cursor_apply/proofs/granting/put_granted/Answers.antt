use Rattle.std.proofs.Common.{inl}
use Rattle.cursor_apply.specs.Putting.{pages_of}
use Rattle.cursor_apply.proofs.Backs.{of_space_still}
use Rattle.cursor_apply.proofs.granting.put_granted.Goals as goal

pub returns-clause-back : goal.returns-clause-back
returns-clause-back c = λ b space known lack.
    let kit = c.args.kit.now in
    let own = pages_of kit.own_frames.items in
    let own_slots = pages_of kit.own_slots.items in
    let first = c.put_frames.ensures.back b space known own _ lack.consistent lack.frames (λ some. inl (lack.backed.1, lack.seconds.0)) (λ some. lack.of_space) lack.short in
    let then_of = of_space_still space c.args.held.now.rows c.put_frames.new.held.rows c.put_frames.ensures.places lack.of_space in
    let second = c.put_slots.ensures.back b space known own_slots own lack.consistent lack.slots (λ some. inl (lack.backed.3, lack.seconds.1)) (λ some. then_of) first in
    let of_space = of_space_still space c.put_frames.new.held.rows c.put_slots.new.held.rows c.put_slots.ensures.places then_of in
    c.put_back.ensures.back b space known (record {
      consistent = lack.consistent;
      frames = lack.own_frames;
      slots = lack.own_slots;
      frames_backable = λ some. inl (lack.backed.0, c.put_frames.ensures.seconds lack.seconds.0);
      slots_backable = λ some. inl (lack.backed.2, c.put_slots.ensures.seconds lack.seconds.1);
      frames_of_space = λ some. of_space;
      slots_of_space = λ some. of_space;
      short = second;
    })
