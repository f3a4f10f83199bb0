use Rattle.std.proofs.Common.{[], ◌<◌, length}
use Rattle.cursor_apply.specs.Putting.{pages_of}
use Rattle.cursor_apply.proofs.Backs.{all_agree, of_space_still}
use Rattle.cursor_apply.proofs.putting.put_back.Goals as goal

pub returns-clause-back : goal.returns-clause-back
returns-clause-back c = λ b space known ready.
    let half = c.put_frames.ensures.back b space known [] (pages_of c.args.kit.now.own_slots.items) ready.consistent ready.frames ready.frames_backable ready.frames_of_space ready.short in
    let of_space = λ (some : 0 < length c.args.kit.now.own_slots.items). of_space_still space c.args.held.now.rows c.put_frames.new.held.rows c.put_frames.ensures.places (ready.slots_of_space some) in
    all_agree b known c.put_slots.new.held.rows (c.put_slots.ensures.back b space known [] [] ready.consistent ready.slots ready.slots_backable of_space half)
