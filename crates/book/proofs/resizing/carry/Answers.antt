use Rattle.std.proofs.Common.{refl, arith}
use Rattle.book.proofs.resizing.carry.Goals as goal

pub returns : goal.returns
returns c = record {
  frames = c.carry_frames.ensures.gives;
  slots = c.carry_slots.ensures.gives;
  left_frames = c.carry_frames.ensures.left;
  left_slots = c.carry_slots.ensures.left;
  came_frames = refl;
  came_slots = refl;
  second_frames = refl;
  second_slots = refl;
  lists = λ room. record {
    needed = refl;
    rows = refl;
    gone = refl;
    changes = refl;
    early = refl;
    pieces = refl;
    wants = refl;
    room = record {
      wants = room.wants;
      own_frames = omega (arith, room.own_frames, c.carry_frames.ensures.room);
      own_slots = omega (arith, room.own_slots, c.carry_slots.ensures.room);
      second_frames = room.second_frames;
      second_slots = room.second_slots;
      frames = room.frames;
      slots = room.slots;
      rows = room.rows;
      gone = room.gone;
      changes = room.changes;
    };
  };
}
