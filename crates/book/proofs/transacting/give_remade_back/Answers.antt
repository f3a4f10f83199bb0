use Rattle.std.proofs.Common.{refl, ap, ◌∙◌, arith}
use Rattle.book.specs.Rearranging.{not_remade}
use Rattle.book.proofs.Transacted.{still_held, still_backed, given_back}
use Rattle.book.proofs.transacting.give_remade_back.Goals as goal

pub give_back_frames-requires-clause-held : goal.give_back_frames-requires-clause-held
give_back_frames-requires-clause-held c = still_held _ _ _ c.keep_first-frames_kept.ensures.same c.requires.held_frames

pub give_back_frames-requires-clause-backed : goal.give_back_frames-requires-clause-backed
give_back_frames-requires-clause-backed c = still_backed c.args.pool.now _ _ c.keep_first-frames_kept.ensures.same c.requires.backed_frames

pub give_back_slots-requires-clause-held : goal.give_back_slots-requires-clause-held
give_back_slots-requires-clause-held c = still_held _ _ _ c.keep_first-slots_kept.ensures.same c.requires.held_slots

pub give_back_slots-requires-clause-backed : goal.give_back_slots-requires-clause-backed
give_back_slots-requires-clause-backed c = still_backed c.args.area.now _ _ c.keep_first-slots_kept.ensures.same c.requires.backed_slots

pub returns : goal.returns
returns c = record {
  frames = given_back _ _ _ c.keep_first-frames_kept.ensures.same _ _ c.give_back_frames.ensures.gives;
  slots = given_back _ _ _ c.keep_first-slots_kept.ensures.same _ _ c.give_back_slots.ensures.gives;
  left_frames = c.give_back_frames.ensures.left ∙ c.keep_first-frames_kept.ensures.first ∙ ap (λ changes. not_remade changes c.args.kit.now.own_frames.items) c.as_slice.ensures.value;
  left_slots = c.give_back_slots.ensures.left ∙ c.keep_first-slots_kept.ensures.first ∙ ap (λ changes. not_remade changes c.args.kit.now.own_slots.items) c.as_slice-2.ensures.value;
  came_frames = refl;
  came_slots = refl;
  second_frames = refl;
  second_slots = refl;
  lists = λ room. record {
    needed = refl;
    rows = refl;
    gone = refl;
    changes = refl;
    early = refl;
    pieces = refl;
    wants = refl;
    room = record {
      wants = room.wants;
      own_frames = omega (arith, room.own_frames, c.give_back_frames.ensures.room, c.keep_first-frames_kept.ensures.room);
      own_slots = omega (arith, room.own_slots, c.give_back_slots.ensures.room, c.keep_first-slots_kept.ensures.room);
      second_frames = room.second_frames;
      second_slots = room.second_slots;
      frames = room.frames;
      slots = room.slots;
      rows = room.rows;
      gone = room.gone;
      changes = room.changes;
    };
  };
}
