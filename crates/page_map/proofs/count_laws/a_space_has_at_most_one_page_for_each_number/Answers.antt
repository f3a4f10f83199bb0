use Rattle.std.specs.Prelude.{is_some}
use Rattle.page_map.specs.declared.cell.Cell.{Cell}
use Rattle.page_map.specs.Cell.{frame_of, slot_of}
use Rattle.page_map.proofs.Bounds.{few_numbered, few_numbered_in}
use Rattle.page_map.proofs.count_laws.a_space_has_at_most_one_page_for_each_number.Goals as goal

pub returns-clause-frames : goal.returns-clause-frames
returns-clause-frames c st space ok = few_numbered frame_of st.limits.frames 0 0 (λ (c : Cell). is_some (frame_of c)) st space ok.shared_frames ok.frames (λ c h. h)

pub returns-clause-slots : goal.returns-clause-slots
returns-clause-slots c st space ok = few_numbered slot_of st.limits.swap 0 0 (λ (c : Cell). is_some (slot_of c)) st space ok.shared_slots ok.slots (λ c h. h)

pub returns-clause-frames_in_a_range : goal.returns-clause-frames_in_a_range
returns-clause-frames_in_a_range c st space first count passes ok = few_numbered_in frame_of st.limits.frames first count passes st space ok.shared_frames ok.frames

pub returns-clause-slots_in_a_range : goal.returns-clause-slots_in_a_range
returns-clause-slots_in_a_range c st space first count passes ok = few_numbered_in slot_of st.limits.swap first count passes st space ok.shared_slots ok.slots
