use Rattle.page_map.specs.Cell.{frame_of, slot_of}
use Rattle.page_map.proofs.Few.{one_each, owners_fewer}
use Rattle.page_map.proofs.count_laws.a_number_has_at_most_one_owner_in_each_space.Goals as goal

pub returns-clause-one_for_a_frame : goal.returns-clause-one_for_a_frame
returns-clause-one_for_a_frame c st space n ok = one_each frame_of n st ok.shared_frames space

pub returns-clause-one_for_a_slot : goal.returns-clause-one_for_a_slot
returns-clause-one_for_a_slot c st space n ok = one_each slot_of n st ok.shared_slots space

pub returns-clause-frames : goal.returns-clause-frames
returns-clause-frames c st space n ok = owners_fewer frame_of n st ok ok.shared_frames space

pub returns-clause-slots : goal.returns-clause-slots
returns-clause-slots c st space n ok = owners_fewer slot_of n st ok ok.shared_slots space
