-- Which wants of a call take a number.
--     takes_frame, takes_slot      whether a want takes a frame, or a slot, by the counts of a state
--     taking      the pages of the wants that pass a test, in their order
--     WantsTake      these are the pages of the call that the page map grants frames and slots
use Rattle.std.specs.Prelude.{◌≡◌, ℕ, Bool, true, false, not, List, map, nat_eq}
use Rattle.std.specs.List.{filter}
use Rattle.corten_base.specs.declared.calls.Call.{Call}
use Rattle.page_map.specs.Effect.{wanting_frames_of, wanting_slots_of}
use Rattle.page_map.specs.State.{State, frame_owners}
use Rattle.machine_plan.specs.declared.kit.Want.{Want}
use Rattle.machine_plan.specs.declared.kit.Want.TheVariants.{Fresh, Copy, Out, Back}
use Rattle.machine_plan.specs.Uses.{wants_of}

-- a page whose frame has no other owner keeps it
abbrev pub takes_frame : State → Want → Bool
takes_frame st (Fresh what) = true
takes_frame st (Copy frame) = not (nat_eq (frame_owners st frame) 1)
takes_frame st (Out frame) = false
takes_frame st (Back slot) = true

-- and only such a frame goes out
abbrev pub takes_slot : State → Want → Bool
takes_slot st (Fresh what) = false
takes_slot st (Copy frame) = false
takes_slot st (Out frame) = nat_eq (frame_owners st frame) 1
takes_slot st (Back slot) = false

abbrev pub taking : (Want → Bool) → List (ℕ × Want) → List ℕ
taking takes wants = map (λ w. w.0) (filter (λ w. takes w.1) wants)

abbrev pub TakesFrames : State → Call → Type 0
TakesFrames st c = taking (takes_frame st) (wants_of st c) ≡ wanting_frames_of st c

abbrev pub TakesSlots : State → Call → Type 0
TakesSlots st c = taking (takes_slot st) (wants_of st c) ≡ wanting_slots_of st c

abbrev pub WantsTake : Type 0
WantsTake = (st : State) (c : Call) → TakesFrames st c × TakesSlots st c
