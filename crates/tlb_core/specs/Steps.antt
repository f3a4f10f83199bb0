-- What each event makes of what is kept, with its answer.
--     IsLeastUnused      the least frame that is used for nothing
--     MapStep, UnmapStep, FillStep, ReachStep, DropStep, AckStep, FreeStep      the events
--     concerns, IsHeard, AreHeard      what a use becomes once a processor was heard
use Rattle.std.specs.Prelude.{◌≡◌, ◌≢◌, ◌<◌, ◌↔◌, ℕ, Bool, true, cond, nat_eq, ◌&&◌, List, Option, Some, None, slice_set, replicate}
use Rattle.std.specs.Int.{bit_at}
use Rattle.tlb_core.specs.declared.uses.FrameUse.{FrameUse}
use Rattle.tlb_core.specs.declared.uses.FrameUse.TheVariants as uses
use Rattle.tlb_core.specs.declared.events.TlbAnswer.{TlbAnswer}
use Rattle.tlb_core.specs.declared.events.TlbAnswer.TheVariants as answers
use Rattle.tlb_core.specs.Shown.{Kept, frame_at, cache_of, use_of}

pub record IsLeastUnused (old : Kept) (frame : ℕ) : Type 0 where
  pub there : frame < old.sizes.frames
  pub unused : use_of old.uses frame ≡ uses.Free
  pub least : (other : ℕ) → other < frame → use_of old.uses other ≢ uses.Free

abbrev pub MapStep : Kept → ℕ → TlbAnswer → Kept → Type 0
MapStep old page answers.Used new = (frame_at old.table page ≢ None) × (new ≡ old)
MapStep old page answers.NoFree new =
    (frame_at old.table page ≡ None) × ((frame : ℕ) → frame < old.sizes.frames → use_of old.uses frame ≢ uses.Free) × (new ≡ old)
MapStep old page (answers.At frame) new =
    (frame_at old.table page ≡ None) × IsLeastUnused old frame
    × (new ≡ record old { table = slice_set old.table page (Some frame); uses = slice_set old.uses frame uses.Mapped })
MapStep old page _ new = ⊥

-- the bits of the processors are 1, and no others
abbrev pub IsAll : ℕ → ℕ → Type 0
IsAll cpus mask = (cpu : ℕ) → (bit_at mask cpu ≡ 1) ↔ (cpu < cpus)

abbrev pub UnmapStep : Kept → ℕ → TlbAnswer → Kept → Type 0
UnmapStep old page answers.None new = (frame_at old.table page ≡ None) × (new ≡ old)
UnmapStep old page answers.Ok new = (frame mask : ℕ) × (frame_at old.table page ≡ Some frame) × IsAll old.sizes.cpus mask
    × (new ≡ record old { table = slice_set old.table page None; uses = slice_set old.uses frame (uses.Pending page mask) })
UnmapStep old page _ new = ⊥

-- the caches with one entry changed
abbrev pub with_entry : List (List (Option ℕ)) → ℕ → ℕ → Option ℕ → List (List (Option ℕ))
with_entry caches cpu page entry = slice_set caches cpu (slice_set (cache_of caches cpu) page entry)

abbrev pub FillStep : Kept → ℕ → ℕ → TlbAnswer → Kept → Type 0
FillStep old cpu page answers.None new = (frame_at old.table page ≡ None) × (new ≡ old)
FillStep old cpu page answers.Ok new = (frame : ℕ) × (frame_at old.table page ≡ Some frame)
    × (new ≡ record old { caches = with_entry old.caches cpu page (Some frame) })
FillStep old cpu page _ new = ⊥

abbrev pub ReachStep : Kept → ℕ → ℕ → TlbAnswer → Type 0
ReachStep old cpu page (answers.Hit frame) = frame_at (cache_of old.caches cpu) page ≡ Some frame
ReachStep old cpu page answers.Miss = frame_at (cache_of old.caches cpu) page ≡ None
ReachStep old cpu page _ = ⊥

-- whether the page was dropped: the one that is named, or any
abbrev pub concerns : Option ℕ → ℕ → Bool
concerns None page = true
concerns (Some only) page = nat_eq only page

-- A pending frame of a page that was dropped has the processor's bit at 0 from then on.
abbrev pub IsHeard : Option ℕ → ℕ → FrameUse → FrameUse → Type 0
IsHeard dropped cpu (uses.Pending page mask) new = (left : ℕ) × (new ≡ uses.Pending page left)
    × ((other : ℕ) → bit_at left other ≡ cond (concerns dropped page && nat_eq other cpu) 0 (bit_at mask other))
IsHeard dropped cpu old new = new ≡ old

abbrev pub AreHeard : Option ℕ → ℕ → List FrameUse → List FrameUse → Type 0
AreHeard dropped cpu old new = (frame : ℕ) → IsHeard dropped cpu (use_of old frame) (use_of new frame)

abbrev pub DropStep : Kept → ℕ → ℕ → Kept → Type 0
DropStep old cpu page new = AreHeard (Some page) cpu old.uses new.uses
    × (new ≡ record old { caches = with_entry old.caches cpu page None; uses = new.uses })

abbrev pub AckStep : Kept → ℕ → Kept → Type 0
AckStep old cpu new = AreHeard None cpu old.uses new.uses
    × (new ≡ record old { caches = slice_set old.caches cpu (replicate 64 None); uses = new.uses })

abbrev pub FreeStep : Kept → ℕ → TlbAnswer → Kept → Type 0
FreeStep old frame answers.Idle new = ((page mask : ℕ) → use_of old.uses frame ≢ uses.Pending page mask) × (new ≡ old)
FreeStep old frame (answers.Wait cpu) new = (page mask : ℕ) × (use_of old.uses frame ≡ uses.Pending page mask)
    × (bit_at mask cpu ≡ 1) × ((other : ℕ) → other < cpu → bit_at mask other ≡ 0) × (new ≡ old)
FreeStep old frame answers.Ok new = (page mask : ℕ) × (use_of old.uses frame ≡ uses.Pending page mask)
    × ((cpu : ℕ) → bit_at mask cpu ≡ 0) × (new ≡ record old { uses = slice_set old.uses frame uses.Free })
FreeStep old frame _ new = ⊥
