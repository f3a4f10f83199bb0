-- What the core keeps in place of the history.
--     Kept      the table, the caches and the uses of the frames
--     IsFor, AreHeard      a use tells what a frame is used for; a mask tells which processors have not been heard
--     IsSized      the sizes of what is kept
--     IsShown      what is kept tells all of the history that later answers need
use Rattle.std.specs.Prelude.{◌≡◌, ◌<◌, ◌≤◌, ◌↔◌, ℕ, length, List, [], Option, Some, None, slice_index_or}
use Rattle.std.specs.Int.{bit_at}
use Rattle.tlb_core.specs.declared.uses.FrameUse.{FrameUse}
use Rattle.tlb_core.specs.declared.uses.FrameUse.TheVariants as uses
use Rattle.tlb_core.specs.Histories.{History}
use Rattle.tlb_core.specs.Caches.{TableHas, HasFrame, CacheHas, IsPending, IsPendingFrom, IsUnheardFrom}
use Rattle.tlb_core.specs.Answers.{Sizes, IsRun}

pub record Kept : Type 0 where
  pub sizes : Sizes
  pub table : List (Option ℕ)
  pub caches : List (List (Option ℕ))
  pub uses : List FrameUse

-- the frame of a page
abbrev pub frame_at : List (Option ℕ) → ℕ → Option ℕ
frame_at table page = slice_index_or table page None

-- the cache of a processor
abbrev pub cache_of : List (List (Option ℕ)) → ℕ → List (Option ℕ)
cache_of caches cpu = slice_index_or caches cpu []

abbrev pub use_of : List FrameUse → ℕ → FrameUse
use_of list frame = slice_index_or list frame uses.Free

-- in the table at one page, and not pending
pub record IsMapped (h : History) (frame : ℕ) : Type 0 where
  pub somewhere : HasFrame h frame
  pub settled : ¬ IsPending h frame
  pub once : (page other : ℕ) → TableHas h page frame → TableHas h other frame → page ≡ other

-- pending from one page, and the bits of the processors that may still have it are 1
pub record IsWaiting (cpus : ℕ) (h : History) (frame page unheard : ℕ) : Type 0 where
  pub unused : ¬ HasFrame h frame
  pub pending : IsPendingFrom h page frame
  pub once : (other : ℕ) → IsPendingFrom h other frame → other ≡ page
  pub bits : (cpu : ℕ) → (bit_at unheard cpu ≡ 1) ↔ ((cpu < cpus) × IsUnheardFrom h page frame cpu)

abbrev pub IsFor : ℕ → History → ℕ → FrameUse → Type 0
IsFor cpus h frame uses.Free = (¬ HasFrame h frame) × (¬ IsPending h frame)
IsFor cpus h frame uses.Mapped = IsMapped h frame
IsFor cpus h frame (uses.Pending page unheard) = IsWaiting cpus h frame page unheard

pub record IsShown (h : History) (kept : Kept) : Type 0 where
  pub run : IsRun kept.sizes h
  pub table : (page frame : ℕ) → (frame_at kept.table page ≡ Some frame) ↔ TableHas h page frame
  pub caches : (cpu page frame : ℕ) → cpu < kept.sizes.cpus → (frame_at (cache_of kept.caches cpu) page ≡ Some frame) ↔ CacheHas h cpu page frame
  pub uses : (frame : ℕ) → IsFor kept.sizes.cpus h frame (use_of kept.uses frame)

-- what each value of the core keeps
pub record IsSized (kept : Kept) : Type 0 where
  pub cpus : kept.sizes.cpus ≤ 8
  pub frames : kept.sizes.frames ≤ 64
  pub table : length kept.table ≡ 64
  pub caches : length kept.caches ≡ 8
  pub each : (cpu : ℕ) → cpu < 8 → length (cache_of kept.caches cpu) ≡ 64
  pub uses : length kept.uses ≡ 64
  pub in_range : (page frame : ℕ) → frame_at kept.table page ≡ Some frame → frame < kept.sizes.frames
