-- The answer of each event by what came before it.
--     Sizes      how many processors and frames there are
--     IsEvent      an event that names a page, a processor and a frame that are there
--     IsAnswer      the answer of an event after a history
--     IsRun      each event of a history has its answer by what came before it
--     ReachesNoneAnew, CachesNoneFree      no processor reaches a frame given anew; no cache has a free frame
use Rattle.std.specs.Prelude.{◌≡◌, ◌<◌, ◌≤◌, ◌∷◌, ◌++◌, ℕ, All}
use Rattle.tlb_core.specs.declared.events.TlbEvent.{TlbEvent}
use Rattle.tlb_core.specs.declared.events.TlbEvent.TheVariants as events
use Rattle.tlb_core.specs.declared.events.TlbAnswer.{TlbAnswer}
use Rattle.tlb_core.specs.declared.events.TlbAnswer.TheVariants as answers
use Rattle.tlb_core.specs.Histories.{Entry, History, Is}
use Rattle.tlb_core.specs.Caches.{IsGive, HasPage, CacheHas, IsPending, IsUnheard, IsFree}

pub record Sizes : Type 0 where
  pub cpus : ℕ
  pub frames : ℕ

-- Pages are those from 0 to 63.
abbrev pub IsEvent : Sizes → TlbEvent → Type 0
IsEvent sizes (events.Map page) = page < 64
IsEvent sizes (events.Unmap page) = page < 64
IsEvent sizes (events.Fill cpu page) = (cpu < sizes.cpus) × (page < 64)
IsEvent sizes (events.Reach cpu page) = (cpu < sizes.cpus) × (page < 64)
IsEvent sizes (events.Drop cpu page) = (cpu < sizes.cpus) × (page < 64)
IsEvent sizes (events.Ack cpu) = cpu < sizes.cpus
IsEvent sizes (events.Free frame) = frame < sizes.frames

-- `map`: used where the table has the page; nofree where no frame is free; else at the least free frame.
abbrev pub IsMapAnswer : Sizes → History → ℕ → TlbAnswer → Type 0
IsMapAnswer sizes h page answers.Used = HasPage h page
IsMapAnswer sizes h page answers.NoFree = ¬ HasPage h page × ((frame : ℕ) → ¬ IsFree sizes.frames h frame)
IsMapAnswer sizes h page (answers.At frame) =
    ¬ HasPage h page × IsFree sizes.frames h frame × ((other : ℕ) → IsFree sizes.frames h other → frame ≤ other)
IsMapAnswer sizes h page _ = ⊥

-- `unmap` and `fill`: none where the table has not the page; else ok.
abbrev pub IsPageAnswer : History → ℕ → TlbAnswer → Type 0
IsPageAnswer h page answers.None = ¬ HasPage h page
IsPageAnswer h page answers.Ok = HasPage h page
IsPageAnswer h page _ = ⊥

-- `reach`: hit with the frame that the processor's cache has for the page; else miss.
abbrev pub IsReachAnswer : History → ℕ → ℕ → TlbAnswer → Type 0
IsReachAnswer h cpu page (answers.Hit frame) = CacheHas h cpu page frame
IsReachAnswer h cpu page answers.Miss = (frame : ℕ) → ¬ CacheHas h cpu page frame
IsReachAnswer h cpu page _ = ⊥

-- `free`: idle where the frame is not pending; wait for the least processor that may still have it; else ok.
abbrev pub IsFreeAnswer : Sizes → History → ℕ → TlbAnswer → Type 0
IsFreeAnswer sizes h frame answers.Idle = ¬ IsPending h frame
IsFreeAnswer sizes h frame (answers.Wait cpu) =
    (cpu < sizes.cpus) × IsUnheard h frame cpu × ((other : ℕ) → other < sizes.cpus → IsUnheard h frame other → cpu ≤ other)
IsFreeAnswer sizes h frame answers.Ok = IsPending h frame × ((cpu : ℕ) → cpu < sizes.cpus → ¬ IsUnheard h frame cpu)
IsFreeAnswer sizes h frame _ = ⊥

abbrev pub IsAnswer : Sizes → History → TlbEvent → TlbAnswer → Type 0
IsAnswer sizes h (events.Map page) answer = IsMapAnswer sizes h page answer
IsAnswer sizes h (events.Unmap page) answer = IsPageAnswer h page answer
IsAnswer sizes h (events.Fill cpu page) answer = IsPageAnswer h page answer
IsAnswer sizes h (events.Reach cpu page) answer = IsReachAnswer h cpu page answer
IsAnswer sizes h (events.Drop cpu page) answer = answer ≡ answers.Ok
IsAnswer sizes h (events.Ack cpu) answer = answer ≡ answers.Ok
IsAnswer sizes h (events.Free frame) answer = IsFreeAnswer sizes h frame answer

abbrev pub IsRun : Sizes → History → Type 0
IsRun sizes h = (before later : History) (x : Entry) → h ≡ before ++ x ∷ later → IsEvent sizes x.event × IsAnswer sizes before x.event x.answer

-- Where a processor reaches a frame, a fill of its made the entry of its cache, and no give of the frame stands after it.
abbrev pub ReachesNoneAnew : History → Type 0
ReachesNoneAnew h = (before later : History) (x : Entry) (cpu page frame : ℕ) →
    h ≡ before ++ x ∷ later → Is (events.Reach cpu page) (answers.Hit frame) x →
    CacheHas before cpu page frame × ((fill : CacheHas before cpu page frame) → All (λ y. ¬ IsGive frame y) fill.later)

-- A frame that a cache has is not free.
abbrev pub CachesNoneFree : Sizes → History → Type 0
CachesNoneFree sizes h = (cpu page frame : ℕ) → cpu < sizes.cpus → CacheHas h cpu page frame → ¬ IsFree sizes.frames h frame
